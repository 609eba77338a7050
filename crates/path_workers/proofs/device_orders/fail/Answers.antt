use Rattle.path_workers.proofs.KeptOrders.{same_ordered}
use Rattle.path_workers.proofs.device_orders.fail.Goals as goal

pub returns-then-not-may_lose : goal.returns-then-not-may_lose
returns-then-not-may_lose g c = same_ordered c.args.device.now
