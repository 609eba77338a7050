use Rattle.path_workers.proofs.KeptOrders.{same_ordered}
use Rattle.path_workers.proofs.device_orders.lose.Goals as goal

pub returns-then-is_lent : goal.returns-then-is_lent
returns-then-is_lent g c = same_ordered c.args.device.now
