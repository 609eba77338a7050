use Rattle.std.proofs.Common.{false}
use Rattle.path_workers.proofs.KeptOrders.{held_ordered, same_ordered}
use Rattle.path_workers.proofs.device_orders.resume.Goals as goal

pub returns-then-is_some : goal.returns-then-is_some
returns-then-is_some g c = same_ordered c.args.device.now

pub returns : goal.returns
returns g c =
    held_ordered c.args.device.now c.resume.new.self false c.args.most (λ held. absurd (cc)) c.resume.ensures.device c.resume.ensures.volume
