use Rattle.std.proofs.Common.{true}
use Rattle.path_workers.proofs.KeptOrders.{held_ordered, same_ordered}
use Rattle.path_workers.proofs.device_orders.suspend.Goals as goal

pub returns-then-not-may_suspend : goal.returns-then-not-may_suspend
returns-then-not-may_suspend g c = same_ordered c.args.device.now

pub returns : goal.returns
returns g c =
    held_ordered c.args.device.now c.hold.new.self true c.args.most (λ held. c.may_suspend.ensures c.if-not-may_suspend.false) c.hold.ensures.device
    c.hold.ensures.volume
