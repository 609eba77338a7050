use Rattle.subsystem_core.proofs.Coming.{is_home, is_there}
use Rattle.path_workers.proofs.KeptOrders.{same_ordered}
use Rattle.path_workers.proofs.Replacing.{replaced_ordered}
use Rattle.path_workers.proofs.device_orders.replace.Goals as goal

pub returns-then-not-may_replace : goal.returns-then-not-may_replace
returns-then-not-may_replace g c = same_ordered c.args.device.now

pub replace-old-requires-clause-here : goal.replace-old-requires-clause-here
replace-old-requires-clause-here g c = is_home c.args.device.now c.args.side (c.may_replace.ensures c.if-not-may_replace.false)

pub replace-old-requires-clause-there : goal.replace-old-requires-clause-there
replace-old-requires-clause-there g c = is_there c.args.device.now c.args.side (c.may_replace.ensures c.if-not-may_replace.false)

pub returns : goal.returns
returns g c =
    replaced_ordered c.args.device.now c.replace-old.new.self c.args.side c.args.volume (c.may_replace.ensures c.if-not-may_replace.false)
    c.replace-old.ensures.device c.replace-old.ensures.volume c.replace-old.ensures.other
