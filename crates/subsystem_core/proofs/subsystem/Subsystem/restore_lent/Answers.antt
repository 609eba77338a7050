use Rattle.subsystem_core.proofs.Parting.{restored_nowhere}
use Rattle.subsystem_core.proofs.subsystem.Subsystem.restore_lent.Goals as goal

pub restore_at-requires-clause-lent : goal.restore_at-requires-clause-lent
restore_at-requires-clause-lent g c = rw (c.in-Some.is, c.deref.ensures.value) at c.lent_place.ensures

pub returns-in-None-clause-restored : goal.returns-in-None-clause-restored
returns-in-None-clause-restored g c =
    restored_nowhere c.args.a c.args.volume c.args.self.now.devices.items (rw (c.in-None.is, c.deref.ensures.value) at c.lent_place.ensures)
