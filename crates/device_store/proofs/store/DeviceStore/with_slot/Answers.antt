use Rattle.device_outside.specs.Outside.{done}
use Rattle.device_outside.proofs.Runs.{asks}
use Rattle.device_store.proofs.InPlace.{slot_back}
use Rattle.device_store.proofs.store.DeviceStore.with_slot.Goals as goal

pub returns-then-set_modified-clause-run : goal.returns-then-set_modified-clause-run
returns-then-set_modified-clause-run g c = λ k. asks (rw c.if-set_modified.true at c.set_modified.ensures) done

pub returns-clause-run : goal.returns-clause-run
returns-clause-run g c = λ k. asks (rw c.if-set_modified.false at c.set_modified.ensures) (asks c.free_slot.ensures done)

pub returns-clause-same : goal.returns-clause-same
returns-clause-same g c = λ p want is. slot_back p _ _ _ c.args.slot c.args.self.now.number c.args.t want
    (rw c.if-set_modified.false at c.set_modified.ensures) c.free_slot.ensures
