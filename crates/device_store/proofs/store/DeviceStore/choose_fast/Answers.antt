use Rattle.device_outside.specs.Outside.{done}
use Rattle.device_outside.proofs.Runs.{asks}
use Rattle.device_store.proofs.InPlace.{unlisted_same}
use Rattle.device_store.proofs.store.DeviceStore.choose_fast.Goals as goal

pub returns-then-set_modified-clause-run : goal.returns-then-set_modified-clause-run
returns-then-set_modified-clause-run g c = λ k. rw (← c.has.ensures, c.if-has.true) (asks (rw c.if-set_modified.true at c.set_modified.ensures) done)

pub returns-then-has-clause-run : goal.returns-then-has-clause-run
returns-then-has-clause-run g c = λ k. rw (← c.has.ensures, c.if-has.true) (asks (rw c.if-set_modified.false at c.set_modified.ensures) done)

pub returns-clause-run : goal.returns-clause-run
returns-clause-run g c = λ k. rw (← c.has.ensures, c.if-has.false) (c.choose_slot.ensures.run k)

pub returns-then-has-clause-same : goal.returns-then-has-clause-same
returns-then-has-clause-same g c = λ is. unlisted_same _ _ c.args.self.now.number c.args.t (rw c.if-set_modified.false at c.set_modified.ensures)
