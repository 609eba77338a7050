use Rattle.device_outside.specs.Outside.{done}
use Rattle.device_outside.proofs.Runs.{asks}
use Rattle.device_store.proofs.InPlace.{unlisted_same}
use Rattle.device_store.proofs.store.DeviceStore.choose_loose.Goals as goal

pub returns-then-set_modified-clause-run : goal.returns-then-set_modified-clause-run
returns-then-set_modified-clause-run g c = λ k. rw c.if-usage.true (asks (rw c.if-set_modified.true at c.set_modified.ensures) done)

pub returns-then-usage-clause-run : goal.returns-then-usage-clause-run
returns-then-usage-clause-run g c = λ k. rw c.if-usage.true (asks (rw c.if-set_modified.false at c.set_modified.ensures) done)

pub returns-clause-run : goal.returns-clause-run
returns-clause-run g c = λ k. rw c.if-usage.false done

pub returns-then-usage-clause-same : goal.returns-then-usage-clause-same
returns-then-usage-clause-same g c = λ is. unlisted_same _ _ c.args.self.now.number c.args.t (rw c.if-set_modified.false at c.set_modified.ensures)
