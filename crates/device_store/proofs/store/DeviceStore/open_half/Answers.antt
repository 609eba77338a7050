use Rattle.device_outside.specs.Outside.{done}
use Rattle.device_outside.proofs.Runs.{asks}
use Rattle.device_store.proofs.Writes.{marked_clean}
use Rattle.device_store.proofs.store.DeviceStore.open_half.Goals as goal

pub returns-then-was_loose-clause-run : goal.returns-then-was_loose-clause-run
returns-then-was_loose-clause-run g c =
    λ k. rw c.if-was_loose.true (asks c.set_clean.ensures (rw (c.mark.ensures, marked_clean _) done))

pub returns-clause-run : goal.returns-clause-run
returns-clause-run g c = λ k. rw c.if-was_loose.false done
