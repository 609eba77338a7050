use Rattle.device_outside.proofs.Runs.{asks}
use Rattle.device_store.proofs.store.DeviceStore.framed_done.Goals as goal

pub returns-then-bypass-clause-run : goal.returns-then-bypass-clause-run
returns-then-bypass-clause-run g c = λ k. rw c.if-bypass.true (asks c.drop_frame.ensures (rw c.set.ensures at (c.free_patch.ensures.run k)))

pub returns-clause-run : goal.returns-clause-run
returns-clause-run g c = λ k. rw c.if-bypass.false (asks c.set_clean.ensures (rw c.set-2.ensures at (c.free_patch-2.ensures.run k)))
