use Rattle.device_outside.specs.Outside.{done}
use Rattle.device_store.proofs.store.DeviceStore.tell_track.Goals as goal

pub returns-else-is_owed-clause-run : goal.returns-else-is_owed-clause-run
returns-else-is_owed-clause-run g c = λ k. rw (← c.at.ensures.value, ← c.is_owed.ensures, c.if-is_owed.false) done
