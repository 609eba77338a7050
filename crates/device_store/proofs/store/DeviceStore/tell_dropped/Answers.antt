use Rattle.device_outside.specs.Outside.{done}
use Rattle.device_outside.proofs.Runs.{asks}
use Rattle.device_store.proofs.store.DeviceStore.tell_dropped.Goals as goal

pub returns-then-at : goal.returns-then-at
returns-then-at g c = record { run = λ k. rw (← c.at.ensures.value, c.if-at.true) (asks c.drop_frame.ensures done) }

pub returns-else-at : goal.returns-else-at
returns-else-at g c = record { run = λ k. rw (← c.at.ensures.value, c.if-at.false) done }
