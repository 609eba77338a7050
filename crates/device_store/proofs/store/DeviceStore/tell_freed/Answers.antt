use Rattle.device_outside.specs.Outside.{done}
use Rattle.device_outside.proofs.Runs.{asks}
use Rattle.device_store.proofs.store.DeviceStore.tell_freed.Goals as goal

pub returns-in-None : goal.returns-in-None
returns-in-None g c = record { run = λ k. rw (← c.at.ensures.value, c.in-None.is) done }

pub returns-in-Some : goal.returns-in-Some
returns-in-Some g c = record { run = λ k. rw (← c.at.ensures.value, c.in-Some.is) (asks c.free_slot.ensures done) }
