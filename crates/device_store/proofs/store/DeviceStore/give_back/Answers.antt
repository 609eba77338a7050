use Rattle.device_outside.proofs.Runs.{asks}
use Rattle.device_store.proofs.store.DeviceStore.give_back.Goals as goal

pub returns-in-Some : goal.returns-in-Some
returns-in-Some g c = record { run = λ k. rw c.in-Some.is (asks c.free_slot.ensures (c.clean_again.ensures.run k)) }
