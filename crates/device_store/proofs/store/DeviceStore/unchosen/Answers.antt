use Rattle.device_outside.specs.Outside.{done}
use Rattle.device_store.proofs.store.DeviceStore.unchosen.Goals as goal

pub returns-in-Through : goal.returns-in-Through
returns-in-Through g c = record { run = λ k. rw c.in-Through.is done }
