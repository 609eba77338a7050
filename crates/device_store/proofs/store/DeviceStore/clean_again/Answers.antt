use Rattle.device_outside.specs.Outside.{done}
use Rattle.device_outside.proofs.Runs.{asks}
use Rattle.device_store.proofs.store.DeviceStore.clean_again.Goals as goal

pub returns-then-is_clean : goal.returns-then-is_clean
returns-then-is_clean g c = record { run = λ k. rw (← c.is_clean.ensures, c.if-is_clean.true) (asks c.set_clean.ensures done) }

pub returns-else-is_clean : goal.returns-else-is_clean
returns-else-is_clean g c = record { run = λ k. rw (← c.is_clean.ensures, c.if-is_clean.false) done }
