use Rattle.std.proofs.lemmas.Bool.{eq-eqb, ne_eqb}
use Rattle.device_outside.specs.Outside.{done}
use Rattle.device_outside.proofs.Runs.{asks}
use Rattle.device_store.proofs.store.DeviceStore.tell_waiting.Goals as goal

pub returns-then-waiting-before : goal.returns-then-waiting-before
returns-then-waiting-before g c =
    record { run = λ k. rw (← c.waiting_count-waiting.ensures, eq-eqb _ _ c.if-waiting-before.true) done }

pub returns : goal.returns
returns g c =
    record { run = λ k. rw (← c.waiting_count-waiting.ensures, ne_eqb _ _ c.if-waiting-before.false) (asks c.tell_waiting.ensures done) }
