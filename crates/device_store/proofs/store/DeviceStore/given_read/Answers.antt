use Rattle.std.proofs.Common.{refl, true, false, Some}
use Rattle.device_outside.specs.Interaction.{Done}
use Rattle.device_outside.specs.Outside.{done}
use Rattle.device_outside.proofs.Runs.{tells, joined, ran_weaker}
use Rattle.device_store.proofs.store.DeviceStore.given_read.Goals as goal

pub returns-in-Err-clause-run : goal.returns-in-Err-clause-run
returns-in-Err-clause-run g c = tells false c.in-Err.ensures tt (ran_weaker (λ ok is. tt) (c.unchosen.ensures.run _))

pub returns-in-Ok-clause-run : goal.returns-in-Ok-clause-run
returns-in-Ok-clause-run g c =
    tells true c.in-Ok.ensures refl (joined (λ z took. Done z (Some took)) (rw c.requires.image at c.write_by.ensures.run) done)

pub write_by-requires-clause-of : goal.write_by-requires-clause-of
write_by-requires-clause-of g c = rw c.requires.image c.requires.of
