use Rattle.std.proofs.Common.{refl, ap, sym, true, false, Some}
use Rattle.device_outside.specs.Interaction.{Done}
use Rattle.device_outside.specs.Outside.{done}
use Rattle.device_defs.specs.Background.{did}
use Rattle.device_defs.specs.declared.answers.Did.TheVariants.{Staged}
use Rattle.device_outside.proofs.Runs.{ended, joined, tries, asks}
use Rattle.device_store.proofs.store.DeviceStore.stage_bytes.Goals as goal

pub returns-in-Err-clause-run : goal.returns-in-Err-clause-run
returns-in-Err-clause-run g c = λ k. tries false tt (asks c.drop_frame.ensures done)

pub returns-in-Ok-None-clause-run : goal.returns-in-Ok-None-clause-run
returns-in-Ok-None-clause-run g c =
    λ k. tries true refl (rw (← c.in-Ok-None.ensures.image, c.in-Ok-None.field-0-is)
    (asks c.drop_frame-in-Ok-None.ensures (ended refl (ap Some (sym c.did.ensures)))))

pub returns-in-Ok-Some-clause-run : goal.returns-in-Ok-Some-clause-run
returns-in-Ok-Some-clause-run g c =
    λ k. tries true refl (rw (← c.in-Ok-Some.ensures.image, c.in-Ok-Some.field-0-is)
    (joined (λ z x. Done z (Some (did c.args.given.fault (Staged c.args.t)))) (c.fill.ensures.run k) (ended refl (ap Some (sym c.did-in-Ok-Some.ensures)))))

pub fill-requires-clause-of : goal.fill-requires-clause-of
fill-requires-clause-of g c = rw c.in-Ok-Some.field-0-is at c.in-Ok-Some.ensures.of
