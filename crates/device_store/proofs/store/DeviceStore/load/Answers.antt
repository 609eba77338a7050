use Rattle.std.proofs.Common.{refl, ap, sym, true, false, Some}
use Rattle.device_outside.specs.Interaction.{Done}
use Rattle.device_outside.specs.Outside.{done}
use Rattle.device_outside.proofs.Runs.{tries, asks, joined, ended}
use Rattle.device_defs.specs.Image.{Has}
use Rattle.device_store.proofs.store.DeviceStore.load.Goals as goal

pub returns-then-not-loads-clause-run : goal.returns-then-not-loads-clause-run
returns-then-not-loads-clause-run g c = λ k. rw (← c.loads.ensures, c.if-not-loads.true) done

pub returns-in-Err-clause-run : goal.returns-in-Err-clause-run
returns-in-Err-clause-run g c = λ k. rw (← c.loads.ensures, c.if-not-loads.false, c.in-Err.ensures) (tries false tt done)

pub returns-in-Ok-Denied-clause-run : goal.returns-in-Ok-Denied-clause-run
returns-in-Ok-Denied-clause-run g c =
    λ k. rw (← c.loads.ensures, c.if-not-loads.false) (tries true refl (asks (rw c.in-Ok-Denied.field-0-is at c.in-Ok-Denied.ensures) done))

pub returns-in-Ok-Given-clause-run : goal.returns-in-Ok-Given-clause-run
returns-in-Ok-Given-clause-run g c =
    λ k. rw (← c.loads.ensures, c.if-not-loads.false) (tries true refl (asks (rw c.in-Ok-Given.field-0-is at c.in-Ok-Given.ensures)
    (joined (λ z x. Done z (Some (Has c.args.image))) (c.fill.ensures.run k) (ended refl (ap (λ i. Some (Has i)) (sym c.fill.ensures.image))))))
