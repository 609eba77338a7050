use Rattle.std.proofs.Common.{◌∙◌, refl, sym, true, false}
use Rattle.device_outside.specs.Outside.{done}
use Rattle.device_outside.proofs.Runs.{tries, asks}
use Rattle.device_store.proofs.Firmly.{unframed_firm}
use Rattle.device_store.proofs.Looks.{unframed}
use Rattle.device_store.proofs.Moves.{had_ok}
use Rattle.device_store.proofs.store.DeviceStore.stage.Goals as goal

pub returns-then-has-clause-run : goal.returns-then-has-clause-run
returns-then-has-clause-run g c = rw (← c.has.ensures, c.if-has.true) done

pub returns-then-has-2-clause-run : goal.returns-then-has-2-clause-run
returns-then-has-2-clause-run g c = rw (← c.has.ensures, c.if-has.false, ← c.has-2.ensures, c.if-has-2.true) done

pub returns-in-Err-clause-run : goal.returns-in-Err-clause-run
returns-in-Err-clause-run g c = rw (← c.has.ensures, c.if-has.false, ← c.has-2.ensures, c.if-has-2.false, c.in-Err.ensures) (tries false tt done)

pub returns-in-Ok-Denied-clause-run : goal.returns-in-Ok-Denied-clause-run
returns-in-Ok-Denied-clause-run g c =
    rw (← c.has.ensures, c.if-has.false, ← c.has-2.ensures, c.if-has-2.false)
    (tries true refl (asks (rw c.in-Ok-Denied.field-0-is at c.in-Ok-Denied.ensures) done))

pub returns-in-Ok-Given-clause-run : goal.returns-in-Ok-Given-clause-run
returns-in-Ok-Given-clause-run g c =
    rw (← c.has.ensures, c.if-has.false, ← c.has-2.ensures, c.if-has-2.false) (tries true (had_ok c.stage_granted.result)
    (asks (rw c.in-Ok-Given.field-0-is at c.in-Ok-Given.ensures) c.stage_granted.ensures.run))

pub stage_granted-requires-clause-firm : goal.stage_granted-requires-clause-firm
stage_granted-requires-clause-firm g c = λ here.
    unframed_firm c.args.self.now.loose.loose c.args.self.now.frames c.args.t _ (c.args.self.now.loose_modified here) refl
    (unframed _ (sym c.has.ensures ∙ c.if-has.false))
