use Rattle.std.proofs.Common.{◌∙◌, ◌++◌, ◌∷◌, ◌+◌, List, ℕ, decimal, ap, sym, arith}
use Rattle.std.proofs.lemmas.List.{take_rest}
use Rattle.report_reading.proofs.EndPieces.{number_stands}
use Rattle.report_reading.proofs.end_ahead.number_until.Goals.{else-text-eq48-via-then-text-eq48+else-digits-ne1, else-text-eq48-via-else-text-eq48}
use Rattle.report_reading.proofs.end_ahead.number_until.Goals as goal

pub returns : goal.returns
returns c =
    number_stands c.args.text.now c.args.digits c.args.value c.requires.within c.requires.digits c.requires.value
    (omega (arith, c.ranges.value.fits)) (omega (arith, c.if-digits-eq0.false)) (omega (arith, c.if-text-digits-ne32.false))
    (λ zero. elim c.else-text-eq48.branch [
      | else-text-eq48-via-then-text-eq48+else-digits-ne1 w ↦ omega (arith, w.if-digits-ne1.false)
      | else-text-eq48-via-else-text-eq48 w ↦ absurd (w.if-text-eq48.false zero)
    ])
    ∙ ap (λ (l : List ℕ). decimal c.args.value ++ 32 ∷ l) (sym (take_rest c.args.text.now (c.args.digits + 1)))
