use Rattle.std.proofs.Common.{◌≤◌, ◌<◌, ◌∙◌, ◌+◌, ◌*◌, ℕ, length, slice_index, ap, sym, arith}
use Rattle.report_reading.proofs.EndPieces.{digits_on, value_on}
use Rattle.report_reading.proofs.end_ahead.number_ahead.Goals as goal

pub loop-i-preserved : goal.loop-i-preserved
loop-i-preserved c =
    let within : c.loop-i.i < length c.args.text.now = omega (arith, c.loop-i-test.true) in
    let least : 48 ≤ slice_index c.args.text.now c.loop-i.i = omega (arith, c.if-b-lt48.false) in
    let most : slice_index c.args.text.now c.loop-i.i ≤ 57 = omega (arith, c.if-b-gt57.false) in (
      digits_on c.args.text.now c.loop-i.i c.loop-i.value within least most c.loop-i.invariant.0,
      value_on c.args.text.now c.loop-i.i c.loop-i.value within least most c.loop-i.invariant.1
          ∙ ap (λ (n : ℕ). c.loop-i.value * 10 + n) (sym c.from.ensures),
      omega (arith, c.if-value-gt65535.false),
    )
