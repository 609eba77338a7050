use Rattle.std.proofs.Common.{◌∙◌, ◌+◌, ◌*◌, ◌%◌, arith, refl}
use Rattle.std.proofs.lemmas.List.{length-set}
use Rattle.deck_text.proofs.DigitPairs.{all_read, pair_read}
use Rattle.deck_text.proofs.ccw.read_pairs.Goals as goal

pub loop-i-preserved : goal.loop-i-preserved
loop-i-preserved c =
    rw (c.greater-greatest.ensures, c.greater.ensures) (
      pair_read c.args.word.now c.loop-i.bytes c.loop-i.i c.digit_value-high.result c.digit_value-low.result c.loop-i.greatest
          (omega (arith, c.requires, c.loop-i.invariant.1, c.loop-i-test.true)) (omega (arith, c.loop-i.invariant.1, c.loop-i-test.true)) c.digit_value-high.ensures
          c.digit_value-low.ensures c.loop-i.invariant.0 ((c.digit_value-high.result * 16 % 256 + c.digit_value-low.result) % 256) (λ h l. omega (arith, h, l)),
      length-set c.loop-i.bytes c.loop-i.i ((c.digit_value-high.result * 16 % 256 + c.digit_value-low.result) % 256) ∙ c.loop-i.invariant.1,
    )

pub returns : goal.returns
returns c =
    all_read c.args.word.now c.loop-i.bytes c.loop-i.i c.loop-i.greatest _ (omega (arith, c.requires, c.loop-i.invariant.1))
    (omega (arith, c.loop-i.invariant.1, c.loop-i-test.false)) c.loop-i.invariant.0 refl
