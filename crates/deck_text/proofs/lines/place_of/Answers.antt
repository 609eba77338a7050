use Rattle.std.proofs.Common.{arith}
use Rattle.deck_text.proofs.LineLemmas.{nowhere_before}
use Rattle.deck_text.proofs.lines.place_of.Goals as goal

pub returns-clause-none : goal.returns-clause-none
returns-clause-none c =
    nowhere_before c.args.text.now c.min-near.result c.far_place_of.result c.args.byte (λ k lt. c.loop-i.invariant k (omega (arith, lt, c.loop-i-test.false)))
    c.far_place_of.ensures.bound c.far_place_of.ensures.none
