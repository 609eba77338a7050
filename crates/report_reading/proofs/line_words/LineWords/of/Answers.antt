use Rattle.std.proofs.Common.{◌∙◌, List, ℕ, Bor, None, Some, sym, arith, length-set}
use Rattle.report_reading.proofs.CutWords.{every_place, one_more}
use Rattle.report_reading.proofs.line_words.LineWords.of.Goals as goal

pub returns-in-None : goal.returns-in-None
returns-in-None c =
    let (before, count) = c.loop-count.invariant in
    sym (one_more (λ (x : Bor (List ℕ)). x.now) c.loop-count.first c.loop-count.count c.first_word.result.0 c.args.text.now c.loop-count.left.now None
    (omega (arith, count, c.loop-count-test.true)) before (rw c.in-None.is at c.first_word.ensures))

pub loop-count-preserved : goal.loop-count-preserved
loop-count-preserved c =
    let (before, count) = c.loop-count.invariant in (
      one_more (λ (x : Bor (List ℕ)). x.now) c.loop-count.first c.loop-count.count c.first_word.result.0 c.args.text.now
          c.loop-count.left.now (Some c.in-Some.more.now)
          (omega (arith, count, c.loop-count-test.true)) before (rw c.in-Some.is at c.first_word.ensures),
      length-set c.loop-count.first c.loop-count.count c.first_word.result.0 ∙ count,
    )

pub returns : goal.returns
returns c =
    let (before, count) = c.loop-count.invariant in
    every_place (λ (x : Bor (List ℕ)). x.now) c.loop-count.first c.loop-count.count c.args.text.now c.loop-count.left.now c.loop-count-test.false count before
