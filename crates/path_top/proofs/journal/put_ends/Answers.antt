use Rattle.std.proofs.Common.{arith, refl}
use Rattle.std.proofs.lemmas.List.{at_drop_all}
use Rattle.ckd_outside.proofs.Lines.{puts_stopped}
use Rattle.path_top.specs.Journals.{end_lines}
use Rattle.path_top.proofs.Steps.{count_least, ends_on}
use Rattle.path_top.proofs.Texts.{lines_last, lines_more, lines_stopped}
use Rattle.path_top.proofs.journal.put_ends.Goals as goal

pub split_at-requires : goal.split_at-requires
split_at-requires g c = rw c.count_before.ensures (count_least c.loop-k.k c.loop-k.left.now)

pub returns-in_err-put_acts_and_end-clause-bytes : goal.returns-in_err-put_acts_and_end-clause-bytes
returns-in_err-put_acts_and_end-clause-bytes g c =
    puts_stopped _ _ _ _ _ _ _ c.from_residual.ensures.1
    (lines_stopped _ _ _ _ _ _ _ _ _ _ c.loop-k.invariant.0
    (ends_on c.args.d c.args.entry.now c.as_slice-ends.result.now c.loop-k.k c.index-ends-k.result c.loop-k.loose c.loop-k.left.now
    (omega (arith, c.loop-k-test.true, c.loop-k.auto.k-end)) c.index-ends-k.is c.count_before.result c.split_at.result.0.now c.split_at.result.1.now _
    c.count_before.ensures c.split_at.ensures.front c.split_at.ensures.back refl)
    c.in_err-put_acts_and_end.ensures.bytes)

pub loop-k-preserved : goal.loop-k-preserved
loop-k-preserved g c = (
  lines_more _ _ _ _ _ _ _ _ _ _ c.loop-k.invariant.0
      (ends_on c.args.d c.args.entry.now c.as_slice-ends.result.now c.loop-k.k c.index-ends-k.result c.loop-k.loose c.loop-k.left.now
      (omega (arith, c.loop-k-test.true, c.loop-k.auto.k-end)) c.index-ends-k.is c.count_before.result c.split_at.result.0.now c.split_at.result.1.now _
      c.count_before.ensures c.split_at.ensures.front c.split_at.ensures.back c.loose_behind_all-loose.ensures)
      c.in_ok-put_acts_and_end.ensures.bytes,
  omega (arith, c.loop-k.invariant.1, c.in_ok-put_acts_and_end.ensures.cause.later),
)

pub returns-clause-bytes : goal.returns-clause-bytes
returns-clause-bytes g c =
    lines_last _ _ _ _ _ _ _ _ _ _ c.loop-k.invariant.0
    (at_drop_all (end_lines c.args.d c.args.entry.now c.loop-k.k c.loop-k.loose c.loop-k.left.now) c.as_slice-ends.result.now c.loop-k.k
    (omega (arith, c.loop-k-test.false, c.loop-k.auto.k-end)))
    c.put_acts.ensures.bytes
