use Rattle.std.proofs.Common.{ap, arith}
use Rattle.ckd_outside.proofs.Lines.{put_more, put_stopped, puts_stopped}
use Rattle.report_text.specs.Ends.{lines_text}
use Rattle.report_text.proofs.KeptLines.{lines_on, spent_on, spent_rest}
use Rattle.report_text.proofs.record.put_all_kept.Goals as goal

pub returns-in_err-put_kept-clause-bytes : goal.returns-in_err-put_kept-clause-bytes
returns-in_err-put_kept-clause-bytes g c =
    puts_stopped _ _ _ _ _ _ _ c.from_residual.ensures.1
    (put_stopped _ _ _ _ _ _ _ _ _ _ c.loop-kept.invariant.0
    (ap lines_text (lines_on c.args.list.now _ _ c.loop-kept.kept-index c.kept-item.result c.loop-kept-test.true c.kept-item.is))
    c.in_err-put_kept.ensures.bytes)

pub loop-kept-preserved : goal.loop-kept-preserved
loop-kept-preserved g c =
    rw (c.split_at.ensures.back, c.split_at-in-loop-kept.ensures.back, c.byte_count.ensures, c.other_count.ensures) (
      put_more _ _ _ _ _ _ _ _ _ _ c.loop-kept.invariant.0
          (ap lines_text (lines_on c.args.list.now _ _ c.loop-kept.kept-index c.kept-item.result c.loop-kept-test.true c.kept-item.is))
          c.in_ok-put_kept.ensures.bytes,
      omega (arith, c.loop-kept.invariant.1, c.in_ok-put_kept.ensures.cause.later),
      spent_rest _ _ _ _ (spent_on c.args.list.now _ _ c.loop-kept.kept-index c.kept-item.result c.loop-kept-test.true c.kept-item.is c.loop-kept.invariant.2),
    )
