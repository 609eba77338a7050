use Rattle.std.proofs.Common.{ℕ, arith}
use Rattle.ckd_outside.proofs.Lines.{flat_step, put_more, put_stopped, puts_stopped}
use Rattle.report_text.specs.declared.line.ReportLine.TheVariants.{Lost}
use Rattle.report_text.specs.Lines.{line_text}
use Rattle.report_text.proofs.report.put_lost.Goals as goal

pub returns-in_err-put-clause-bytes : goal.returns-in_err-put-clause-bytes
returns-in_err-put-clause-bytes g c =
    puts_stopped _ _ _ _ _ _ _ c.from_residual.ensures.1
    (put_stopped _ _ _ _ _ _ _ _ _ _ c.loop-i.invariant.0
    (flat_step (λ (t : ℕ). line_text (Lost c.args.device t)) c.args.tracks.now c.loop-i.i c.nth.result c.loop-i-test.true c.nth.ensures)
    c.in_err-put.ensures.bytes)

pub loop-i-preserved : goal.loop-i-preserved
loop-i-preserved g c = (
  put_more _ _ _ _ _ _ _ _ _ _ c.loop-i.invariant.0
      (flat_step (λ (t : ℕ). line_text (Lost c.args.device t)) c.args.tracks.now c.loop-i.i c.nth.result c.loop-i-test.true c.nth.ensures)
      c.in_ok-put.ensures.bytes,
  omega (arith, c.loop-i.invariant.1, c.in_ok-put.ensures.cause.later),
)
