use Rattle.std.proofs.Common.{arith}
use Rattle.ckd_outside.proofs.Lines.{put_more, put_stopped, puts_stopped, flat_step}
use Rattle.ckd_outside.proofs.spelling.put_all.Goals as goal

pub returns-in_err-put-clause-bytes : goal.returns-in_err-put-clause-bytes
returns-in_err-put-clause-bytes g c =
    puts_stopped _ _ _ _ _ _ _ c.from_residual.ensures.1
    (put_stopped _ _ _ _ _ _ _ _ _ _ c.loop-it.invariant.0
    (flat_step g.S.Spelling.text c.args.list.now c.loop-it.it-index c.it-item.result c.loop-it-test.true c.it-item.is)
    c.in_err-put.ensures.bytes)

pub loop-it-preserved : goal.loop-it-preserved
loop-it-preserved g c = (
  put_more _ _ _ _ _ _ _ _ _ _ c.loop-it.invariant.0
      (flat_step g.S.Spelling.text c.args.list.now c.loop-it.it-index c.it-item.result c.loop-it-test.true c.it-item.is)
      c.in_ok-put.ensures.bytes,
  omega (arith, c.loop-it.invariant.1, c.in_ok-put.ensures.cause.later),
)
