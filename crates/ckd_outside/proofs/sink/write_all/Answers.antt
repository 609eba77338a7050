use Rattle.std.proofs.Common.{arith}
use Rattle.std.proofs.lemmas.Grind.{common_steps}
use Rattle.ckd_outside.proofs.Written.{wrote_none, wrote_more}
use Rattle.ckd_outside.proofs.sink.write_all.Goals as goal

pub loop-rest-init : goal.loop-rest-init
loop-rest-init g c = (wrote_none _ _, omega arith)

pub loop-rest-preserved : goal.loop-rest-preserved
loop-rest-preserved g c = (
  wrote_more _ _ _ _ _ _ _ c.loop-rest.invariant.0 c.in_ok-count.ensures.bytes (grind (arith, common_steps)),
  omega (arith, c.loop-rest.invariant.1, c.in_ok-count.ensures.cause.later),
)
