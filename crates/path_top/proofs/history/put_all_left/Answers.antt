use Rattle.std.proofs.Common.{arith, le_refl, refl}
use Rattle.ckd_outside.proofs.Lines.{puts_stopped}
use Rattle.device_core.specs.State.{device_of}
use Rattle.device_defs.specs.Start.{left}
use Rattle.path_top.proofs.Ended.{left_none, left_on}
use Rattle.path_top.proofs.Texts.{begun, lines_done, lines_more, lines_stopped}
use Rattle.path_top.proofs.history.put_all_left.Goals as goal

pub returns-in_err-put_left-clause-bytes : goal.returns-in_err-put_left-clause-bytes
returns-in_err-put_left-clause-bytes g c =
    puts_stopped _ _ _ _ _ _ _ c.from_residual.ensures.1
    (lines_stopped _ _ _ _ _ _ _ _ _ _ c.loop-number.invariant.0
    (left_on c.args.device.now.store.number (left (device_of c.args.device.now)) c.loop-number.number c.of.result c.loop-number-test.true c.of.ensures)
    c.in_err-put_left.ensures.bytes)

pub loop-number-preserved : goal.loop-number-preserved
loop-number-preserved g c = (
  lines_more _ _ _ _ _ _ _ _ _ _ c.loop-number.invariant.0
      (left_on c.args.device.now.store.number (left (device_of c.args.device.now)) c.loop-number.number c.of.result c.loop-number-test.true c.of.ensures)
      c.in_ok-put_left.ensures.bytes,
  omega (arith, c.loop-number.invariant.1, c.in_ok-put_left.ensures.cause.later),
  omega (arith, c.loop-number.invariant.2),
)

pub returns-clause-bytes : goal.returns-clause-bytes
returns-clause-bytes g c =
    lines_done _ _ _ _ _ _ c.loop-number.invariant.0
    (left_none c.args.device.now.store.number (left (device_of c.args.device.now)) c.loop-number.number c.loop-number-test.false)

pub loop-number-init : goal.loop-number-init
loop-number-init g c = (begun _ _ _ _ refl, le_refl _, le_refl _)
