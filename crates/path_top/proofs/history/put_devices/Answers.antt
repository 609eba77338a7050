use Rattle.std.proofs.Common.{arith}
use Rattle.std.specs.List.{flat_map}
use Rattle.std.proofs.lemmas.List.{at_drop_all}
use Rattle.ckd_outside.proofs.Lines.{puts_stopped}
use Rattle.path_top.specs.Devices.{all_told}
use Rattle.path_top.specs.Told.{device_lines}
use Rattle.path_top.proofs.Ended.{devices_on}
use Rattle.path_top.proofs.Texts.{lines_done, lines_more, lines_stopped}
use Rattle.path_top.proofs.Caused.{caused}
use Rattle.path_top.proofs.history.put_devices.Goals as goal

pub returns-in_err-put_device-clause-bytes : goal.returns-in_err-put_device-clause-bytes
returns-in_err-put_device-clause-bytes g c =
    puts_stopped _ _ _ _ _ _ _ c.from_residual.ensures.1
    (lines_stopped _ _ _ _ _ _ _ _ _ _ c.loop-device.invariant.0
    (devices_on c.args.devices.now c.loop-device.device-index c.device-item.result c.loop-device-test.true c.device-item.is)
    c.in_err-put_device.ensures.bytes)

pub loop-device-preserved : goal.loop-device-preserved
loop-device-preserved g c = (
  lines_more _ _ _ _ _ _ _ _ _ _ c.loop-device.invariant.0
      (devices_on c.args.devices.now c.loop-device.device-index c.device-item.result c.loop-device-test.true c.device-item.is)
      c.in_ok-put_device.ensures.bytes,
  omega (arith, c.loop-device.invariant.1, c.in_ok-put_device.ensures.cause.later),
)

pub returns-clause-bytes : goal.returns-clause-bytes
returns-clause-bytes g c =
    lines_done _ _ _ _ _ _ c.loop-device.invariant.0
    (at_drop_all (λ xs. flat_map device_lines (all_told xs)) c.args.devices.now c.loop-device.device-index c.loop-device-test.false)

pub returns-in_err-put_device-clause-cause : goal.returns-in_err-put_device-clause-cause
returns-in_err-put_device-clause-cause g c =
    caused _ _ _ c.from_residual.result c.loop-device.invariant.1 c.in_err-put_device.ensures.cause.later c.in_err-put_device.ensures.cause.failed
