use Rattle.deck_run.specs.Ending.{end_lines_of}
use Rattle.deck_run.proofs.Lines.{flat_all, flat_on}
use Rattle.deck_run.proofs.close.record_devices.Goals as goal

pub loop-device-preserved : goal.loop-device-preserved
loop-device-preserved g c =
    flat_on end_lines_of c.args.devices.now c.loop-device.device-index c.device-item.result c.args.report.now c.loop-device.report
    c.record_device.new.report c.loop-device-test.true c.device-item.is c.loop-device.invariant c.in_ok-record_device.ensures

pub returns : goal.returns
returns g c =
    flat_all end_lines_of c.args.devices.now c.loop-device.device-index c.args.report.now c.loop-device.report c.loop-device-test.false
    c.loop-device.invariant
