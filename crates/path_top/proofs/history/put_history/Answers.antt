use Rattle.std.proofs.Common.{[], ◌∷◌}
use Rattle.std.specs.List.{flat_map}
use Rattle.report_text.specs.declared.line.ReportLine.TheVariants as lines
use Rattle.path_top.specs.Devices.{all_told}
use Rattle.path_top.specs.Told.{device_lines}
use Rattle.ckd_outside.proofs.Lines.{puts_stopped}
use Rattle.path_top.proofs.Texts.{lines_longer, lines_then}
use Rattle.path_top.proofs.Caused.{caused_then}
use Rattle.path_top.proofs.history.put_history.Goals as goal

pub returns-in_err-put_devices-clause-bytes : goal.returns-in_err-put_devices-clause-bytes
returns-in_err-put_devices-clause-bytes g c =
    let told = all_told c.args.devices.now in
    puts_stopped _ _ _ _ _ _ _ c.from_residual.ensures.1
    (lines_longer _ _ _ _ (flat_map device_lines told) (lines.Unused c.args.unused ∷ lines.Finish ∷ []) c.in_err-put_devices.ensures.bytes)

pub returns-clause-bytes : goal.returns-clause-bytes
returns-clause-bytes g c =
    let told = all_told c.args.devices.now in
    lines_then _ _ _ _ _ _ _ (flat_map device_lines told) (lines.Unused c.args.unused ∷ lines.Finish ∷ [])
    c.in_ok-put_devices.ensures.bytes c.put_finish.ensures.bytes

pub returns-clause-cause : goal.returns-clause-cause
returns-clause-cause g c = caused_then _ _ _ c.put_finish.result c.in_ok-put_devices.ensures.cause.later c.put_finish.ensures.cause
