-- The text of a report.
use Rattle.std.specs.Prelude.{ℕ, List, ◌++◌}
use Rattle.std.specs.List.{flat_map}
use Rattle.report_text.specs.declared.line.ReportLine.{ReportLine}
use Rattle.report_text.specs.declared.line.ReportLine.TheVariants as lines
use Rattle.report_text.specs.declared.report.DeviceEnd.{DeviceEnd}
use Rattle.report_text.specs.declared.report.FrameEnd.{FrameEnd}
use Rattle.report_text.specs.Ends.{lines_text}
use Rattle.report_text.specs.Lines.{line_text}

-- a device's lost tracks in the order of their list
abbrev pub lost_text : ℕ → List ℕ → List ℕ
lost_text device tracks = flat_map (λ t. line_text (lines.Lost device t)) tracks

abbrev pub device_text : DeviceEnd → List ℕ
device_text d = line_text (lines.Device d.device d.totals) ++ lost_text d.device d.lost.now

abbrev pub frame_text : FrameEnd → List ℕ
frame_text f = line_text (lines.Frame f.device f.track f.modified)

-- the lines of the events, the devices, the frames, and a last line
abbrev pub report_text : List ReportLine → List DeviceEnd → List FrameEnd → List ℕ
report_text events devices frames =
    lines_text events ++ (flat_map device_text devices ++ (flat_map frame_text frames ++ line_text lines.Finish))
