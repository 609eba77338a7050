-- The lines at the end of a run.
use Rattle.std.specs.Prelude.{◌≡◌, ℕ, List, [], ◌∷◌, ◌++◌, length, map}
use Rattle.std.specs.List.{flat_map}
use Rattle.device_outside.specs.Pool.{Frame}
use Rattle.report_text.specs.declared.answers.DeviceTotals.TheVariants as totals
use Rattle.report_text.specs.declared.line.ReportLine.{ReportLine}
use Rattle.report_text.specs.declared.line.ReportLine.TheVariants as lines
use Rattle.report_text.specs.declared.report.DeviceEnd as report
use Rattle.report_text.specs.declared.report.FrameEnd.{FrameEnd}
use Rattle.subsystem_defs.specs.Closing.{DeviceEnd, Counted, LentTo, RunEnding}

-- a device's calls and lost tracks, or to whom it is lent
abbrev pub device_lines : DeviceEnd → List ReportLine
device_lines (Counted d reads writes lost) = lines.Device d (totals.Calls reads writes (length lost)) ∷ map (lines.Lost d) lost
device_lines (LentTo d to) = lines.Device d (totals.Lent to) ∷ []

abbrev pub frame_line : Frame → ReportLine
frame_line f = lines.Frame f.0.0 f.0.1 f.1

abbrev pub ending_lines : RunEnding → List ReportLine
ending_lines e = flat_map device_lines e.devices ++ (map frame_line e.frames ++ lines.Finish ∷ [])

-- What is handed to the writer of a report says the same

abbrev pub end_lines : report.DeviceEnd → List ReportLine
end_lines e = lines.Device e.device e.totals ∷ map (lines.Lost e.device) e.lost.now

abbrev pub frame_end_line : FrameEnd → ReportLine
frame_end_line f = lines.Frame f.device f.track f.modified

pub record TellsEnding (e : RunEnding) (devices : List report.DeviceEnd) (frames : List FrameEnd) : Type 0 where
  pub devices_are : flat_map end_lines devices ≡ flat_map device_lines e.devices
  pub frames_are : map frame_end_line frames ≡ map frame_line e.frames
