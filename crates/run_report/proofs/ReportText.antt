-- The text that is written of a run's lines and of its end is that of all its lines.
use Rattle.std.proofs.Common.{◌≡◌, ◌∷◌, [], ◌++◌, ℕ, List, map, refl, sym, ap, ◌∙◌}
use Rattle.std.specs.List.{flat_map}
use Rattle.report_text.specs.declared.line.ReportLine.{ReportLine}
use Rattle.report_text.specs.declared.line.ReportLine.TheVariants as lines
use Rattle.report_text.specs.declared.report.DeviceEnd.{DeviceEnd}
use Rattle.report_text.specs.declared.report.FrameEnd.{FrameEnd}
use Rattle.report_text.specs.Ends.{lines_text}
use Rattle.report_text.specs.Lines.{line_text, text_of}
use Rattle.report_text.specs.Report.{device_text, frame_text, lost_text, report_text}
use Rattle.report_text.proofs.Spaced.{flat_both}
use Rattle.run_report.specs.Closing.{TellsEnding, device_lines, end_lines, ending_lines, frame_end_line, frame_line}
use Rattle.subsystem_defs.specs.Closing.{RunEnding}

both : (xs ys : List ReportLine) → lines_text (xs ++ ys) ≡ lines_text xs ++ lines_text ys
both xs ys = flat_both line_text xs ys

lost : (d : ℕ) (ts : List ℕ) → lost_text d ts ≡ lines_text (map (lines.Lost d) ts)
lost d [] = refl
lost d (t ∷ ts) = ap (λ (l : List ℕ). line_text (lines.Lost d t) ++ l) (lost d ts)

device : (e : DeviceEnd) → device_text e ≡ lines_text (end_lines e)
device e = ap (λ (l : List ℕ). line_text (lines.Device e.device e.totals) ++ l) (lost e.device e.lost.now)

devices : (es : List DeviceEnd) → flat_map device_text es ≡ lines_text (flat_map end_lines es)
devices [] = refl
devices (e ∷ es) =
    ap (λ (l : List ℕ). device_text e ++ l) (devices es) ∙ ap (λ (l : List ℕ). l ++ lines_text (flat_map end_lines es)) (device e)
    ∙ sym (both (end_lines e) (flat_map end_lines es))

frames : (fs : List FrameEnd) → flat_map frame_text fs ≡ lines_text (map frame_end_line fs)
frames [] = refl
frames (f ∷ fs) = ap (λ (l : List ℕ). frame_text f ++ l) (frames fs)

-- behind the devices
below : (fs : List FrameEnd) → flat_map frame_text fs ++ line_text lines.Finish ≡ lines_text (map frame_end_line fs ++ lines.Finish ∷ [])
unfolding text_of
below fs = ap (λ (l : List ℕ). l ++ line_text lines.Finish) (frames fs) ∙ sym (both (map frame_end_line fs) (lines.Finish ∷ []))

closing : (es : List DeviceEnd) (fs : List FrameEnd) →
    flat_map device_text es ++ (flat_map frame_text fs ++ line_text lines.Finish)
    ≡ lines_text (flat_map end_lines es ++ (map frame_end_line fs ++ lines.Finish ∷ []))
closing es fs =
    ap (λ (l : List ℕ). flat_map device_text es ++ l) (below fs)
    ∙ ap (λ (l : List ℕ). l ++ lines_text (map frame_end_line fs ++ lines.Finish ∷ [])) (devices es)
    ∙ sym (both (flat_map end_lines es) (map frame_end_line fs ++ lines.Finish ∷ []))

pub report_is : (events : List ReportLine) (e : RunEnding) (es : List DeviceEnd) (fs : List FrameEnd) → TellsEnding e es fs
    → report_text events es fs ≡ lines_text (events ++ ending_lines e)
report_is events e es fs h =
    ap (λ (l : List ℕ). lines_text events ++ l) (closing es fs)
    ∙ ap (λ (l : List ReportLine). lines_text events ++ lines_text (l ++ (map frame_end_line fs ++ lines.Finish ∷ []))) h.devices_are
    ∙ ap (λ (l : List ReportLine). lines_text events ++ lines_text (flat_map device_lines e.devices ++ (l ++ lines.Finish ∷ []))) h.frames_are
    ∙ sym (both events (ending_lines e))
