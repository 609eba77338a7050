-- A report shows of each device's programs what its history has, where each event shows what came to it.
use Rattle.std.proofs.Common.{[], ◌≡◌, ◌∷◌, ◌++◌, ◌∙◌, ℕ, List, Bool, true, false, refl, sym, ap, append_assoc, if◌then◌else◌, map}
use Rattle.std.proofs.lemmas.List.{append-nil}
use Rattle.std.specs.List.{flat_map}
use Rattle.device_outside.specs.Pool.{Frame}
use Rattle.report_text.specs.declared.line.ReportLine.{ReportLine}
use Rattle.report_text.specs.declared.line.ReportLine.TheVariants as lines
use Rattle.run_report.specs.Closing.{device_lines, ending_lines, frame_line}
use Rattle.run_report.specs.Events.{lines_of}
use Rattle.run_report.specs.Report.{report_lines}
use Rattle.run_report.specs.Shown.{owns, shown_from, shown_of, shows}
use Rattle.run_report.specs.Showing.{AreShown, lines_in}
use Rattle.subsystem_defs.specs.Closing.{DeviceEnd, Counted, LentTo, RunEnding, ending}
use Rattle.subsystem_defs.specs.Decks.{run_from}
use Rattle.subsystem_defs.specs.Lines.{Logged, last_behind}
use Rattle.subsystem_defs.specs.Subsystem.{Subsystem}

-- whether the last END of some lines is the device's
abbrev owned : ℕ → Bool → List ReportLine → Bool
owned d own [] = own
owned d own (x ∷ xs) = owned d (owns d own x) xs

module _ (d : ℕ) where
  first_then : (b own : Bool) (x : ReportLine) (xs ys : List ReportLine)
      → shown_from d own (xs ++ ys) ≡ shown_from d own xs ++ shown_from d (owned d own xs) ys
      → (if b then x ∷ shown_from d own (xs ++ ys) else shown_from d own (xs ++ ys))
      ≡ (if b then x ∷ shown_from d own xs else shown_from d own xs) ++ shown_from d (owned d own xs) ys
  first_then true own x xs ys e = ap (λ (l : List ReportLine). x ∷ l) e
  first_then false own x xs ys e = e

  pub shown_both : (own : Bool) (xs ys : List ReportLine)
      → shown_from d own (xs ++ ys) ≡ shown_from d own xs ++ shown_from d (owned d own xs) ys
  shown_both own [] ys = refl
  shown_both own (x ∷ xs) ys = first_then (shows d own x) (owns d own x) x xs ys (shown_both (owns d own x) xs ys)

  -- the end of a report shows no program

  lost_shows : (n : ℕ) (own : Bool) (ts : List ℕ) → shown_from d own (map (lines.Lost n) ts) ≡ []
  lost_shows n own [] = refl
  lost_shows n own (t ∷ ts) = lost_shows n own ts

  one_shows : (own : Bool) (e : DeviceEnd) → shown_from d own (device_lines e) ≡ []
  one_shows own (Counted n reads writes lost) = lost_shows n own lost
  one_shows own (LentTo n to) = refl

  frames_show : (own : Bool) (fs : List Frame) → shown_from d own (map frame_line fs ++ lines.Finish ∷ []) ≡ []
  frames_show own [] = refl
  frames_show own (f ∷ fs) = frames_show own fs

  devices_show : (own : Bool) (es : List DeviceEnd) (ls : List ReportLine)
      → ((o : Bool) → shown_from d o ls ≡ []) → shown_from d own (flat_map device_lines es ++ ls) ≡ []
  devices_show own [] ls none = none own
  devices_show own (e ∷ es) ls none =
      ap (λ (l : List ReportLine). shown_from d own l) (append_assoc (device_lines e) (flat_map device_lines es) ls)
      ∙ shown_both own (device_lines e) (flat_map device_lines es ++ ls)
      ∙ ap (λ (l : List ReportLine). l ++ shown_from d (owned d own (device_lines e)) (flat_map device_lines es ++ ls)) (one_shows own e)
      ∙ devices_show (owned d own (device_lines e)) es ls none

  ending_shows : (own : Bool) (e : RunEnding) → shown_from d own (ending_lines e) ≡ []
  ending_shows own e = devices_show own e.devices (map frame_line e.frames ++ lines.Finish ∷ []) (λ o. frames_show o e.frames)

  -- from one event to the next

  events_show : (s : Subsystem) (xs : List Logged) → AreShown d s xs → (own : Bool)
      → lines_in (last_behind s xs) d ≡ lines_in s d ++ shown_from d own (flat_map lines_of xs)
  events_show s [] h own = sym (append-nil (lines_in s d))
  events_show s (x ∷ xs) h own =
      events_show x.happened.behind xs h.1 (owned d own (lines_of x))
      ∙ ap (λ (l : List ReportLine). l ++ shown_from d (owned d own (lines_of x)) (flat_map lines_of xs)) (h.0 own)
      ∙ append_assoc (lines_in s d) (shown_from d own (lines_of x)) (shown_from d (owned d own (lines_of x)) (flat_map lines_of xs))
      ∙ ap (λ (l : List ReportLine). lines_in s d ++ l) (sym (shown_both own (lines_of x) (flat_map lines_of xs)))

  pub report_shows : (s : Subsystem) (xs : List Logged) → AreShown d s xs → lines_in s d ≡ []
      → shown_of d (report_lines (run_from s xs)) ≡ lines_in (last_behind s xs) d
  report_shows s xs h none =
      shown_both false (flat_map lines_of xs) (ending_lines (ending (last_behind s xs)))
      ∙ ap (λ (l : List ReportLine). shown_from d false (flat_map lines_of xs) ++ l)
      (ending_shows (owned d false (flat_map lines_of xs)) (ending (last_behind s xs)))
      ∙ append-nil (shown_from d false (flat_map lines_of xs))
      ∙ ap (λ (l : List ReportLine). l ++ shown_from d false (flat_map lines_of xs)) (sym none)
      ∙ sym (events_show s xs h false)
