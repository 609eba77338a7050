-- The report of a small deck's run, as text.
use Rattle.std.proofs.Common.{◌≡◌, ℕ, zero, suc, ◌-◌, List, [], ◌∷◌, ◌++◌, map}
use Rattle.std.specs.Prelude.{codes, decimal, length, replicate, Bool, true, ◌&&◌, Result, Ok, Err}
use Rattle.std.specs.Str.{bytes_eq}
use Prim.Native.String.{String}
use Rattle.deck_plan.specs.declared.event.EventLine.TheVariants as lines
use Rattle.deck_text.specs.declared.line.DeckFault.{DeckFault}
use Rattle.deck_text.specs.DeckLines.{DeckLines}
use Rattle.deck_text.specs.Parse.{parsed}
use Rattle.device_defs.specs.Marks.{MarksDevice}
use Rattle.report_text.specs.declared.line.ReportLine.{ReportLine}
use Rattle.report_text.specs.Ends.{lines_text}
use Rattle.report_text.specs.Lines.{text_of}
use Rattle.run_report.specs.Report.{report_lines, report_of}
use Rattle.run_report.specs.Shown.{shown_of, history_lines}
use Rattle.subsystem_defs.specs.Decks.{DeckRun, run_asked}
use Rattle.subsystem_defs.specs.Subsystem.{devices_of}
use Rattle.subsystem_defs.specs.Lines.{Asked}
use Rattle.subsystem_defs.proofs.Stand.{Sample, line}

-- a run, and its report by lines
pub record Row : Type 0 where
  pub sample : Sample
  pub report : List (List ℕ)

abbrev pub row : Sample → List (List ℕ) → Row
row sample report = record { sample = sample; report = report }

-- the next program of a path on device 0
abbrev pub go_of : ℕ → List Asked
go_of path = line (lines.Start path 0) ++ line (lines.Run 0)

abbrev pub texts : List String → List (List ℕ)
texts ss = map codes ss

abbrev pub texts_of : List ReportLine → List (List ℕ)
texts_of ls = map text_of ls

abbrev pub run_by : Sample → DeckRun
run_by x = run_asked x.deck x.asked

abbrev pub reported : Row → List (List ℕ)
reported r = texts_of (report_lines (run_by r.sample))

abbrev pub wanted : Row → List (List ℕ)
wanted r = r.report

abbrev pub Report : List Row → Type 0
Report rows = map reported rows ≡ map wanted rows

-- the digits of 32 bytes that begin so
abbrev pub sense : String → List (List ℕ)
sense digits = (codes "SENSE " ++ codes digits ++ replicate (64 - length (codes digits)) 0x30) ∷ []

-- so many tracks are copied, each by a read and a write
unfoldable pub copied_tracks : ℕ → List (List ℕ)
copied_tracks zero = []
copied_tracks (suc n) = copied_tracks n ++ (codes "BACK 0 COPIED " ++ decimal n) ∷ codes "IO 1 1" ∷ []

-- a pair whose tracks are level
abbrev pub paired : List (List ℕ)
paired = codes "PAIR 0 1 DONE" ∷ copied_tracks 15 ++ codes "BACK 0 NOTHING" ∷ []

-- What a report shows of its devices' programs is what their histories have

abbrev pub shows_history : List ReportLine → MarksDevice → Bool
shows_history ls d = bytes_eq (lines_text (shown_of d.store.device ls)) (lines_text (history_lines d.store.device d.history))

abbrev pub show_histories : List ReportLine → List MarksDevice → Bool
show_histories ls [] = true
show_histories ls (d ∷ ds) = shows_history ls d && show_histories ls ds

abbrev pub is_shown : Sample → Bool
is_shown x = show_histories (report_lines (run_by x)) (devices_of (run_by x).behind)

-- From the text of a deck

abbrev pub reported_of : Result DeckLines DeckFault → List ℕ
reported_of (Ok deck) = report_of deck
reported_of (Err fault) = []

abbrev pub reported_text : List ℕ → List ℕ
reported_text text = reported_of (parsed text)
