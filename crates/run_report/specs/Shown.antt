-- What a report shows of the programs of a device, and that a plain device answers so.
use Rattle.std.specs.Prelude.{◌≡◌, ℕ, ◌==◌, ◌&&◌, Bool, true, false, List, [], ◌∷◌, ◌++◌, Option, Some, None, All, if◌then◌else◌}
use Rattle.std.specs.List.{flat_map}
use Rattle.ckd_types.specs.declared.channel.CommandEnd.{CommandEnd}
use Rattle.plain_defs.specs.declared.journal.Item.{Item}
use Rattle.plain_defs.specs.declared.journal.Item.TheVariants as items
use Rattle.plain_defs.specs.History.{History, OpenEntry}
use Rattle.deck_text.specs.DeckLines.{DeckLines}
use Rattle.device_defs.specs.Marks.{MarksDevice}
use Rattle.report_text.specs.declared.answers.StartAnswer.TheVariants as start
use Rattle.report_text.specs.declared.line.ReportLine.{ReportLine}
use Rattle.report_text.specs.declared.line.ReportLine.TheVariants as lines
use Rattle.report_text.specs.Counting.{is_accepted}
use Rattle.report_text.specs.Events.{ended_lines, program_over_lines}
use Rattle.run_report.specs.Beside.{program_over_line}
use Rattle.run_report.specs.Report.{report_lines}
use Rattle.subsystem_defs.specs.Decks.{DeckRun, Firsts, empty_firsts, run_on}
use Rattle.subsystem_defs.specs.Promised.{IsPlainBehindOn}
use Rattle.subsystem_defs.specs.Subsystem.{devices_of}

-- In a report: the lines of a device's accepted programs, from their START to their OVER

-- DATA and SENSE are of the device where the last END is
abbrev pub shows : ℕ → Bool → ReportLine → Bool
shows d own (lines.Start path device answer) = (device == d) && is_accepted answer
shows d own (lines.End e) = e.device == d
shows d own (lines.Data bytes) = own
shows d own (lines.Sense sense) = own
shows d own (lines.Over path device ordinal how) = device == d
shows d own _ = false

abbrev pub owns : ℕ → Bool → ReportLine → Bool
owns d own (lines.End e) = e.device == d
owns d own _ = own

abbrev pub shown_from : ℕ → Bool → List ReportLine → List ReportLine
shown_from d own [] = []
shown_from d own (line ∷ ls) =
    if shows d own line then line ∷ shown_from d (owns d own line) ls else shown_from d (owns d own line) ls

abbrev pub shown_of : ℕ → List ReportLine → List ReportLine
shown_of d ls = shown_from d false ls

-- By a history: the programs in their kept order, and the one that runs

abbrev pub program_lines : ℕ → ℕ → ℕ → List CommandEnd → List ReportLine
program_lines d path ordinal ends = lines.Start path d (start.Accepted ordinal) ∷ flat_map (ended_lines path d ordinal) ends

abbrev pub item_lines : ℕ → Item → List ReportLine
item_lines d (items.Program e) = program_lines d e.path e.ordinal e.ends ++ program_over_lines (Some (program_over_line d e))
item_lines d _ = []

abbrev pub running_lines : ℕ → Option OpenEntry → List ReportLine
running_lines d (Some o) = program_lines d o.path o.ordinal o.ends
running_lines d None = []

abbrev pub history_lines : ℕ → History → List ReportLine
history_lines d h = flat_map (item_lines d) h.items ++ running_lines d h.running

-- The whole: a device's history at the end is what the report shows, and at every event each history is one of a plain device

abbrev pub ShowsHistory : List ReportLine → MarksDevice → Type 0
ShowsHistory ls d = shown_of d.store.device ls ≡ history_lines d.store.device d.history

-- on volumes that held these tracks first
pub record RunsPlainlyOn (firsts : Firsts) (r : DeckRun) : Type 0 where
  pub plain : All (IsPlainBehindOn firsts) r.events
  pub shown : All (ShowsHistory (report_lines r)) (devices_of r.behind)

abbrev pub DeckRunsPlainlyOn : Firsts → DeckLines → Type 0
DeckRunsPlainlyOn firsts deck = RunsPlainlyOn firsts (run_on firsts deck)

-- on empty ones
abbrev pub RunsPlainly : DeckRun → Type 0
RunsPlainly r = RunsPlainlyOn empty_firsts r

abbrev pub DeckRunsPlainly : DeckLines → Type 0
DeckRunsPlainly deck = DeckRunsPlainlyOn empty_firsts deck
