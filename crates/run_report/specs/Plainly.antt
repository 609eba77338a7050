-- What a report shows of plain devices: for each device of a deck the programs of a history that a plain device could have.
use Rattle.std.specs.Prelude.{◌≡◌, ℕ, List, All}
use Rattle.deck_text.specs.declared.line.DeviceLine.{DeviceLine}
use Rattle.deck_text.specs.DeckLines.{DeckLines}
use Rattle.deck_text.specs.Plans.{plans_of}
use Rattle.plain_defs.specs.History.{History, IsPlain}
use Rattle.device_laws.specs.NewDevice.{first_state}
use Rattle.report_text.specs.declared.line.ReportLine.{ReportLine}
use Rattle.report_text.specs.Ends.{lines_text}
use Rattle.run_report.specs.Shown.{shown_of, history_lines}
use Rattle.subsystem_defs.specs.Decks.{Firsts, empty_firsts}

-- from START to OVER the lines of its programs are those of a history of the plain device, over the deck's plans and on a volume that held
-- these tracks first
pub record ShowsPlainDeviceOn (firsts : Firsts) (deck : DeckLines) (lines : List ReportLine) (d : DeviceLine) : Type 0 where
  pub history : History
  pub plain : IsPlain (plans_of deck.programs d.number) (first_state d.geometry d.cylinders (firsts d.number d.cylinders)) history
  pub shown : shown_of d.number lines ≡ history_lines d.number history

-- the text is a report's, and so it shows each device
pub record IsPlainReportOn (firsts : Firsts) (deck : DeckLines) (text : List ℕ) : Type 0 where
  pub lines : List ReportLine
  pub spelled : text ≡ lines_text lines
  pub devices : All (ShowsPlainDeviceOn firsts deck lines) deck.devices

-- on empty volumes
abbrev pub IsPlainReport : DeckLines → List ℕ → Type 0
IsPlainReport deck text = IsPlainReportOn empty_firsts deck text
