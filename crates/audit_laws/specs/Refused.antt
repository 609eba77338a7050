-- What an audit's no says of the first line with a fault.
use Rattle.std.specs.Prelude.{◌≡◌, ℕ, false, List, [], ◌∷◌, take, drop, Ok, Err}
use Rattle.deck_text.specs.DeckLines.{DeckLines}
use Rattle.report_text.specs.declared.line.ReportLine.{ReportLine}
use Rattle.report_reading.specs.declared.fault.LineFault.{LineFault}
use Rattle.report_reading.specs.Reading.{line_of}
use Rattle.deck_audit.specs.declared.state.Due.TheVariants.{Nothing}
use Rattle.deck_audit.specs.Stands.{stands}
use Rattle.deck_audit.specs.State.{AuditState, first_state}
use Rattle.deck_audit.specs.declared.status.AuditWhy.{AuditWhy}
use Rattle.deck_audit.specs.declared.status.AuditWhy.TheVariants.{Form, Place, History}
use Rattle.audit_laws.specs.FirstFault.{IsBad, report_lines}
use Rattle.audit_laws.specs.Shown.{CanBePlain, TellsOfPlain, TextShows}

-- whatever pasts of plain devices the lines before it tell of, behind them the line shows none that the device of that number can have
abbrev pub ShowsNone : DeckLines → List (List ℕ) → List ℕ → ℕ → Type 0
ShowsNone deck before text d =
    (s t : AuditState) → TellsOfPlain (first_state deck) before s → TextShows s (line_of text) t → CanBePlain t d → ⊥

-- why the line behind those that led the audit to a state can't come: it is no line, may not stand there, or shows no plain device; or the
-- report ends before its FINISH
abbrev pub IsForbidden : DeckLines → List (List ℕ) → AuditState → List (List ℕ) → AuditWhy → Type 0
IsForbidden deck before s (text ∷ texts) Form = (fault : LineFault) × (line_of text ≡ Err fault)
IsForbidden deck before s (text ∷ texts) Place = (line : ReportLine) × (line_of text ≡ Ok line) × (stands s line ≡ false)
IsForbidden deck before s (text ∷ texts) History = (d : ℕ) × ShowsNone deck before text d
IsForbidden deck before s [] Form = ⊥
IsForbidden deck before s [] Place = s.due ≡ Nothing → ⊥
IsForbidden deck before s [] History = ⊥

-- a text of a deck and a report, whose first line with a fault that is
pub record IsNot (text : List ℕ) (line : ℕ) (why : AuditWhy) : Type 0 where
  pub bad : IsBad text line why
  pub forbidden : IsForbidden bad.deck (take bad.report.good (report_lines text bad.lines)) bad.report.state
      (drop bad.report.good (report_lines text bad.lines)) why
