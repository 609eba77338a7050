-- How far an audit is, and what it comes to where a text follows.
use Rattle.std.specs.Prelude.{◌≡◌, ℕ, ◌+◌, ◌++◌, Bool, true, false, List, [], drop, Option, Some, None, Result, Ok, Err}
use Rattle.deck_text.specs.declared.line.DeckFault.{DeckFault}
use Rattle.deck_text.specs.declared.line.DeckFault.TheVariants as deck_faults
use Rattle.deck_text.specs.DeckLines.{DeckLines}
use Rattle.deck_text.specs.Parse.{parsed}
use Rattle.deck_audit.specs.declared.status.AuditStatus.{AuditStatus}
use Rattle.deck_audit.specs.declared.status.AuditStatus.TheVariants.{Yes, No, NoReport, DeckRefused, Limit, NoMemory}
use Rattle.deck_audit.specs.declared.status.AuditWhy.{AuditWhy}
use Rattle.deck_audit.specs.declared.status.AuditWhy.TheVariants.{Place}
use Rattle.deck_audit.specs.State.{AuditState, first_state}
use Rattle.deck_audit.specs.Verdict.{cut_lines, deck_part, judged_lines, judged_text, report_from}
use Rattle.report_audit.specs.declared.auditor.Auditor.{Auditor}
use Rattle.report_audit.specs.Auditor.{IsAuditOf, IsJudged}

-- the deck's lines so far, each with its line feed; how many lines there were; behind REPORT the auditor; what it came to
pub record Progress : Type 0 where
  pub deck : List ℕ
  pub lines : ℕ
  pub auditor : Option Auditor
  pub status : Option AuditStatus

abbrev pub begun : Progress
begun = record { deck = []; lines = 0; auditor = None; status = None }

-- and the line that has begun
pub record Halfway : Type 0 where
  pub audit : Progress
  pub line : List ℕ

-- Before REPORT

-- the report that a text is, behind so many lines
abbrev pub report_behind : ℕ → DeckLines → List ℕ → Option ℕ → AuditStatus
report_behind lines deck text (Some n) = judged_lines (lines + (n + 2)) (first_state deck) (drop (n + 1) (cut_lines text))
report_behind lines deck text None = NoReport

-- the answer to a deck that has a fault
abbrev pub fault_answer : DeckFault → AuditStatus
fault_answer (deck_faults.Refused line why) = DeckRefused line why
fault_answer (deck_faults.Limit which) = Limit which
fault_answer deck_faults.NoMemory = NoMemory

abbrev pub deck_behind : ℕ → Result DeckLines DeckFault → List ℕ → Option ℕ → AuditStatus
deck_behind lines (Ok deck) text at = report_behind lines deck text at
deck_behind lines (Err fault) text at = fault_answer fault

-- behind so many lines of a deck stands a text, whose first line REPORT is at a place
abbrev pub behind_at : ℕ → List ℕ → List ℕ → Option ℕ → AuditStatus
behind_at lines deck text at = deck_behind lines (parsed (deck ++ deck_part text at)) text at

abbrev pub behind : ℕ → List ℕ → List ℕ → AuditStatus
behind lines deck text = behind_at lines deck text (report_from 0 (cut_lines text))

-- At any line

-- behind REPORT
pub record Reporting (lines : ℕ) (auditor : Auditor) (text : List ℕ) (status : AuditStatus) : Type 0 where
  pub state : AuditState
  pub held : IsAuditOf auditor state
  pub comes : status ≡ judged_lines (lines + 1) state (cut_lines text)

abbrev pub Comes_by : Option AuditStatus → Option Auditor → Progress → List ℕ → AuditStatus → Type 0
Comes_by (Some answer) auditor p text status = status ≡ answer
Comes_by None (Some auditor) p text status = Reporting p.lines auditor text status
Comes_by None None p text status = status ≡ behind p.lines p.deck text

-- it comes to this where this text follows
abbrev pub Comes : Progress → List ℕ → AuditStatus → Type 0
Comes p text status = Comes_by p.status p.auditor p text status

-- what one comes to where a text follows, the other comes to where its rest follows
abbrev pub GoesOn : Progress → List ℕ → Progress → List ℕ → Type 0
GoesOn p text q rest = (status : AuditStatus) → Comes p text status → Comes q rest status

-- its answer is known already
abbrev pub over_by : Option AuditStatus → Bool
over_by (Some status) = true
over_by None = false

abbrev pub is_over : Progress → Bool
is_over p = over_by p.status

-- it is behind REPORT
abbrev pub some_auditor : Option Auditor → Bool
some_auditor (Some auditor) = true
some_auditor None = false

abbrev pub is_reporting : Progress → Bool
is_reporting p = some_auditor p.auditor

-- Its steps

-- a line was judged, where there is an auditor
abbrev pub JudgedIn : Option Auditor → Option Auditor → Option AuditWhy → List ℕ → Type 0
JudgedIn None after why text = after ≡ None
JudgedIn (Some auditor) None why text = ⊥
JudgedIn (Some auditor) (Some now) why text = (s : AuditState) → IsAuditOf auditor s → IsJudged why now (judged_text s text)

-- the answer, where a line showed one
abbrev pub status_of : ℕ → Option AuditWhy → Option AuditStatus
status_of line (Some why) = Some (No line why)
status_of line None = None

-- the answer to a report that ends before a line, and to a deck alone
abbrev pub report_end : ℕ → Bool → AuditStatus
report_end line true = Yes
report_end line false = No line Place

abbrev pub deck_end : Result DeckLines DeckFault → AuditStatus
deck_end r = deck_behind 0 r [] None

-- an answer to a text
abbrev pub is_answer : AuditStatus → Bool
is_answer Yes = true
is_answer (No line why) = true
is_answer NoReport = true
is_answer (DeckRefused line why) = true
is_answer (Limit which) = true
is_answer _ = false

abbrev pub may_be : Option AuditStatus → Bool
may_be (Some status) = is_answer status
may_be None = true
