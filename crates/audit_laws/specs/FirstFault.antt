-- What an audit's yes and its no say of a text.
use Rattle.std.specs.Prelude.{◌≡◌, ◌≤◌, ◌+◌, ℕ, List, [], ◌∷◌, take, drop, length, Some, Ok, Err}
use Rattle.deck_text.specs.DeckLines.{DeckLines}
use Rattle.deck_text.specs.Parse.{parsed}
use Rattle.deck_audit.specs.declared.state.Due.TheVariants.{Nothing}
use Rattle.deck_audit.specs.declared.status.AuditWhy.{AuditWhy}
use Rattle.deck_audit.specs.declared.status.AuditWhy.TheVariants.{Place}
use Rattle.deck_audit.specs.State.{AuditState, first_state}
use Rattle.deck_audit.specs.Verdict.{cut_lines, deck_part, judged_text, report_from}

-- these lines have no fault, and lead from one state to the other
abbrev pub LeadsTo : AuditState → List (List ℕ) → AuditState → Type 0
LeadsTo s [] t = t ≡ s
LeadsTo s (text ∷ texts) t = (u : AuditState) × (judged_text s text ≡ Ok u) × LeadsTo u texts t

-- no line has a fault, and behind the last one nothing is due: it is FINISH
pub record HasNoFault (s : AuditState) (texts : List (List ℕ)) : Type 0 where
  pub end : AuditState
  pub leads : LeadsTo s texts end
  pub over : end.due ≡ Nothing

-- the first of these lines has this fault; where there is none, a line is wanting
abbrev pub IsFault : AuditState → List (List ℕ) → AuditWhy → Type 0
IsFault s [] why = (why ≡ Place) × (s.due ≡ Nothing → ⊥)
IsFault s (text ∷ texts) why = judged_text s text ≡ Err why

-- so many lines have none, and the one behind them, which is line m, has this fault; they begin with line n
pub record HasFirstFault (n : ℕ) (s : AuditState) (texts : List (List ℕ)) (m : ℕ) (why : AuditWhy) : Type 0 where
  pub good : ℕ
  pub within : good ≤ length texts
  pub number : m ≡ n + good
  pub state : AuditState
  pub leads : LeadsTo s (take good texts) state
  pub fault : IsFault state (drop good texts) why

-- a text of a deck, of so many lines, and a report
pub record IsDeckAndReport (text : List ℕ) (deck : DeckLines) (lines : ℕ) : Type 0 where
  pub size : length text ≤ 268435456
  pub found : report_from 0 (cut_lines text) ≡ Some lines
  pub parses : parsed (deck_part text (Some lines)) ≡ Ok deck

-- the lines of the report
abbrev pub report_lines : List ℕ → ℕ → List (List ℕ)
report_lines text lines = drop (lines + 1) (cut_lines text)

-- a deck, and a report that it could have
pub record IsGood (text : List ℕ) : Type 0 where
  pub deck : DeckLines
  pub lines : ℕ
  pub is : IsDeckAndReport text deck lines
  pub report : HasNoFault (first_state deck) (report_lines text lines)

-- a deck, and a report that it couldn't have: the first line that shows it, and what it shows
pub record IsBad (text : List ℕ) (line : ℕ) (why : AuditWhy) : Type 0 where
  pub deck : DeckLines
  pub lines : ℕ
  pub is : IsDeckAndReport text deck lines
  pub report : HasFirstFault (lines + 2) (first_state deck) (report_lines text lines) line why
