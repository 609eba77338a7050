-- The judgement of a deck and a report: yes, or the first line that has a fault, and which.
use Rattle.std.specs.Prelude.{ℕ, ◌+◌, ◌==◌, ◌++◌, nat_lt, List, [], ◌∷◌, take, drop, length, codes, Option, Some, None, Result, Ok, Err, if◌then◌else◌}
use Rattle.std.specs.List.{flat_map}
use Rattle.std.specs.Str.{bytes_eq}
use Rattle.deck_text.specs.declared.line.DeckFault.{DeckFault}
use Rattle.deck_text.specs.declared.line.DeckFault.TheVariants as deck_faults
use Rattle.deck_text.specs.declared.line.Which.TheVariants.{Size}
use Rattle.deck_text.specs.DeckLines.{DeckLines}
use Rattle.deck_text.specs.Lines.{onto_first}
use Rattle.deck_text.specs.Parse.{parsed}
use Rattle.report_reading.specs.declared.fault.LineFault.{LineFault}
use Rattle.report_text.specs.declared.line.ReportLine.{ReportLine}
use Rattle.report_reading.specs.Reading.{line_of}
use Rattle.deck_audit.specs.declared.status.AuditStatus.{AuditStatus}
use Rattle.deck_audit.specs.declared.status.AuditStatus.TheVariants.{Yes, No, NoReport, DeckRefused, Limit, NoMemory}
use Rattle.deck_audit.specs.declared.status.AuditWhy.{AuditWhy}
use Rattle.deck_audit.specs.declared.status.AuditWhy.TheVariants.{Form, Place, History}
use Rattle.deck_audit.specs.History.{made}
use Rattle.deck_audit.specs.Stands.{stands}
use Rattle.deck_audit.specs.declared.state.Due.{Due}
use Rattle.deck_audit.specs.declared.state.Due.TheVariants.{Nothing}
use Rattle.deck_audit.specs.State.{AuditState, first_state}

-- One line

abbrev pub or_history : Option AuditState → Result AuditState AuditWhy
or_history (Some s) = Ok s
or_history None = Err History

abbrev pub judged : AuditState → ReportLine → Result AuditState AuditWhy
judged s line = if stands s line then or_history (made s line) else Err Place

abbrev pub judged_by : AuditState → Result ReportLine LineFault → Result AuditState AuditWhy
judged_by s (Err fault) = Err Form
judged_by s (Ok line) = judged s line

abbrev pub judged_text : AuditState → List ℕ → Result AuditState AuditWhy
judged_text s text = judged_by s (line_of text)

-- All lines

-- the report must have its FINISH line, as the last one
abbrev pub at_end : ℕ → Due → AuditStatus
at_end n Nothing = Yes
at_end n due = No n Place

abbrev pub or_no : ℕ → Result AuditState AuditWhy → (AuditState → AuditStatus) → AuditStatus
or_no n (Err why) go = No n why
or_no n (Ok s) go = go s

-- the lines from number n on
abbrev pub judged_lines : ℕ → AuditState → List (List ℕ) → AuditStatus
judged_lines n s [] = at_end n s.due
judged_lines n s (text ∷ texts) = or_no n (judged_text s text) (λ t. judged_lines (n + 1) t texts)

-- The text: a deck, a line REPORT, and a report

-- each line is ended by a line feed, which the last may lack
abbrev pub cut_lines : List ℕ → List (List ℕ)
cut_lines [] = []
cut_lines (b ∷ bytes) = if b == 10 then [] ∷ cut_lines bytes else onto_first b (cut_lines bytes)

-- how many lines stand before the first one that is exactly REPORT
abbrev pub report_from : ℕ → List (List ℕ) → Option ℕ
report_from n [] = None
report_from n (text ∷ texts) = if bytes_eq text (codes "REPORT") then Some n else report_from (n + 1) texts

abbrev pub ended_line : List ℕ → List ℕ
ended_line text = text ++ codes "\n"

abbrev pub deck_part : List ℕ → Option ℕ → List ℕ
deck_part text (Some n) = flat_map ended_line (take n (cut_lines text))
deck_part text None = text

abbrev pub report_judged : DeckLines → List ℕ → Option ℕ → AuditStatus
report_judged deck text (Some n) = judged_lines (n + 2) (first_state deck) (drop (n + 1) (cut_lines text))
report_judged deck text None = NoReport

-- a refused deck is told first
abbrev pub deck_judged : Result DeckLines DeckFault → List ℕ → Option ℕ → AuditStatus
deck_judged (Ok deck) text at = report_judged deck text at
deck_judged (Err (deck_faults.Refused line why)) text at = DeckRefused line why
deck_judged (Err (deck_faults.Limit which)) text at = Limit which
deck_judged (Err deck_faults.NoMemory) text at = NoMemory

abbrev pub read_back_at : List ℕ → Option ℕ → AuditStatus
read_back_at text at = deck_judged (parsed (deck_part text at)) text at

-- what a whole text comes to; it may have 268,435,456 bytes
unfoldable pub read_back : List ℕ → AuditStatus
read_back text = if nat_lt 268435456 (length text) then Limit Size else read_back_at text (report_from 0 (cut_lines text))
