-- How a text is cut into its deck and its report, and what is told of a text without a report, computed from the definitions.
use Rattle.std.proofs.Common.{◌≡◌, ℕ, List, [], ◌∷◌, ◌++◌, Some, None, refl}
use Rattle.std.specs.Prelude.{codes, map, Ok, Err}
use Rattle.deck_text.specs.declared.line.DeckFault.TheVariants.{Refused}
use Rattle.deck_text.specs.declared.line.DeckWhy.TheVariants.{Unfinished}
use Rattle.deck_text.specs.DeckLines.{no_lines}
use Rattle.report_reading.specs.declared.fault.LineFault.TheVariants.{Keyword}
use Rattle.deck_audit.specs.declared.status.AuditStatus.TheVariants.{No, NoReport, DeckRefused}
use Rattle.deck_audit.specs.declared.status.AuditWhy.TheVariants.{Form, Place}
use Rattle.deck_audit.specs.State.{first_state}
use Rattle.deck_audit.specs.Verdict.{cut_lines, report_from, deck_part, deck_judged, judged_by}

-- the line is exactly the word: no space, no carriage return
where_reports_begin : map (λ (text : List ℕ). report_from 0 (cut_lines text))
    (codes "DECK 1\nREPORT\nFINISH\n" ∷ codes "REPORT" ∷ codes "DECK 1\nREPORT \n" ∷ codes " REPORT\n" ∷ codes "REPORTS\n" ∷ codes "\n\nREPORT\nREPORT\n"
    ∷ (codes "REPORT" ++ 13 ∷ 10 ∷ []) ∷ [] ∷ [])
    ≡ Some 1 ∷ Some 0 ∷ None ∷ None ∷ None ∷ Some 2 ∷ None ∷ None ∷ []
where_reports_begin = refl

-- the lines before it, with their line feeds; all of a text without such a line
deck_parts : deck_part (codes "DECK 1\n\nREPORT\nFINISH") (Some 2) ∷ deck_part (codes "DECK 1\nREPOR") None ∷ []
    ≡ codes "DECK 1\n\n" ∷ codes "DECK 1\nREPOR" ∷ []
deck_parts = refl

-- a refused deck is told before a report that isn't there, and a text that ends behind its line REPORT lacks the first line
without_report : deck_judged (Ok no_lines) [] None ∷ deck_judged (Err (Refused 1 Unfinished)) [] None
    ∷ deck_judged (Ok no_lines) (codes "A\nB\nREPORT\n") (Some 2) ∷ [] ≡ NoReport ∷ DeckRefused 1 Unfinished ∷ No 4 Place ∷ []
without_report = refl

-- a text that is no line is so at each place
no_line : judged_by (first_state no_lines) (Err Keyword) ≡ Err Form
no_line = refl
