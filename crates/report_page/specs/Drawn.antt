-- The page of a text: of a deck, or of a deck, the line REPORT, and a report or history.
use Rattle.std.specs.Prelude.{◌≡◌, ℕ, ◌+◌, nat_lt, List, codes, length, take, drop, Option, Some, None, Result, Ok, Err, if◌then◌else◌}
use Rattle.memchr.specs.Find.{first_of, matches}
use Rattle.deck_text.specs.declared.line.DeckFault.{DeckFault}
use Rattle.deck_text.specs.declared.line.DeckFault.TheVariants as faults
use Rattle.deck_text.specs.declared.line.Which.TheVariants.{Size}
use Rattle.deck_text.specs.DeckLines.{DeckLines}
use Rattle.deck_text.specs.Parse.{parsed}
use Rattle.run_report.specs.Report.{report_of}
use Rattle.page_text.specs.Whole.{page_of}

unfoldable pub marker : List ℕ
marker = codes "\nREPORT\n"

-- where the line feed before the first line REPORT stands
abbrev pub report_place : List ℕ → Option ℕ
report_place text = first_of (matches text marker 0)

abbrev pub own_page_by : Result DeckLines DeckFault → List ℕ → Result (List ℕ) DeckFault
own_page_by (Ok d) text = Ok (page_of text d (report_of d))
own_page_by (Err fault) text = Err fault

-- the page of a deck and the report of its run
abbrev pub own_page : List ℕ → Result (List ℕ) DeckFault
own_page text = own_page_by (parsed text) text

abbrev pub given_page_by : Result DeckLines DeckFault → List ℕ → List ℕ → Result (List ℕ) DeckFault
given_page_by (Ok d) text report = Ok (page_of text d report)
given_page_by (Err fault) text report = Err fault

-- the page of a deck and a report or history that is given
abbrev pub given_page : List ℕ → List ℕ → Result (List ℕ) DeckFault
given_page text report = given_page_by (parsed text) text report

abbrev pub drawn_by : Option ℕ → List ℕ → Result (List ℕ) DeckFault
drawn_by (Some k) text = given_page (take (k + 1) text) (drop (k + 8) text)
drawn_by None text = own_page text

abbrev pub drawn_from : List ℕ → Result (List ℕ) DeckFault
drawn_from text = drawn_by (report_place text) text

-- what is drawn of a text
abbrev pub drawn_of : List ℕ → Result (List ℕ) DeckFault
drawn_of text = if nat_lt 268435456 (length text) then Err (faults.Limit Size) else drawn_from text

-- what a call answers is this, but for want of memory, which says nothing
abbrev pub Fails : DeckFault → Result (List ℕ) DeckFault → Type 0
Fails faults.NoMemory wanted = Unit {0}
Fails fault wanted = wanted ≡ Err fault

abbrev pub Draws : Result (List ℕ) DeckFault → Result (List ℕ) DeckFault → Type 0
Draws (Ok page) wanted = wanted ≡ Ok page
Draws (Err fault) wanted = Fails fault wanted
