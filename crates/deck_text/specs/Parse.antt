-- What a text is: a deck, or its first fault.
use Rattle.std.specs.Prelude.{ℕ, ◌+◌, nat_lt, List, [], ◌∷◌, length, Result, Ok, Err, if◌then◌else◌}
use Rattle.deck_text.specs.declared.line.DeckWhy.TheVariants.{Unfinished}
use Rattle.deck_text.specs.declared.line.Which.TheVariants.{Size}
use Rattle.deck_text.specs.declared.line.DeckFault.{DeckFault}
use Rattle.deck_text.specs.declared.line.DeckFault.TheVariants.{Refused, Limit}
use Rattle.deck_text.specs.declared.place.LinePlace.{LinePlace}
use Rattle.deck_text.specs.declared.place.LinePlace.TheVariants as places
use Rattle.deck_text.specs.DeckLines.{DeckLines, no_lines}
use Rattle.deck_text.specs.Lines.{text_lines}
use Rattle.deck_text.specs.Reading.{State, take_line}

abbrev pub reading_begun : State
reading_begun = record { place = places.Front; deck = no_lines; words = []; lines = [] }

-- a text that ends before EVENTS isn't finished
abbrev pub deck_finished : ℕ → LinePlace → DeckLines → Result DeckLines DeckFault
deck_finished n places.Events deck = Ok deck
deck_finished n _ deck = Err (Refused n Unfinished)

abbrev pub or_stop : Result State DeckFault → (State → Result DeckLines DeckFault) → Result DeckLines DeckFault
or_stop (Err fault) go = Err fault
or_stop (Ok s) go = go s

-- the lines from number n on
abbrev pub read_lines : ℕ → State → List (List ℕ) → Result DeckLines DeckFault
read_lines n s [] = deck_finished n s.place s.deck
read_lines n s (line ∷ lines) = or_stop (take_line n line s) (λ t. read_lines (n + 1) t lines)

abbrev pub parsed : List ℕ → Result DeckLines DeckFault
parsed text = if nat_lt 16777216 (length text) then Err (Limit Size) else read_lines 1 reading_begun (text_lines text)
