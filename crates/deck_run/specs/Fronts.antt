-- The run of the first event lines of a deck.
use Rattle.std.specs.Prelude.{ℕ, map, take}
use Rattle.deck_text.specs.DeckLines.{DeckLines}
use Rattle.subsystem_defs.specs.Decks.{DeckRun, Firsts, empty_firsts, run_asked_on}
use Rattle.subsystem_defs.specs.Lines.{asked_by}

-- so many of them, on volumes that hold these tracks
abbrev pub front_on : Firsts → DeckLines → ℕ → DeckRun
front_on firsts deck n = run_asked_on firsts deck (map asked_by (take n deck.events))

-- on empty ones
abbrev pub front_of : DeckLines → ℕ → DeckRun
front_of deck n = front_on empty_firsts deck n
