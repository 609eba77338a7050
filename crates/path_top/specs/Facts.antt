-- What the top call of paths says, one fact a clause. Held and holds are what the sink got, before and after; before and after are what the source
-- has left.
use Rattle.std.specs.Prelude.{ℕ, List, Option}
use Rattle.std.specs.Io.KnownBytes.{Appends}
use Rattle.ckd_outside.specs.Texts.{AppendsFront}
use Rattle.deck_text.specs.DeckLines.{DeckLines}
use Rattle.deck_text.specs.Parse.{parsed}
use Rattle.deck_top.specs.Answers.{Reads}
use Rattle.subsystem_defs.specs.Decks.{Firsts, empty_firsts}
use Rattle.path_top.specs.Answers.{IsHistoryTextOn, IsTextOf}

-- the sink got a history of the deck, on volumes that held these tracks first
pub record WritesHistoryOn (firsts : Firsts) (held holds : Option (List ℕ)) (deck : DeckLines) : Type 0 where
  pub text : List ℕ
  pub history : IsHistoryTextOn firsts deck text
  pub written : Appends held holds text

-- on empty ones
abbrev pub WritesHistory : Option (List ℕ) → Option (List ℕ) → DeckLines → Type 0
WritesHistory held holds deck = WritesHistoryOn empty_firsts held holds deck

-- of what is written for the text that the source gave, the sink got a front
pub record WritesFront (before after held holds : Option (List ℕ)) : Type 0 where
  pub text : List ℕ
  pub read : Reads before after text
  pub whole : List ℕ
  pub suits : IsTextOf (parsed text) whole
  pub front : AppendsFront held holds whole
