-- The text of a deck, as a source gives it.
use Rattle.std.specs.Prelude.{◌<◌, ◌≤◌, ℕ, List, length, Option}
use Rattle.std.specs.Io.KnownBytes.{Consumes, IsAtEnd}

-- the source gave this text: all of it, or its first 16,777,217 bytes
pub record Reads (before after : Option (List ℕ)) (text : List ℕ) : Type 0 where
  pub read : Consumes before after text
  pub bound : length text ≤ 16777217
  pub whole : length text < 16777217 → IsAtEnd after
