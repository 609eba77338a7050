-- The tracks of a volume in memory, and where it has the bytes that it delivered last.
use Rattle.std.specs.Prelude.{ℕ, ◌==◌, Bool, false, List, [], Option, Some, None, slice_index_or}
use Rattle.device_outside.specs.declared.tracks.Last.{Last}
use Rattle.device_outside.specs.declared.tracks.Last.TheVariants.{Nothing, Of, Kept}

pub record Held : Type 0 where
  pub tracks : List (List ℕ)
  pub delivered : Option (List ℕ)

abbrev pub delivered_by : Last → List (List ℕ) → List ℕ → Option (List ℕ)
delivered_by Nothing tracks kept = None
delivered_by (Of t) tracks kept = Some (slice_index_or tracks t [])
delivered_by Kept tracks kept = Some kept

abbrev pub is_on : Last → ℕ → Bool
is_on Nothing at = false
is_on (Of t) at = t == at
is_on Kept at = false
