-- Entries without gaps, and for each track the number by which its entry is found: 0 where it has none, or one more than where its
-- entry stands.
use Rattle.std.specs.Prelude.{◌≡◌, ℕ, zero, suc, ◌<◌, ◌≤◌, List, map, length, slice_get, slice_index, Option, None}

-- the entry of a number
abbrev pub numbered : {T : Type 0} → List T → ℕ → Option T
numbered entries zero = None
numbered entries (suc i) = slice_get entries i

-- a place for each track that has a number
unfoldable pub places_of : {T : Type 0} → List ℕ → List T → List (Option T)
places_of index entries = map (numbered entries) index

-- each number leads to an entry of its track, of so many, and the track of each entry has the number that leads to it
pub record IsSparse (count : ℕ) (index tracks : List ℕ) : Type 0 where
  pub few : length index ≤ 65535
  pub whole : length tracks ≡ count
  pub leads : (t i : ℕ) → slice_index index t ≡ suc i → (i < count) × (slice_index tracks i ≡ t)
  pub back : (i : ℕ) → i < count → slice_index index (slice_index tracks i) ≡ suc i
