-- Marks of tracks, in words of 64 bits. A list of marks begins with the mark of track 0.
use Rattle.std.specs.Prelude.{◌≡◌, ℕ, ◌+◌, ◌/◌, ◌%◌, ◌==◌, ◌<◌, ◌≤◌, Bool, true, false, Option, Some, None, List, [], ◌∷◌, map, slice_index_or, if◌then◌else◌}
use Rattle.std.specs.Int.{bit_at}
use Rattle.std.specs.List.{range_with_len}

-- whether the bit of a number is set
abbrev pub is_set : List ℕ → ℕ → Bool
is_set words n = bit_at (slice_index_or words (n / 64) 0) (n % 64) == 1

-- the marks of the tracks of the largest device
unfoldable pub marks_of : List ℕ → List Bool
marks_of words = map (is_set words) (range_with_len 0 65535)

-- a track that has no mark isn't marked
abbrev pub is_marked : List Bool → ℕ → Bool
is_marked marks t = slice_index_or marks t false

-- the marked tracks in rising order, where the first mark is that of track t
abbrev pub marked_from : ℕ → List Bool → List ℕ
marked_from t [] = []
marked_from t (marked ∷ marks) = if marked then t ∷ marked_from (t + 1) marks else marked_from (t + 1) marks

-- the least track from one on that passes, of those of the largest device, or that none does
abbrev pub IsLeastFrom : ℕ → (ℕ → Bool) → Option ℕ → Type 0
IsLeastFrom from passes None = (q : ℕ) → from ≤ q → passes q ≡ false
IsLeastFrom from passes (Some t) = (from ≤ t) × (t < 65535) × (passes t ≡ true) × ((q : ℕ) → from ≤ q → q < t → passes q ≡ false)
