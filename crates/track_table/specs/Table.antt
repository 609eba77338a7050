-- A list with a place for each track, from track 0 on. A track that has no place has nothing.
use Rattle.std.specs.Prelude.{ℕ, ◌-◌, Bool, List, ◌++◌, length, replicate, slice_index_or, Option, None, is_some}

abbrev pub entry_at : {T : Type 0} → List (Option T) → ℕ → Option T
entry_at entries t = slice_index_or entries t None

abbrev pub has_entry : {T : Type 0} → List (Option T) → ℕ → Bool
has_entry entries t = is_some (entry_at entries t)

-- places for n tracks, or as many as there are
abbrev pub with_places : {T : Type 0} → ℕ → List (Option T) → List (Option T)
with_places n entries = entries ++ replicate (n - length entries) None
