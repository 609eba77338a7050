-- What a write does to the records of a track.
use Rattle.std.specs.Prelude.{ℕ, ◌+◌, ◌<◌, ◌≤◌, ⊤, List, [], ◌∷◌, ◌++◌, take, slice_index_or, slice_set}
use Rattle.ckd_types.specs.declared.record.Record.{Record}
use Rattle.ckd_types.specs.declared.record.Track.{Track}
use Rattle.ckd_types.specs.declared.record.Edit.{Edit}
use Rattle.ckd_types.specs.declared.record.Edit.TheVariants.{Update, Format, Zero}
use Rattle.ckd_types.specs.Track.{empty_zero}

-- one record has another key and data; or a record comes behind some that stay; or record 0 is alone
abbrev pub edited : Edit → List Record → List Record
edited (Update index key body) records = slice_set records index (record (slice_index_or records index (empty_zero 0)) { key = key; body = body })
edited (Format after added) records = take (after + 1) records ++ added ∷ []
edited (Zero added) records = added ∷ []

abbrev pub apply_edit : Edit → Track → Track
apply_edit e t = record t { records = edited e t.records }

-- the edit is of a track with this many records
abbrev pub IsWithin : Edit → ℕ → Type 0
IsWithin (Update index key body) n = index < n
IsWithin (Format after added) n = after < n
IsWithin (Zero added) n = 0 < n

-- the edit puts no record behind the last of this many
abbrev pub IsInside : Edit → ℕ → Type 0
IsInside (Update index key body) n = ⊤
IsInside (Format after added) n = after + 1 < n
IsInside (Zero added) n = ⊤

-- of a track with this many records the edit has room in what is made for so many: for one more behind the last
abbrev pub HasRoomFor : Edit → ℕ → ℕ → Type 0
HasRoomFor (Update index key body) n room = ⊤
HasRoomFor (Format after added) n room = n ≤ after + 1 → n < room
HasRoomFor (Zero added) n room = ⊤
