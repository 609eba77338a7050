-- What of each track the outside wasn't told yet.
use Rattle.std.specs.Prelude.{ℕ, ◌||◌, not, Bool, List, map, Option, is_some, slice_index_or}
use Rattle.std.specs.List.{range_with_len}
use Rattle.std.specs.Option.{unwrap_or}
use Rattle.track_table.specs.Table.{entry_at}
use Rattle.device_defs.specs.declared.owed.Owed.{Owed}
use Rattle.device_defs.specs.Store.{no_debt}

abbrev pub owed_in : List Owed → ℕ → Owed
owed_in owed t = slice_index_or owed t no_debt

-- nothing is owed
abbrev pub is_paid : Owed → Bool
is_paid o = not (o.modified || o.dropped || is_some o.freed || o.firm)

-- what is owed of a track, where those of which something is have an entry
abbrev pub owed_by : List (Option Owed) → ℕ → Owed
owed_by entries t = unwrap_or (entry_at entries t) no_debt

-- what is owed of each of so many tracks
unfoldable pub all_owed : ℕ → List (Option Owed) → List Owed
all_owed tracks entries = map (owed_by entries) (range_with_len 0 tracks)
