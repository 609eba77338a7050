-- The loose tracks of a device, and the acts of the event at hand.
use Rattle.std.specs.Prelude.{ℕ, ◌+◌, Bool, false, List, length, slice_index_or}
use Rattle.track_table.specs.Tracks.{count_below}
use Rattle.plain_defs.specs.declared.journal.Act.{Act}

pub record LooseView : Type 0 where
  pub loose : List Bool
  pub acts : List Act
  pub spare : ℕ  -- how many more acts have room

abbrev pub is_loose_in : List Bool → ℕ → Bool
is_loose_in loose t = slice_index_or loose t false

abbrev pub loose_count : List Bool → ℕ
loose_count loose = count_below 65535 (is_loose_in loose)

-- how many acts there are, and may still come without one more loose track
abbrev pub weight : LooseView → ℕ
weight l = length l.acts + loose_count l.loose
