-- The tracks that marks show as lost.
use Rattle.std.specs.Prelude.{ℕ, Bool, List}
use Rattle.track_table.specs.Bits.{marked_from}

-- in rising order
abbrev pub lost_tracks : List Bool → List ℕ
lost_tracks marks = marked_from 0 marks
