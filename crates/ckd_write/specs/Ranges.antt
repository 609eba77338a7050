-- The ranges of the record that an edit brings.
use Rattle.std.specs.Prelude.{⊤}
use Rattle.ckd_types.specs.declared.record.Edit.{Edit}
use Rattle.ckd_types.specs.declared.record.Edit.TheVariants.{Zero}
use Rattle.ckd_types.specs.Track.{IsRecord}

-- those of a new record 0. That a format's record has them is part of its suiting
abbrev pub HasRanges : Edit → Type 0
HasRanges (Zero added) = IsRecord added
HasRanges _ = ⊤
