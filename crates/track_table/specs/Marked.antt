-- What an iterator over marks has left.
use Rattle.std.specs.Prelude.{ℕ, List, drop}
use Rattle.track_table.specs.declared.bits.Marked.{Marked}
use Rattle.track_table.specs.Bits.{marked_from}

abbrev pub marked_left : Marked → List ℕ
marked_left m = marked_from m.from (drop m.from m.bits.now)
