-- The flags of a channel command word.
use Rattle.std.specs.Prelude.{ℕ, ◌==◌, not, Bool, List, [], slice_index_or}
use Rattle.std.specs.Int.RustNames.{bit_and}
use Rattle.ckd_types.specs.declared.channel.Ccw.{Ccw}

abbrev pub is_chained : Ccw → Bool
is_chained c = not (bit_and c.flags 0x40 == 0)

abbrev pub suppresses_length : Ccw → Bool
suppresses_length c = not (bit_and c.flags 0x20 == 0)

abbrev pub skips : Ccw → Bool
skips c = not (bit_and c.flags 0x10 == 0)

abbrev pub is_transfer : Ccw → Bool
is_transfer c = c.command == 8

-- what stands past the end of a program
abbrev pub no_ccw : Ccw
no_ccw = record { command = 0; flags = 0; count = 0; given = [] }

abbrev pub ccw_at : List Ccw → ℕ → Ccw
ccw_at ccws i = slice_index_or ccws i no_ccw
