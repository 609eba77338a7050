-- The bits of a unit status.
use Rattle.std.specs.Prelude.{◌==◌, Bool}
use Rattle.std.specs.Int.RustNames.{bit_and}
use Rattle.ckd_types.specs.declared.status.UnitStatus.{UnitStatus}

abbrev pub has_status_modifier : UnitStatus → Bool
has_status_modifier s = bit_and s.0 0x40 == 0x40

abbrev pub has_unit_check : UnitStatus → Bool
has_unit_check s = bit_and s.0 2 == 2

abbrev pub has_unit_exception : UnitStatus → Bool
has_unit_exception s = bit_and s.0 1 == 1
