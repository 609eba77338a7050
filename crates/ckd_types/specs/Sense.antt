-- The sense bytes of each cause.
use Rattle.std.specs.Prelude.{ℕ, [], ◌∷◌, ◌++◌, replicate}
use Rattle.ckd_types.specs.declared.sense.Sense.{Sense}

-- zeros but for bytes 0, 1 and 7
abbrev pub sense_of : ℕ → ℕ → ℕ → Sense
sense_of first second seventh = record { bytes = (first ∷ second ∷ 0 ∷ 0 ∷ 0 ∷ 0 ∷ 0 ∷ seventh ∷ []) ++ replicate 24 0 }

-- 1 invalid command, 2 invalid sequence, 3 count less than required, 4 invalid parameter
abbrev pub reject_sense : ℕ → Sense
reject_sense message = sense_of 0x80 0 message

abbrev pub track_format_sense : Sense
track_format_sense = sense_of 0 0x40 0

abbrev pub end_of_cylinder_sense : Sense
end_of_cylinder_sense = sense_of 0 0x20 0

abbrev pub no_record_sense : Sense
no_record_sense = sense_of 0 8 0

abbrev pub file_protected_sense : Sense
file_protected_sense = sense_of 0 4 0

abbrev pub equipment_sense : Sense
equipment_sense = sense_of 0x10 0x80 0

abbrev pub data_check_sense : Sense
data_check_sense = sense_of 8 0 0

abbrev pub zero_sense : Sense
zero_sense = sense_of 0 0 0
