-- What the mask byte of define extent permits.
use Rattle.std.specs.Prelude.{ℕ, ◌==◌, ◌||◌, not, Bool, true}
use Rattle.std.specs.Int.RustNames.{bit_and}
use Rattle.ckd_types.specs.declared.command.Control.{Control}
use Rattle.ckd_types.specs.declared.command.Control.TheVariants.{Seek, SeekCylinder, SeekHead, Recalibrate}
use Rattle.ckd_types.specs.declared.command.Write.{Write}
use Rattle.ckd_types.specs.declared.command.Write.TheVariants.{Data, UpdateData, KeyData, UpdateKeyData, CountKeyData, NextTrack, Zero}

-- bit 2 of a mask is clear
abbrev pub is_mask : ℕ → Bool
is_mask byte = bit_and byte 0x20 == 0

-- bits 0 and 1: 00 no writes of record 0, 01 no writes, 10 update writes alone, 11 all writes
abbrev pub write_control : ℕ → ℕ
write_control mask = bit_and mask 0xc0

-- bits 3 and 4: 00 all seeks and recalibrate, 01 seek cylinder and seek head, 10 seek head, 11 none
abbrev pub seek_control : ℕ → ℕ
seek_control mask = bit_and mask 0x18

abbrev pub permits_write : ℕ → Write → Bool
permits_write mask Data = not (write_control mask == 0x40)
permits_write mask UpdateData = not (write_control mask == 0x40)
permits_write mask KeyData = not (write_control mask == 0x40)
permits_write mask UpdateKeyData = not (write_control mask == 0x40)
permits_write mask CountKeyData = (write_control mask == 0) || (write_control mask == 0xc0)
permits_write mask NextTrack = (write_control mask == 0) || (write_control mask == 0xc0)
permits_write mask Zero = write_control mask == 0xc0

-- every other control command is no seek
abbrev pub permits_seek : ℕ → Control → Bool
permits_seek mask Seek = seek_control mask == 0
permits_seek mask Recalibrate = seek_control mask == 0
permits_seek mask SeekCylinder = (seek_control mask == 0) || (seek_control mask == 8)
permits_seek mask SeekHead = not (seek_control mask == 0x18)
permits_seek mask _ = true

-- whether a multitrack command may go on to the next track, outside a domain
abbrev pub permits_move : ℕ → Bool
permits_move mask = not (seek_control mask == 0x18)
