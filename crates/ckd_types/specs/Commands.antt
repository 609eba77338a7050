-- The table of command codes.
use Rattle.std.specs.Prelude.{ℕ, ◌==◌, ◌||◌, nat_le, Bool, true, false, Option, Some, None, if◌then◌else◌}
use Rattle.ckd_types.specs.declared.command.Command.{Command}
use Rattle.ckd_types.specs.declared.command.Command.TheVariants.{Control, Search, Read, Write, Device}
use Rattle.ckd_types.specs.declared.command.Comparison.TheVariants.{Equal, High, EqualOrHigh}
use Rattle.ckd_types.specs.declared.command.Control.TheVariants.{
  NoOperation,
  Seek,
  SeekCylinder,
  SeekHead,
  Recalibrate,
  SetSector,
  SetFileMask,
  DefineExtent,
  LocateRecord,
}
use Rattle.ckd_types.specs.declared.command.DeviceCommand.TheVariants.{Sense, SenseId, Reserve, Release, UnconditionalReserve, SetPathGroup, SensePathGroup}
use Rattle.ckd_types.specs.declared.command.ReadArea.{ReadArea}
use Rattle.ckd_types.specs.declared.command.ReadArea.TheVariants as reads
use Rattle.ckd_types.specs.declared.command.SearchArea.{SearchArea}
use Rattle.ckd_types.specs.declared.command.SearchArea.TheVariants as searches
use Rattle.ckd_types.specs.declared.command.Write.TheVariants as writes

-- the code has the high bit: its command goes on to the next track where its own shows nothing more
abbrev pub is_multitrack : ℕ → Bool
is_multitrack code = nat_le 0x80 code

abbrev pub search_command : SearchArea → ℕ → Command
search_command area code = Search (record { area = area; multitrack = is_multitrack code })

abbrev pub read_command : ReadArea → ℕ → Command
read_command area code = Read (record { area = area; multitrack = is_multitrack code })

-- the command that a code stands for
unfoldable pub command_of : ℕ → Option Command
command_of code =
    if code == 0x03 then Some (Control NoOperation)
    else if code == 0x07 then Some (Control Seek)
    else if code == 0x0b then Some (Control SeekCylinder)
    else if code == 0x1b then Some (Control SeekHead)
    else if code == 0x13 then Some (Control Recalibrate)
    else if code == 0x23 then Some (Control SetSector)
    else if code == 0x1f then Some (Control SetFileMask)
    else if code == 0x63 then Some (Control DefineExtent)
    else if code == 0x47 then Some (Control LocateRecord)
    else if (code == 0x31) || (code == 0xb1) then Some (search_command (searches.Id Equal) code)
    else if (code == 0x51) || (code == 0xd1) then Some (search_command (searches.Id High) code)
    else if (code == 0x71) || (code == 0xf1) then Some (search_command (searches.Id EqualOrHigh) code)
    else if (code == 0x29) || (code == 0xa9) then Some (search_command (searches.Key Equal) code)
    else if (code == 0x49) || (code == 0xc9) then Some (search_command (searches.Key High) code)
    else if (code == 0x69) || (code == 0xe9) then Some (search_command (searches.Key EqualOrHigh) code)
    else if (code == 0x39) || (code == 0xb9) then Some (search_command searches.Home code)
    else if (code == 0x1a) || (code == 0x9a) then Some (read_command reads.Home code)
    else if (code == 0x16) || (code == 0x96) then Some (read_command reads.Zero code)
    else if (code == 0x12) || (code == 0x92) then Some (read_command reads.Count code)
    else if (code == 0x06) || (code == 0x86) then Some (read_command reads.Data code)
    else if (code == 0x0e) || (code == 0x8e) then Some (read_command reads.KeyData code)
    else if (code == 0x1e) || (code == 0x9e) then Some (read_command reads.CountKeyData code)
    else if code == 0x5e then Some (read_command reads.Multiple 0)
    else if code == 0xde then Some (read_command reads.Track 0)
    else if code == 0x05 then Some (Write writes.Data)
    else if code == 0x85 then Some (Write writes.UpdateData)
    else if code == 0x0d then Some (Write writes.KeyData)
    else if code == 0x8d then Some (Write writes.UpdateKeyData)
    else if code == 0x1d then Some (Write writes.CountKeyData)
    else if code == 0x9d then Some (Write writes.NextTrack)
    else if code == 0x15 then Some (Write writes.Zero)
    else if code == 0x04 then Some (Device Sense)
    else if code == 0xe4 then Some (Device SenseId)
    else if code == 0xb4 then Some (Device Reserve)
    else if code == 0x94 then Some (Device Release)
    else if code == 0x14 then Some (Device UnconditionalReserve)
    else if code == 0xaf then Some (Device SetPathGroup)
    else if code == 0x34 then Some (Device SensePathGroup)
    else None

abbrev pub is_search_command : Option Command → Bool
is_search_command (Some (Search s)) = true
is_search_command _ = false

-- the code is a search's
abbrev pub is_search : ℕ → Bool
is_search code = is_search_command (command_of code)

-- the least count of its word
abbrev pub required_count : Command → ℕ
required_count (Control DefineExtent) = 16
required_count (Control LocateRecord) = 16
required_count (Control Seek) = 6
required_count (Control SeekCylinder) = 6
required_count (Control SeekHead) = 6
required_count (Write writes.CountKeyData) = 8
required_count (Write writes.NextTrack) = 8
required_count (Write writes.Zero) = 8
required_count (Device SetPathGroup) = 12
required_count _ = 1
