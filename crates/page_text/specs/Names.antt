-- The names of commands, in the field's terms.
use Rattle.std.specs.Prelude.{ℕ, ◌==◌, Bool, List, [], codes, Option, Some, None, if◌then◌else◌}
use Rattle.ckd_types.specs.declared.command.Command.{Command}
use Rattle.ckd_types.specs.declared.command.Command.TheVariants as kinds
use Rattle.ckd_types.specs.declared.command.Comparison.{Comparison}
use Rattle.ckd_types.specs.declared.command.Comparison.TheVariants as compares
use Rattle.ckd_types.specs.declared.command.Control.{Control}
use Rattle.ckd_types.specs.declared.command.Control.TheVariants as controls
use Rattle.ckd_types.specs.declared.command.DeviceCommand.{DeviceCommand}
use Rattle.ckd_types.specs.declared.command.DeviceCommand.TheVariants as devices
use Rattle.ckd_types.specs.declared.command.ReadArea.{ReadArea}
use Rattle.ckd_types.specs.declared.command.ReadArea.TheVariants as reads
use Rattle.ckd_types.specs.declared.command.SearchArea.{SearchArea}
use Rattle.ckd_types.specs.declared.command.SearchArea.TheVariants as searches
use Rattle.ckd_types.specs.declared.command.Write.{Write}
use Rattle.ckd_types.specs.declared.command.Write.TheVariants as writes
use Rattle.ckd_types.specs.Commands.{command_of}

abbrev pub control_name : Control → List ℕ
control_name controls.NoOperation = codes "No-Operation"
control_name controls.Seek = codes "Seek"
control_name controls.SeekCylinder = codes "Seek Cylinder"
control_name controls.SeekHead = codes "Seek Head"
control_name controls.Recalibrate = codes "Recalibrate"
control_name controls.SetSector = codes "Set Sector"
control_name controls.SetFileMask = codes "Set File Mask"
control_name controls.DefineExtent = codes "Define Extent"
control_name controls.LocateRecord = codes "Locate Record"

abbrev pub id_name : Comparison → List ℕ
id_name compares.Equal = codes "Search ID Equal"
id_name compares.High = codes "Search ID High"
id_name compares.EqualOrHigh = codes "Search ID Equal or High"

abbrev pub key_name : Comparison → List ℕ
key_name compares.Equal = codes "Search Key Equal"
key_name compares.High = codes "Search Key High"
key_name compares.EqualOrHigh = codes "Search Key Equal or High"

abbrev pub search_name : SearchArea → List ℕ
search_name (searches.Id comparison) = id_name comparison
search_name (searches.Key comparison) = key_name comparison
search_name searches.Home = codes "Search Home Address Equal"

abbrev pub read_name : ReadArea → List ℕ
read_name reads.Home = codes "Read Home Address"
read_name reads.Zero = codes "Read Record 0"
read_name reads.Count = codes "Read Count"
read_name reads.Data = codes "Read Data"
read_name reads.KeyData = codes "Read Key and Data"
read_name reads.CountKeyData = codes "Read Count, Key and Data"
read_name reads.Multiple = codes "Read Multiple Count, Key and Data"
read_name reads.Track = codes "Read Track"

abbrev pub write_name : Write → List ℕ
write_name writes.Data = codes "Write Data"
write_name writes.UpdateData = codes "Write Update Data"
write_name writes.KeyData = codes "Write Key and Data"
write_name writes.UpdateKeyData = codes "Write Update Key and Data"
write_name writes.CountKeyData = codes "Write Count, Key and Data"
write_name writes.NextTrack = codes "Write Count, Key and Data Next Track"
write_name writes.Zero = codes "Write Record 0"

abbrev pub device_name : DeviceCommand → List ℕ
device_name devices.Sense = codes "Sense"
device_name devices.SenseId = codes "Sense ID"
device_name devices.Reserve = codes "Device Reserve"
device_name devices.Release = codes "Device Release"
device_name devices.UnconditionalReserve = codes "Unconditional Reserve"
device_name devices.SetPathGroup = codes "Set Path Group ID"
device_name devices.SensePathGroup = codes "Sense Path Group ID"

abbrev pub command_name : Command → List ℕ
command_name (kinds.Control control) = control_name control
command_name (kinds.Search search) = search_name search.area
command_name (kinds.Read read) = read_name read.area
command_name (kinds.Write write) = write_name write
command_name (kinds.Device command) = device_name command

abbrev pub other_name : ℕ → List ℕ
other_name code = if code == 0x08 then codes "Transfer in Channel" else codes "no command"

abbrev pub name_by : Option Command → ℕ → List ℕ
name_by (Some command) code = command_name command
name_by None code = other_name code

-- the name of the command of a code
abbrev pub name_of : ℕ → List ℕ
name_of code = name_by (command_of code) code

abbrev pub repeat_mark : Bool → List ℕ
repeat_mark multitrack = if multitrack then codes " Multitrack" else []

abbrev pub repeat_by : Command → List ℕ
repeat_by (kinds.Search search) = repeat_mark search.multitrack
repeat_by (kinds.Read read) = repeat_mark read.multitrack
repeat_by (kinds.Control control) = []
repeat_by (kinds.Write write) = []
repeat_by (kinds.Device command) = []

abbrev pub repeat_in : Option Command → List ℕ
repeat_in (Some command) = repeat_by command
repeat_in None = []

-- of a search or read whether it goes on to the next track
abbrev pub repeat_name : ℕ → List ℕ
repeat_name code = repeat_in (command_of code)
