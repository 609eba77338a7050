-- The commands of each operation of locate record.
use Rattle.std.specs.Prelude.{Bool, true, false, not}
use Rattle.ckd_types.specs.declared.command.Command.{Command}
use Rattle.ckd_types.specs.declared.command.Command.TheVariants as commands
use Rattle.ckd_types.specs.declared.command.Control.TheVariants.{NoOperation}
use Rattle.ckd_types.specs.declared.command.ReadArea.{ReadArea}
use Rattle.ckd_types.specs.declared.command.ReadArea.TheVariants as reads
use Rattle.ckd_types.specs.declared.command.Write.{Write}
use Rattle.ckd_types.specs.declared.command.Write.TheVariants as writes
use Rattle.ckd_types.specs.declared.parameters.Operation.{Operation}
use Rattle.ckd_types.specs.declared.parameters.Operation.TheVariants.{WriteData, Format, ReadData, ReadTracks, Read}

abbrev pub is_reading_tracks : Operation → Bool
is_reading_tracks ReadTracks = true
is_reading_tracks _ = false

-- read tracks takes read track alone; read data and read take every other read
abbrev pub accepts_read : Operation → ReadArea → Bool
accepts_read ReadTracks reads.Track = true
accepts_read ReadData reads.Track = false
accepts_read ReadData area = true
accepts_read Read reads.Track = false
accepts_read Read area = true
accepts_read _ area = false

abbrev pub is_format : Write → Bool
is_format writes.CountKeyData = true
is_format writes.NextTrack = true
is_format writes.Zero = true
is_format _ = false

-- write data takes the updates, format the writes with a count area
abbrev pub accepts_write : Operation → Bool → Bool
accepts_write WriteData format = not format
accepts_write Format format = format
accepts_write _ format = false

-- a no-operation may stand in any domain
abbrev pub accepts : Operation → Command → Bool
accepts operation (commands.Control NoOperation) = true
accepts operation (commands.Read r) = accepts_read operation r.area
accepts operation (commands.Write w) = accepts_write operation (is_format w)
accepts operation _ = false
