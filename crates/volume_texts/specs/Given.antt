-- A volume whose file a source gave.
use Rattle.std.specs.Prelude.{ℕ, List, Option}
use Rattle.std.specs.Io.KnownBytes.{Consumes, IsAtEnd}
use Rattle.volume_file.specs.File.{ImageVolume, IsWhole, file_of}

-- a source gave this volume's file to its end
pub record IsFile (before after : Option (List ℕ)) (v : ImageVolume) : Type 0 where
  pub whole : IsWhole v
  pub read : Consumes before after (file_of v)
  pub end : IsAtEnd after
