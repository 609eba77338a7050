-- What a look at a track of a device past the channel answers.
use Rattle.std.specs.Prelude.{◌≡◌, ◌⊎◌, ℕ, true, false, List, Option, Some, None}
use Rattle.ckd_types.specs.declared.paths.Side.{Side}
use Rattle.ckd_types.specs.declared.record.Track.{Track as PlainTrack}
use Rattle.device_defs.specs.Peek.{Peeked, Track, Lost, Fault, BadBytes}
use Rattle.device_defs.specs.Sound.{DeviceStore}
use Rattle.device_defs.specs.Store.{has_level, is_lost, level_at, side_of}
use Rattle.device_laws.specs.SoundOn.{image_on}
use Rattle.device_laws.specs.Whole.{WholeDevice}

-- this side had the track, and gave no bytes; or no side had it
abbrev pub HasNoBytes : DeviceStore → ℕ → Side → Type 0
HasNoBytes s t side = (level_at (side_of s side) t ≡ true) ⊎ (has_level s t ≡ false)

-- the track of the plain device of its history; or it is lost; or this side had the track and gave no bytes, or none had it. Bytes are never bad
abbrev pub FoundPlain : (ℕ → List PlainTrack) → WholeDevice → ℕ → Option Peeked → Type 0
FoundPlain first d t None = Unit {0}
FoundPlain first d t (Some (Track i)) = i ≡ image_on first d t
FoundPlain first d t (Some Lost) = is_lost d.store t ≡ true
FoundPlain first d t (Some (Fault side)) = (is_lost d.store t ≡ false) × HasNoBytes d.store t side
FoundPlain first d t (Some (BadBytes side)) = ⊥
