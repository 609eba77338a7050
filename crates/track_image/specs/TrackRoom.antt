-- A track that is kept as its bytes, in room that was made for any track.
use Rattle.std.specs.Prelude.{◌≡◌, ◌≤◌, ℕ, List, length, Result, Ok, Err}
use Rattle.ckd_types.specs.declared.geometry.Geometry.{Geometry}
use Rattle.ckd_types.specs.declared.record.Track.{Track}
use Rattle.ckd_types.specs.Geometry.{cchh_of}
use Rattle.ckd_types.specs.Track.{Fits, empty_track, track_bytes}
use Rattle.track_image.specs.Packed.{most_bytes}
use Rattle.track_image.specs.Reading.{reading}

-- what was read, or an empty track
abbrev pub read_or_empty : ℕ → Result Track ℕ → Track
read_or_empty t (Ok track) = track
read_or_empty t (Err at) = empty_track t

-- the track that bytes spell
abbrev pub track_read : Geometry → ℕ → List ℕ → Track
track_read g t bytes = read_or_empty t (reading g (cchh_of t) bytes)

-- the bytes spell a track that fits and says where it is, and have room for any other
pub record IsHeld (g : Geometry) (t : ℕ) (bytes : List ℕ) (most : ℕ) : Type 0 where
  pub fits : Fits g (track_read g t bytes)
  pub home : (track_read g t bytes).home ≡ cchh_of t
  pub spelled : bytes ≡ track_bytes (track_read g t bytes)
  pub short : length bytes ≤ most_bytes
  pub room : most_bytes ≤ most
