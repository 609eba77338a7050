-- A plain volume: a list of tracks, fifteen a cylinder.
use Rattle.std.specs.Prelude.{◌≡◌, ℕ, ◌*◌, ◌<◌, List, map, length, slice_index_or}
use Rattle.std.specs.List.{range_with_len}
use Rattle.ckd_types.specs.declared.geometry.Geometry.{Geometry}
use Rattle.ckd_types.specs.declared.record.Track.{Track}
use Rattle.ckd_types.specs.Geometry.{cchh_of}
use Rattle.ckd_types.specs.Track.{empty_track, Fits}

abbrev pub PlainVolume : Type 0
PlainVolume = List Track

abbrev pub track_in : PlainVolume → ℕ → Track
track_in v t = slice_index_or v t (empty_track t)

abbrev pub empty_volume : ℕ → PlainVolume
empty_volume cylinders = map empty_track (range_with_len 0 (cylinders * 15))

-- each track is where it says, and fits
pub record IsVolume (g : Geometry) (cylinders : ℕ) (v : PlainVolume) : Type 0 where
  pub tracks : length v ≡ cylinders * 15
  pub homes : (t : ℕ) → t < cylinders * 15 → (track_in v t).home ≡ cchh_of t
  pub fits : (t : ℕ) → t < cylinders * 15 → Fits g (track_in v t)
