-- A volume of track images.
use Rattle.std.specs.Prelude.{◌≡◌, ◌<◌, ⊤, ℕ, List, map}
use Rattle.ckd_types.specs.declared.geometry.Geometry.{Geometry}
use Rattle.ckd_types.specs.declared.record.Track.{Track}
use Rattle.plain_defs.specs.declared.journal.Act.{Act}
use Rattle.plain_defs.specs.declared.journal.Act.TheVariants.{Loosen, Harden, CfwLost}
use Rattle.plain_defs.specs.PlainState.{LooseTrack}
use Rattle.plain_device.specs.declared.loose.LooseImage.{LooseImage}
use Rattle.track_image.specs.Image.{Image}

-- its geometry, and its tracks
pub record ImageVolume : Type 0 where
  pub geometry : Geometry
  pub tracks : List Track

abbrev pub tracks_of : List Image → List Track
tracks_of images = map (λ (i : Image). i.track) images

-- a loose track, with the image that it goes back to
abbrev pub loose_of : List LooseImage → List LooseTrack
loose_of loose = map (λ (l : LooseImage). record { track = l.track; firm = l.image.track }) loose

-- it is a track of a volume of this model, with so many tracks
abbrev pub IsLooseOf : Geometry → ℕ → LooseImage → Type 0
IsLooseOf g tracks l = (l.image.geometry ≡ g) × (l.track < tracks)

-- an act is on a device of so many tracks
abbrev pub IsActOn : ℕ → Act → Type 0
IsActOn tracks (Loosen t) = t < tracks
IsActOn tracks (Harden t) = t < tracks
IsActOn tracks CfwLost = ⊤
