-- A volume file: the tracks of a volume as plain bytes.
use Rattle.std.specs.Prelude.{◌≡◌, ◌≤◌, ◌<◌, ◌*◌, ℕ, List, [], ◌∷◌, ◌++◌, length, map, slice_index_or}
use Rattle.std.specs.List.{flat_map, range_with_len}
use Rattle.byteorder.specs.Endian.{big_bytes}
use Rattle.ckd_types.specs.declared.geometry.Geometry.{Geometry}
use Rattle.ckd_types.specs.declared.geometry.Geometry.TheVariants.{D3390, D3380}
use Rattle.ckd_types.specs.Geometry.{cchh_of}
use Rattle.ckd_types.specs.Track.{Fits, empty_track, track_bytes}
use Rattle.track_image.specs.Image.{Image}

-- a volume, with the images of its tracks in rising order
pub record ImageVolume : Type 0 where
  pub geometry : Geometry
  pub cylinders : ℕ
  pub images : List Image

abbrev pub empty_image : Geometry → ℕ → Image
empty_image g t = record { geometry = g; track = empty_track t }

abbrev pub image_in : ImageVolume → ℕ → Image
image_in v t = slice_index_or v.images t (empty_image v.geometry t)

-- an image may be that of a track of a volume: it is of the volume's model, and is where it says
pub record IsPlaced (g : Geometry) (t : ℕ) (i : Image) : Type 0 where
  pub fits : Fits i.geometry i.track
  pub model : i.geometry ≡ g
  pub home : i.track.home ≡ cchh_of t

-- it has at most so many cylinders, and an image of each track, which fits and is where it says
pub record HasTracks (limit : ℕ) (v : ImageVolume) : Type 0 where
  pub least : 1 ≤ v.cylinders
  pub most : v.cylinders ≤ limit
  pub tracks : length v.images ≡ v.cylinders * 15
  pub placed : (t : ℕ) → t < length v.images → IsPlaced v.geometry t (image_in v t)

-- what is so of every volume of a file, and of every volume of a device
abbrev pub IsWhole : ImageVolume → Type 0
IsWhole v = HasTracks 64 v

abbrev pub HasAllTracks : ImageVolume → Type 0
HasAllTracks v = HasTracks 4369 v

abbrev pub empty_images : Geometry → ℕ → List Image
empty_images g cylinders = map (empty_image g) (range_with_len 0 (cylinders * 15))

-- the file begins with CKDVOL01
abbrev pub signature : List ℕ
signature = 0x43 ∷ 0x4b ∷ 0x44 ∷ 0x56 ∷ 0x4f ∷ 0x4c ∷ 0x30 ∷ 0x31 ∷ []

abbrev pub model_byte : Geometry → ℕ
model_byte D3390 = 1
model_byte D3380 = 2

-- then come the model, the cylinders and two zero bytes
abbrev pub head_of : Geometry → ℕ → List ℕ
head_of g cylinders = signature ++ model_byte g ∷ cylinders ∷ 0 ∷ 0 ∷ []

-- a track: how many bytes it has, in four bytes with the high one first, and then these bytes
abbrev pub track_part : Image → List ℕ
track_part i = big_bytes 4 (length (track_bytes i.track)) ++ track_bytes i.track

abbrev pub file_of : ImageVolume → List ℕ
file_of v = head_of v.geometry v.cylinders ++ flat_map track_part v.images
