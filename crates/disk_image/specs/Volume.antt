-- The volume that an image file holds.
use Rattle.std.specs.Prelude.{◌≡◌, ◌≢◌, ◌⊎◌, ◌≤◌, ◌<◌, ℕ, ◌+◌, ◌*◌, List, [], ◌∷◌, ◌++◌, ⊤, length, take, Option, Some, None, Result, Ok, Err, IsErrOf}
use Rattle.ckd_outside.specs.Causes.{Rose}
use Rattle.std.specs.List.{flat_map, range_with_len}
use Rattle.ckd_types.specs.declared.geometry.Geometry.{Geometry}
use Rattle.ckd_types.specs.declared.record.Track.{Track}
use Rattle.ckd_types.specs.Geometry.{cchh_of}
use Rattle.ckd_types.specs.Track.{track_bytes}
use Rattle.track_image.specs.Image.{Image}
use Rattle.track_image.specs.Reading.{reading}
use Rattle.volume_file.specs.File.{ImageVolume, IsPlaced, image_in}
use Rattle.disk_image.specs.declared.fault.ImageFault.{ImageFault}
use Rattle.disk_image.specs.declared.fault.ImageFault.TheVariants.{BadTrack, FileFault, ManyCylinders, NoMemory}
use Rattle.disk_image.specs.declared.volume.TrackFault.{TrackFault}
use Rattle.disk_image.specs.declared.layout.Layout.{Layout}
use Rattle.disk_image.specs.File.{head_of, place_of, track_in}
use Rattle.disk_image.specs.Opening.{opening}

-- this is so of a file that tells what it holds
abbrev pub Told : Option (List ℕ) → (List ℕ → Type 0) → Type 0
Told None P = ⊤
Told (Some all) P = P all

-- what is so of every volume of an image: a volume file's has at most 64 cylinders, an image's may have more
pub record IsDiskVolume (v : ImageVolume) : Type 0 where
  pub least : 1 ≤ v.cylinders
  pub most : v.cylinders ≤ 4369
  pub tracks : length v.images ≡ v.cylinders * 15
  pub placed : (t : ℕ) → t < length v.images → IsPlaced v.geometry t (image_in v t)

-- a track of a file has the bytes of a volume's track
abbrev pub HasTrack : ImageVolume → List ℕ → ℕ → Type 0
HasTrack v all t = track_in v.geometry all t ≡ track_bytes (image_in v t).track

abbrev pub HasTracks : ImageVolume → ℕ → List ℕ → Type 0
HasTracks v n all = (t : ℕ) → t < n → HasTrack v all t

abbrev pub layout_of : ImageVolume → Layout
layout_of v = record { geometry = v.geometry; cylinders = v.cylinders }

-- a file is an image of a volume
pub record Holds (v : ImageVolume) (all : List ℕ) : Type 0 where
  pub opens : opening all ≡ Ok (layout_of v)
  pub tracks : HasTracks v (v.cylinders * 15) all

-- what was read of a track, which begins at an offset of the file
abbrev pub fault_by : ℕ → ℕ → Result Track ℕ → List TrackFault
fault_by t at (Ok track) = []
fault_by t at (Err offset) = record { track = t; offset = at + offset } ∷ []

-- the fault of the bytes in a track's room
abbrev pub faults_by : Geometry → ℕ → List ℕ → List TrackFault
faults_by g t bytes = fault_by t (place_of g t) (reading g (cchh_of t) bytes)

-- the fault of a track, by its number and the offset in the file of its first field that is wrong or cut
abbrev pub fault_at : Geometry → List ℕ → ℕ → List TrackFault
fault_at g all t = faults_by g t (track_in g all t)

-- the faults of the first tracks
abbrev pub faults_in : Geometry → ℕ → List ℕ → List TrackFault
faults_in g n all = flat_map (fault_at g all) (range_with_len 0 n)

-- these bytes are no such track, for this fault, or memory ran out
abbrev pub IsFault : Geometry → ℕ → List ℕ → ImageFault → Type 0
IsFault g t bytes (BadTrack u offset) = (u ≡ t) × (faults_by g t bytes ≡ record { track = t; offset = offset } ∷ [])
IsFault g t bytes NoMemory = ⊤
IsFault g t bytes _ = ⊥

-- why a track of a file is none
abbrev pub TellsTrack : Option (List ℕ) → Geometry → ℕ → ImageFault → Type 0
TellsTrack held g t (BadTrack u offset) = (u ≡ t) × Told held (λ all. fault_at g all t ≡ record { track = t; offset = offset } ∷ [])
TellsTrack held g t FileFault = ⊤
TellsTrack held g t NoMemory = ⊤
TellsTrack held g t _ = ⊥

-- the fault of a track was put behind those that were found
abbrev pub Notes : ImageFault → List TrackFault → List TrackFault → Type 0
Notes (BadTrack u offset) xs ys = ys ≡ xs ++ record { track = u; offset = offset } ∷ []
Notes _ xs ys = ⊥

-- one fault is handed on, unless it is that of a track, which leaves want of memory alone
abbrev pub IsHanded : ImageFault → ImageFault → Type 0
IsHanded (BadTrack t offset) e = e ≡ NoMemory
IsHanded fault e = e ≡ fault

-- why the tracks of a file of this layout are no volume: the first of them that is bad
abbrev pub TellsBad : Option (List ℕ) → Layout → ImageFault → Type 0
TellsBad held l (BadTrack t offset) =
    (t < l.cylinders * 15) × Told held (λ all. faults_in l.geometry (t + 1) all ≡ record { track = t; offset = offset } ∷ [])
TellsBad held l FileFault = ⊤
TellsBad held l NoMemory = ⊤
TellsBad held l _ = ⊥

-- why a file of this layout isn't loaded: it has more cylinders than a volume file may have, or a bad track
abbrev pub TellsUnloaded : Option (List ℕ) → Layout → ImageFault → Type 0
TellsUnloaded held l (ManyCylinders n) = (n ≡ l.cylinders) × (64 < l.cylinders)
TellsUnloaded held l fault = TellsBad held l fault

-- a failed call of the file is answered only where one failed, by the file's count of faults before and after
abbrev pub FileFaultHasCause : {X : Type 0} → Result X ImageFault → ℕ → ℕ → Type 0
FileFaultHasCause result before after = IsErrOf result FileFault → Rose before after
