-- What is read of an image, and how a reading ends.
use Rattle.std.specs.Prelude.{◌≡◌, ◌<◌, ℕ, ◌+◌, ◌*◌, List, [], ◌∷◌, length, ⊤, Option, Result, Ok, Err, IfOk}
use Rattle.disk_image.specs.declared.fault.ImageFault.{ImageFault}
use Rattle.disk_image.specs.declared.fault.ImageFault.TheVariants as faults
use Rattle.disk_image.specs.declared.layout.Layout.{Layout}
use Rattle.disk_image.specs.declared.volume.TrackFault.{TrackFault}
use Rattle.disk_image.specs.Opening.{◌>>=◌, opening}
use Rattle.disk_image.specs.Volume.{HasTracks, Holds, IsDiskVolume, Told, faults_in}
use Rattle.track_image.specs.Image.{Image}
use Rattle.volume_file.specs.File.{ImageVolume, IsPlaced, IsWhole, file_of, image_in}
use Rattle.volume_texts.specs.declared.listing.Row.{Row}
use Rattle.volume_texts.specs.List.{list_text, rows_from}
use Rattle.image_tool.specs.declared.status.ImageStatus.{ImageStatus}
use Rattle.image_tool.specs.declared.status.ImageStatus.TheVariants.{Done, NoMemory, BadImage, BadTracks, FileFault}
use Rattle.image_tool.specs.Texts.{check_text, shown_text}
use Rattle.image_tool.specs.Written.{IsWritten}

-- each bad track of an image, or why a file is none
abbrev pub checking : List ℕ → Result (List TrackFault) ImageFault
checking all = opening all >>= (λ l. Ok (faults_in l.geometry (l.cylinders * 15) all))

abbrev pub IsChecked : List ℕ → Result (List TrackFault) ImageFault → Type 0
IsChecked all found = checking all ≡ found

abbrev pub IsOpened : List ℕ → Result Layout ImageFault → Type 0
IsOpened all found = opening all ≡ found

-- the first bad track of an image, and where in the file its first field is that is wrong or cut
pub record IsFirstBad (all : List ℕ) (t offset : ℕ) : Type 0 where
  pub layout : Layout
  pub opens : opening all ≡ Ok layout
  pub within : t < layout.cylinders * 15
  pub first : faults_in layout.geometry (t + 1) all ≡ record { track = t; offset = offset } ∷ []

-- a file holds a volume; or it is refused, or one of its tracks is bad
abbrev pub IsHeld : List ℕ → Result ImageVolume ImageFault → Type 0
IsHeld all (Ok v) = Holds v all
IsHeld all (Err (faults.BadTrack t offset)) = IsFirstBad all t offset
IsHeld all (Err fault) = opening all ≡ Err fault

-- an image has so many cylinders, which are too many for a volume file
pub record HasMany (all : List ℕ) (n : ℕ) : Type 0 where
  pub layout : Layout
  pub opens : opening all ≡ Ok layout
  pub count : n ≡ layout.cylinders
  pub many : 64 < n

-- the same of a volume that is to have a volume file
abbrev pub IsFiled : List ℕ → Result ImageVolume ImageFault → Type 0
IsFiled all (Err (faults.ManyCylinders n)) = HasMany all n
IsFiled all found = IsHeld all found

-- the volume of an image of this layout whose tracks these are
abbrev pub volume_by : Layout → List Image → ImageVolume
volume_by l images = record { geometry = l.geometry; cylinders = l.cylinders; images = images }

-- these are the rows of an image's first tracks
pub record AreRows (l : Layout) (n : ℕ) (file : Option (List ℕ)) (rows : List Row) : Type 0 where
  pub images : List Image
  pub count : length images ≡ n
  pub placed : (t : ℕ) → t < n → IsPlaced l.geometry t (image_in (volume_by l images) t)
  pub tracks : Told file (HasTracks (volume_by l images) n)
  pub are : rows ≡ rows_from 0 images

-- this was found in a file, where that tells what it holds; or a call of it failed, or memory ran out
abbrev pub Finds : {A : Type 0} → (List ℕ → Result A ImageFault → Type 0) → Option (List ℕ) → Result A ImageFault → Type 0
Finds IsSo file (Err faults.FileFault) = ⊤
Finds IsSo file (Err faults.NoMemory) = ⊤
Finds IsSo file found = Told file (λ all. IsSo all found)

-- the answer to a file that is refused
abbrev pub refused_by : ImageFault → ImageStatus
refused_by faults.FileFault = FileFault
refused_by faults.NoMemory = NoMemory
refused_by fault = BadImage fault

abbrev pub found_status : List TrackFault → ImageStatus
found_status [] = Done
found_status (f ∷ found) = BadTracks

abbrev pub check_status : Result (List TrackFault) ImageFault → ImageStatus
check_status (Ok found) = found_status found
check_status (Err fault) = refused_by fault

abbrev pub shown_status : Result ImageVolume ImageFault → ImageStatus
shown_status (Ok v) = Done
shown_status (Err fault) = refused_by fault

-- a file was checked
pub record Checks (status : ImageStatus) (file held holds : Option (List ℕ)) : Type 0 where
  pub found : Result (List TrackFault) ImageFault
  pub is : Finds IsChecked file found
  pub written : IsWritten status (check_status found) held holds (check_text found)

-- the volume of a file was shown
pub record Shows (IsSo : List ℕ → Result ImageVolume ImageFault → Type 0) (IsOne : ImageVolume → Type 0) (text : ImageVolume → List ℕ) (status : ImageStatus) (file held holds : Option (List ℕ)) : Type 0 where
  pub found : Result ImageVolume ImageFault
  pub whole : IfOk found (λ v. IsOne v)
  pub is : Finds IsSo file found
  pub written : IsWritten status (shown_status found) held holds (shown_text text found)

-- its list was written, or its volume file
abbrev pub ShowsList : ImageStatus → Option (List ℕ) → Option (List ℕ) → Option (List ℕ) → Type 0
ShowsList status file held holds = Shows IsHeld IsDiskVolume list_text status file held holds

abbrev pub ShowsFile : ImageStatus → Option (List ℕ) → Option (List ℕ) → Option (List ℕ) → Type 0
ShowsFile status file held holds = Shows IsFiled IsWhole file_of status file held holds
