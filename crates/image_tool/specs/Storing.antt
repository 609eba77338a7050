-- What is written into an image, and how that ends.
use Rattle.std.specs.Prelude.{◌≡◌, ◌≢◌, ◌⊎◌, ℕ, ◌*◌, Bool, true, false, List, [], ⊤, Option, Some, None, Result, Ok, Err, ◌==◌, ◌&&◌}
use Rattle.ckd_types.specs.declared.geometry.Geometry.{Geometry}
use Rattle.ckd_types.specs.declared.geometry.Geometry.TheVariants.{D3390, D3380}
use Rattle.disk_image.specs.declared.fault.ImageFault.{ImageFault}
use Rattle.disk_image.specs.declared.fault.ImageFault.TheVariants as images
use Rattle.disk_image.specs.declared.layout.Layout.{Layout}
use Rattle.disk_image.specs.Image.{HasEmpty}
use Rattle.disk_image.specs.Opening.{opening}
use Rattle.disk_image.specs.Storing.{PartlySo}
use Rattle.disk_image.specs.Volume.{Holds, Told, layout_of}
use Rattle.volume_file.specs.declared.fault.LoadFault.{LoadFault}
use Rattle.volume_file.specs.declared.fault.LoadFault.TheVariants as faults
use Rattle.volume_file.specs.Answers.{TellsFault}
use Rattle.volume_file.specs.File.{ImageVolume}
use Rattle.volume_file.specs.Loading.{loading}
use Rattle.volume_texts.specs.Faults.{head_text, track_text, trailing_text}
use Rattle.volume_texts.specs.Given.{IsFile}
use Rattle.image_tool.specs.declared.status.ImageStatus.{ImageStatus}
use Rattle.image_tool.specs.declared.status.ImageStatus.TheVariants.{Done, ReadFault, NoMemory, HasBytes, Other, BadVolume, FileFault}
use Rattle.image_tool.specs.Reading.{Finds, IsOpened, refused_by}
use Rattle.image_tool.specs.Texts.{bytes_text, fault_text, other_text}
use Rattle.image_tool.specs.Written.{IsWritten, Outside}

-- A new image

-- how making an image ends
abbrev pub MadeBy : ImageStatus → Geometry → ℕ → Option (List ℕ) → Type 0
MadeBy Done g cylinders file = HasEmpty g (cylinders * 15) file
MadeBy FileFault g cylinders file = ⊤
MadeBy NoMemory g cylinders file = ⊤
MadeBy _ g cylinders file = ⊥

-- the file has bytes, and stays as it is
pub record IsFull (status : ImageStatus) (file files held holds : Option (List ℕ)) : Type 0 where
  pub bytes : Told file (λ all. all ≢ [])
  pub same : files ≡ file
  pub written : IsWritten status HasBytes held holds bytes_text

-- an image was made, and nothing is written of it
pub record IsMade (status : ImageStatus) (g : Geometry) (cylinders : ℕ) (files held holds : Option (List ℕ)) : Type 0 where
  pub made : MadeBy status g cylinders files
  pub quiet : holds ≡ held

-- what an answer says of a file and of a sink, before and after it
abbrev pub TellsNew : ImageStatus → Geometry → ℕ → Option (List ℕ) → Option (List ℕ) → Option (List ℕ) → Option (List ℕ) → Type 0
TellsNew status g cylinders file files held holds = IsFull status file files held holds ⊎ IsMade status g cylinders files held holds

-- A volume for an image

abbrev pub is_same_model : Geometry → Geometry → Bool
is_same_model D3390 D3390 = true
is_same_model D3380 D3380 = true
is_same_model g other = false

abbrev pub is_alike : Layout → Layout → Bool
is_alike a b = is_same_model a.geometry b.geometry && (a.cylinders == b.cylinders)

-- the answer to a volume file that is refused
abbrev pub TellsLoad : ImageStatus → LoadFault → Option (List ℕ) → Option (List ℕ) → Type 0
TellsLoad status (faults.BadHead offset) held holds = IsWritten status (BadVolume (faults.BadHead offset)) held holds (head_text offset)
TellsLoad status (faults.BadTrack t offset) held holds = IsWritten status (BadVolume (faults.BadTrack t offset)) held holds (track_text t offset)
TellsLoad status (faults.Trailing offset) held holds = IsWritten status (BadVolume (faults.Trailing offset)) held holds (trailing_text offset)
TellsLoad status faults.ReadFault held holds = (status ≡ ReadFault) × (holds ≡ held)
TellsLoad status faults.NoMemory held holds = (status ≡ NoMemory) × (holds ≡ held)

-- what is told of a file then
abbrev pub HasVolume : ImageVolume → Option (List ℕ) → Option (List ℕ) → Type 0
HasVolume v None files = files ≡ None
HasVolume v (Some old) files = (all : List ℕ) × (files ≡ Some all) × Holds v all

-- how storing a volume ends; where a call of the file failed, each track is the volume's or as it was, but for at most one
abbrev pub StoredBy : ImageStatus → ImageVolume → Option (List ℕ) → Option (List ℕ) → Type 0
StoredBy Done v file files = HasVolume v file files
StoredBy FileFault v file files = PartlySo v file files
StoredBy NoMemory v file files = files ≡ file
StoredBy _ v file files = ⊥

-- the same of the call
abbrev pub StoresWhole : ImageVolume → Option (List ℕ) → Result (Unit {0}) ImageFault → Option (List ℕ) → Type 0
StoresWhole v file (Ok x) files = HasVolume v file files
StoresWhole v file (Err images.FileFault) files = PartlySo v file files
StoresWhole v file (Err images.NoMemory) files = files ≡ file
StoresWhole v file (Err _) files = ⊥

-- a volume isn't for an image of this layout
pub record IsUnlike (status : ImageStatus) (l : Layout) (v : ImageVolume) (file files held holds : Option (List ℕ)) : Type 0 where
  pub unlike : is_alike l (layout_of v) ≡ false
  pub same : files ≡ file
  pub written : IsWritten status (Other l (layout_of v)) held holds (other_text l (layout_of v))

-- a volume was stored into an image of its layout, and nothing is written of it
pub record IsStored (status : ImageStatus) (l : Layout) (v : ImageVolume) (file files held holds : Option (List ℕ)) : Type 0 where
  pub alike : l ≡ layout_of v
  pub stored : StoredBy status v file files
  pub quiet : holds ≡ held

abbrev pub TellsVolume : ImageStatus → Layout → ImageVolume → Option (List ℕ) → Option (List ℕ) → Option (List ℕ) → Option (List ℕ) → Type 0
TellsVolume status l v file files held holds = IsUnlike status l v file files held holds ⊎ IsStored status l v file files held holds

-- the source gave no volume
pub record IsNoVolume (status : ImageStatus) (old new : Outside) : Type 0 where
  pub fault : LoadFault
  pub is : TellsFault loading old.left fault
  pub same : new.file ≡ old.file
  pub told : TellsLoad status fault old.held new.held

-- it gave the file of a volume, to its end
pub record IsGiven (status : ImageStatus) (l : Layout) (old new : Outside) : Type 0 where
  pub volume : ImageVolume
  pub given : IsFile old.left new.left volume
  pub told : TellsVolume status l volume old.file new.file old.held new.held

abbrev pub TellsGiven : ImageStatus → Layout → Outside → Outside → Type 0
TellsGiven status l old new = IsNoVolume status old new ⊎ IsGiven status l old new

-- the file is no image, and nothing was read
pub record IsNoImage (status : ImageStatus) (old new : Outside) : Type 0 where
  pub fault : ImageFault
  pub is : Finds IsOpened old.file (Err fault)
  pub left : new.left ≡ old.left
  pub same : new.file ≡ old.file
  pub written : IsWritten status (refused_by fault) old.held new.held (fault_text fault)

-- it is an image of some layout
pub record IsImage (status : ImageStatus) (old new : Outside) : Type 0 where
  pub layout : Layout
  pub opened : Told old.file (λ all. opening all ≡ Ok layout)
  pub told : TellsGiven status layout old new

abbrev pub TellsFrom : ImageStatus → Outside → Outside → Type 0
TellsFrom status old new = IsNoImage status old new ⊎ IsImage status old new
