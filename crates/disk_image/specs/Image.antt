-- A file as a volume.
use Rattle.std.specs.Prelude.{◌≡◌, ◌≤◌, ℕ, ◌*◌, Bool, true, false, List, [], ⊤, Option, Some, None, Result, Ok, Err, length, if◌then◌else◌}
use Rattle.ckd_types.specs.declared.geometry.Geometry.{Geometry}
use Rattle.device_outside.specs.Volume.{Stores, VolumeView}
use Rattle.disk_image.specs.declared.fault.ImageFault.{ImageFault}
use Rattle.disk_image.specs.declared.fault.ImageFault.TheVariants.{FileFault, NoMemory}
use Rattle.disk_image.specs.declared.layout.Layout.{Layout}
use Rattle.disk_image.specs.File.{empty_file, file_size, tracks_in}
use Rattle.disk_image.specs.Opening.{opening}

-- what opening a file answers, where it tells what it holds
abbrev pub TellsOpening : Option (List ℕ) → Result Layout ImageFault → Type 0
TellsOpening None result = ⊤
TellsOpening (Some all) (Err FileFault) = ⊤
TellsOpening (Some all) (Err NoMemory) = ⊤
TellsOpening (Some all) result = result ≡ opening all

-- a file that tells what it holds has no bytes
abbrev pub IsEmpty : Option (List ℕ) → Type 0
IsEmpty None = ⊤
IsEmpty (Some all) = all ≡ []

-- it is the image of so many empty tracks
abbrev pub HasEmpty : Geometry → ℕ → Option (List ℕ) → Type 0
HasEmpty g n None = ⊤
HasEmpty g n (Some all) = all ≡ empty_file g n

-- it is as long as this layout wants it
abbrev pub IsSized : Option (List ℕ) → Layout → Type 0
IsSized None l = ⊤
IsSized (Some all) l = length all ≡ file_size l.geometry l.cylinders

pub record IsLayoutOf (held : Option (List ℕ)) (l : Layout) : Type 0 where
  pub least : 1 ≤ l.cylinders
  pub most : l.cylinders ≤ 4369
  pub sized : IsSized held l

-- a volume in a file: what that holds, where told, the bytes that the last read delivered, and counts of calls and faults
pub record ImageState : Type 0 where
  pub held : Option (List ℕ)
  pub layout : Layout
  pub delivered : Option (List ℕ)
  pub reads : ℕ
  pub writes : ℕ
  pub faults : ℕ

abbrev pub last_read : Bool → List ℕ → Option (List ℕ)
last_read true bytes = Some bytes
last_read false bytes = None

abbrev pub held_tracks : Layout → Option (List ℕ) → Option (List (List ℕ))
held_tracks l None = None
held_tracks l (Some all) = Some (tracks_in l.geometry l.cylinders all)

-- no plan and no allowance are told
abbrev pub image_view : ImageState → VolumeView (List ℕ)
image_view s = record {
  contents = held_tracks s.layout s.held;
  tracks = s.layout.cylinders * 15;
  delivered = s.delivered;
  reads = s.reads;
  writes = s.writes;
  faults = s.faults;
  plan = None;
  allowance = None;
}

-- what a write leaves of contents and of the file's length
pub record Left (l : Layout) (old : Option (List ℕ)) (t : ℕ) (bytes : List ℕ) (ok : Bool) (new : Option (List ℕ)) : Type 0 where
  pub stores : Stores (held_tracks l old) t bytes ok (held_tracks l new)
  pub layout : IsLayoutOf new l
