-- What writing the tracks of a volume leaves of a file.
use Rattle.std.specs.Prelude.{◌≡◌, ◌≢◌, ◌⊎◌, ◌≤◌, ◌<◌, ℕ, ◌*◌, List, length, take, Option, Some, None, Result, Ok, Err}
use Rattle.volume_file.specs.File.{ImageVolume}
use Rattle.disk_image.specs.File.{track_in}
use Rattle.disk_image.specs.Volume.{HasTrack, HasTracks}

-- the first tracks are the volume's, and the others as they were
pub record Stored (v : ImageVolume) (n : ℕ) (old new : List ℕ) : Type 0 where
  pub size : length new ≡ length old
  pub head : take 512 new ≡ take 512 old
  pub tracks : HasTracks v n new
  pub rest : (t : ℕ) → n ≤ t → track_in v.geometry new t ≡ track_in v.geometry old t

-- each track is the volume's or as it was, but for at most one
pub record IsPartly (v : ImageVolume) (old new : List ℕ) : Type 0 where
  pub torn : ℕ
  pub size : length new ≡ length old
  pub head : take 512 new ≡ take 512 old
  pub each : (t : ℕ) → t < v.cylinders * 15 → t ≢ torn → HasTrack v new t ⊎ (track_in v.geometry new t ≡ track_in v.geometry old t)

-- the same of a file that may tell what it holds
abbrev pub StoredSo : ImageVolume → ℕ → Option (List ℕ) → Option (List ℕ) → Type 0
StoredSo v n None new = new ≡ None
StoredSo v n (Some old) new = (all : List ℕ) × (new ≡ Some all) × Stored v n old all

abbrev pub PartlySo : ImageVolume → Option (List ℕ) → Option (List ℕ) → Type 0
PartlySo v None new = new ≡ None
PartlySo v (Some old) new = (all : List ℕ) × (new ≡ Some all) × IsPartly v old all

abbrev pub Stores : {E : Type 0} → ImageVolume → Option (List ℕ) → Result (Unit {0}) E → Option (List ℕ) → Type 0
Stores v old (Ok x) new = StoredSo v (v.cylinders * 15) old new
Stores v old (Err e) new = PartlySo v old new
