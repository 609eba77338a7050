-- What the Firm messages that a keeper is told make of a volume.
use Rattle.std.specs.Prelude.{◌≡◌, ℕ, ◌==◌, not, Bool, false, List, [], ◌∷◌, length, Option, Some, None, is_some, slice_set, slice_index_or, if◌then◌else◌}
use Rattle.ckd_types.specs.declared.record.Track.{Track}
use Rattle.track_image.specs.Image.{Image}
use Rattle.device_outside.specs.Keeper.{Message, BeforeEdit, Firm}
use Rattle.device_defs.specs.Marks.{MarksStore}
use Rattle.device_defs.specs.Store.{HalfWrite, tracks_of, owed_at}
use Rattle.subsystem_defs.specs.Subsystem.{Mounted, Subsystem, number_of, mounted_in}

-- each Firm message of the device of a number puts its track in the volume, one after another
abbrev pub told_firm : ℕ → List (Message Image) → List Track → List Track
told_firm n [] v = v
told_firm n (BeforeEdit d t i ∷ ms) v = told_firm n ms v
told_firm n (Firm d t i ∷ ms) v = told_firm n ms (if d == n then slice_set v t i.track else v)

-- whether the track of a half write is loose
abbrev pub is_half_loose : Option (HalfWrite (Unit {0})) → List Bool → Bool
is_half_loose None loose = false
is_half_loose (Some h) loose = slice_index_or loose h.track false

-- no firm track is still to be told, and the track of a half write isn't loose
pub record IsTold (s : MarksStore) : Type 0 where
  pub room : length s.owed ≡ tracks_of s
  pub free : (t : ℕ) → (owed_at s t).firm ≡ false
  pub half : is_half_loose s.half s.loose ≡ false

-- exactly one device has this number
abbrev pub has_one : ℕ → List Mounted → Bool
has_one n [] = false
has_one n (m ∷ ms) = if number_of m == n then not (is_some (mounted_in ms n)) else has_one n ms

-- the device of this number is there, its firm volume is v, and all of it is told
pub record IsFirm (v : List Track) (s : Subsystem) (n : ℕ) : Type 0 where
  pub mounted : Mounted
  pub there : mounted_in s.mounted n ≡ Some mounted
  pub firm : mounted.device.store.firm ≡ v
  pub told : IsTold mounted.device.store
