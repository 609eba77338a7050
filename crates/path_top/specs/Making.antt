-- The volumes that may come of one that is wanted.
use Rattle.std.specs.Prelude.{◌≡◌, ◌*◌, ℕ, List}
use Rattle.device_outside.specs.Both.{SideIs}
use Rattle.device_outside.specs.Disk.{empty_contents}
use Rattle.device_outside.specs.Volume.{VolumeView}
use Rattle.subsystem_defs.specs.Subsystem.{unfailing}
use Rattle.path_top.specs.declared.making.NewVolume.{NewVolume}

-- it holds empty tracks, as many as so many cylinders have, and none of its calls fails
pub record IsEmpty {V : Type 0} (view : V → VolumeView (List ℕ)) (cylinders : ℕ) (volume : V) : Type 0 where
  pub told : SideIs (view volume) (empty_contents (cylinders * 15)) unfailing
  pub tracks : (view volume).tracks ≡ cylinders * 15

abbrev pub Makes : {V : Type 0} → (V → VolumeView (List ℕ)) → NewVolume → V → Type 0
Makes view new volume = IsEmpty view new.cylinders volume
