-- A track of a device in a run of which nothing can go back and no edit is under way, and that such a track stays as it is.
use Rattle.std.specs.Prelude.{◌≡◌, ℕ, false, Some}
use Rattle.ckd_types.specs.Volume.{track_in}
use Rattle.device_defs.specs.Store.{is_loose}
use Rattle.subsystem_defs.specs.Subsystem.{Mounted, Subsystem, mounted_in}
use Rattle.subsystem_laws.specs.Looking.{is_written_at}

-- it isn't loose, no half write of a command or of one that was cut is open there, and it is the same without data of cache fast write
pub record IsQuiet (m : Mounted) (t : ℕ) : Type 0 where
  pub loose : is_loose m.device.store t ≡ false
  pub half : is_written_at m.device.store.half t ≡ false
  pub firm : track_in m.device.store.firm t ≡ track_in m.device.store.plain t

-- the device of this number is there, of the same size; the track is quiet, and on the plain volume it is what it was
pub record StaysQuiet (m : Mounted) (t : ℕ) (s : Subsystem) (n : ℕ) : Type 0 where
  pub mounted : Mounted
  pub there : mounted_in s.mounted n ≡ Some mounted
  pub geometry : mounted.device.store.geometry ≡ m.device.store.geometry
  pub cylinders : mounted.device.store.cylinders ≡ m.device.store.cylinders
  pub quiet : IsQuiet mounted t
  pub plain : track_in mounted.device.store.plain t ≡ track_in m.device.store.plain t

-- the device of this number is there, of the same size
pub record StaysThere (m : Mounted) (s : Subsystem) (n : ℕ) : Type 0 where
  pub mounted : Mounted
  pub there : mounted_in s.mounted n ≡ Some mounted
  pub geometry : mounted.device.store.geometry ≡ m.device.store.geometry
  pub cylinders : mounted.device.store.cylinders ≡ m.device.store.cylinders
