-- A copy that is being made stands as one over a run.
use Rattle.std.specs.Prelude.{◌≡◌, ℕ, map, Option, Some, None}
use Rattle.std.specs.List.{range_with_len}
use Rattle.ckd_types.specs.declared.geometry.Geometry.{Geometry}
use Rattle.ckd_types.specs.Volume.{IsVolume}
use Rattle.track_image.specs.Image.{Image}
use Rattle.device_outside.specs.declared.volume.Volume.{Ghosts}
use Rattle.device_core.specs.declared.device.Device.{Device}
use Rattle.device_defs.specs.Store.{tracks_of}
use Rattle.device_core.specs.State.{device_of}
use Rattle.subsystem_core.specs.Devices.{device_at}
use Rattle.subsystem_defs.specs.Subsystem as runs
use Rattle.subsystem_defs.specs.Subsystem.{Mounted}
use Rattle.volume_file.specs.File.{ImageVolume, IsWhole}
use Rattle.point_copy.specs.declared.session.Session.{Session}
use Rattle.point_copy.specs.Copying.{plain_images}
use Rattle.point_copy.specs.CopyRun.{Copying}
use Rattle.point_copy.specs.Sessions.{IsBegunOver, IsCopy}
use Rattle.copy_tool.specs.declared.copying.CopyStage.{CopyStage}

-- its session stands so, for some old images, and the same images were given
pub record IsCopying (x : CopyStage) (c : Copying) : Type 0 where
  pub old : ℕ → Image
  pub copy : IsCopy x.session c.state old
  pub images : x.images.items ≡ c.images

abbrev pub cylinders_of : {V : Type 0} {G : Ghosts V} → Option (Device V G) → ℕ
cylinders_of (Some x) = (device_of x).store.cylinders
cylinders_of None = 0

abbrev pub cylinders_at : CopyStage → ℕ → ℕ
cylinders_at x d = cylinders_of (device_at x.session.sub.devices.items d)

module _ {V : Type 0} {G : Ghosts V} where
  -- the session has begun over a run, of a device of this model and size
  pub record IsBegunOf (run : runs.Subsystem) (d : ℕ) (g : Geometry) (cylinders : ℕ) (s : Session V G) : Type 0 where
    pub begun : IsBegunOver run d s
    pub geometry : g ≡ begun.mounted.device.store.geometry
    pub cylinders_are : cylinders ≡ begun.mounted.device.store.cylinders

-- of this device of a run, whose volume is one, the volume has the images that it has there
pub record IsMade (m : Mounted) (v : ImageVolume) : Type 0 where
  pub plain : IsVolume m.device.store.geometry m.device.store.cylinders m.device.store.plain
  pub geometry : v.geometry ≡ m.device.store.geometry
  pub cylinders : v.cylinders ≡ m.device.store.cylinders
  pub images : v.images ≡ map (plain_images m) (range_with_len 0 (tracks_of m.device.store))
  pub whole : IsWhole v
