-- What an event or an order leaves of a copy that is being made.
use Rattle.std.proofs.Common.{◌≡◌, ◌∙◌, ◌*◌, ℕ, List, [], length, Option, Some, None, Result, Ok, Err, refl, ap}
use Rattle.std.specs.Prelude.{IfSome, OnOk}
use Rattle.device_outside.specs.declared.volume.Volume.{Ghosts}
use Rattle.device_outside.specs.Disk.{Disk, disk_view, new_disk}
use Rattle.device_core.specs.declared.device.Device.{Device}
use Rattle.subsystem_core.specs.Devices.{numbers_of}
use Rattle.deck_run.proofs.Replacing.{new_told}
use Rattle.line_drive.specs.Driven.{Occurred}
use Rattle.line_drive.specs.Ending.{IsNewFor}
use Rattle.line_drive.specs.Staging.{GoesOn}
use Rattle.point_copy.specs.Copying.{copy_did}
use Rattle.point_copy.specs.CopyRun.{Copying}
use Rattle.point_copy.specs.Sessions.{IsCopy}
use Rattle.copy_tool.specs.declared.copying.CopyStage.{CopyStage}
use Rattle.copy_tool.specs.Standing.{IsCopying, cylinders_of}

pub on_ok : {A E P : Type 0} (r : Result A E) → P → OnOk r P
on_ok (Ok a) p = p
on_ok (Err e) p = tt

pub on_map : {A E P Q : Type 0} (r : Result A E) → (P → Q) → OnOk r P → OnOk r Q
on_map (Ok a) f p = f p
on_map (Err e) f p = tt

abbrev numbers_at : CopyStage → List ℕ
numbers_at x = numbers_of x.session.sub.devices.items

module _ (x y : CopyStage) where
  pub goes_on : numbers_at y ≡ numbers_at x → GoesOn numbers_at (λ z o. Unit {0}) x y
  goes_on same = record { same = same; still = λ o m. m }

  pub did_so : (o : Occurred) (c : Copying) (is : IsCopying x c) → y.images.items ≡ x.images.items → IsCopy y.session (copy_did c.state o) is.old →
      IsCopying y (record c { state = copy_did c.state o })
  did_so o c is same copy = record { old = is.old; copy = copy; images = same ∙ is.images }

module _ {V : Type 0} {G : Ghosts V} where
  pub sizes_so : (o : Option (Device V G)) → IfSome o (λ x. x.store.cylinders ≡ cylinders_of o)
  sizes_so (Some x) = refl
  sizes_so None = tt

  -- a new volume is one for the device
  pub new_for : (volume : Disk) (o : Option (Device V G)) → volume ≡ new_disk (cylinders_of o) [] [] → IsNewFor (disk_view volume) o
  new_for volume (Some x) is = new_told (disk_view volume) x.store.cylinders (ap disk_view is)
  new_for volume None is = tt

  pub size_for : (volume : Disk) (o : Option (Device V G)) → length volume.tracks ≡ cylinders_of o * 15 →
      IfSome o (λ x. (disk_view volume).tracks ≡ x.store.cylinders * 15)
  size_for volume (Some x) is = is
  size_for volume None is = tt
