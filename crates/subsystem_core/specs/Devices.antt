-- The devices of a subsystem by their numbers.
use Rattle.std.specs.Prelude.{ℕ, ◌==◌, List, [], ◌∷◌, Option, Some, None, map, if◌then◌else◌}
use Rattle.device_outside.specs.declared.volume.Volume.{Ghosts}
use Rattle.duplex_pair.specs.declared.pair.SideVolumes.{SideVolumes}
use Rattle.device_core.specs.declared.device.Device.{Device}
use Rattle.device_core.specs.State.{DefinedDevice, device_of, own_volumes}

module _ {V : Type 0} {G : Ghosts V} where
  abbrev pub number_of : Device V G → ℕ
  number_of d = (device_of d).store.device

  abbrev pub numbers_of : List (Device V G) → List ℕ
  numbers_of ds = map number_of ds

  -- as the definitions have them
  abbrev pub devices_of : List (Device V G) → List DefinedDevice
  devices_of ds = map device_of ds

  abbrev pub volumes_of : List (Device V G) → List (SideVolumes V)
  volumes_of ds = map own_volumes ds

  -- the device of this number
  abbrev pub device_at : List (Device V G) → ℕ → Option (Device V G)
  device_at [] n = None
  device_at (d ∷ ds) n = if number_of d == n then Some d else device_at ds n

  -- another one in its place
  abbrev pub put_at : List (Device V G) → ℕ → Device V G → List (Device V G)
  put_at [] n x = []
  put_at (d ∷ ds) n x = if number_of d == n then x ∷ ds else d ∷ put_at ds n x
