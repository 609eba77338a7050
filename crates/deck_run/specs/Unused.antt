-- Devices to which nothing has happened.
use Rattle.std.specs.Prelude.{◌≡◌, List, [], ◌∷◌}
use Rattle.plain_defs.specs.History.{no_history}
use Rattle.device_outside.specs.declared.volume.Volume.{Ghosts}
use Rattle.device_core.specs.declared.device.Device.{Device}
use Rattle.device_core.specs.State.{device_of}

module _ {V : Type 0} {G : Ghosts V} where
  abbrev pub IsUnused : Device V G → Type 0
  IsUnused x = (device_of x).history ≡ no_history

  abbrev pub AreUnused : List (Device V G) → Type 0
  AreUnused [] = Unit {0}
  AreUnused (x ∷ xs) = IsUnused x × AreUnused xs
