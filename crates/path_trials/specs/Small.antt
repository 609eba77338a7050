-- Devices of one cylinder, and orders to them.
use Rattle.std.specs.Prelude.{◌≡◌, []}
use Rattle.device_outside.specs.declared.volume.Volume.{Ghosts}
use Rattle.device_outside.specs.Disk.{Disk, new_disk}
use Rattle.device_core.specs.declared.device.Device.{Device}
use Rattle.device_core.specs.State.{device_of}
use Rattle.path_threads.specs.declared.orders.Order.{Order}
use Rattle.path_threads.specs.declared.orders.Order.TheVariants.{Event, Replace}
use Rattle.path_trials.specs.declared.maker.EmptyVolume.{EmptyVolume}

abbrev pub IsSmall : {V : Type 0} {G : Ghosts V} → Device V G → Type 0
IsSmall d = (device_of d).store.cylinders ≡ 1

-- the volumes that may come of an empty one that is wanted
abbrev pub makes_empty : EmptyVolume → Disk → Type 0
makes_empty empty volume = volume ≡ new_disk empty.cylinders [] []

-- a volume that comes is a new one of as many cylinders
abbrev pub IsNew : Order EmptyVolume → Type 0
IsNew (Event e) = Unit {0}
IsNew (Replace n side empty) = empty.cylinders ≡ 1
