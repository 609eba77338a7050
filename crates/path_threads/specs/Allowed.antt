-- How many losses a device may have while orders are done.
use Rattle.std.specs.Prelude.{ℕ, ◌==◌, List, [], ◌∷◌, Option, Some, None, if◌then◌else◌}
use Rattle.device_outside.specs.declared.volume.Volume.{Ghosts}
use Rattle.device_defs.specs.declared.counts.Losses.{Losses}
use Rattle.device_defs.specs.Events.{one_loss_more}
use Rattle.loss_model.specs.declared.Loss.{Loss}
use Rattle.loss_model.specs.declared.Loss.TheVariants.{Cache, Store, Side}
use Rattle.subsystem_defs.specs.declared.event.Event as events
use Rattle.subsystem_defs.specs.declared.event.Event.TheVariants.{FailCache, FailStore, FailVolume}
use Rattle.device_core.specs.declared.device.Device.{Device}
use Rattle.device_core.specs.State.{device_of}
use Rattle.path_threads.specs.declared.orders.Order.{Order}
use Rattle.path_threads.specs.declared.orders.Order.TheVariants.{Event, Replace}

-- what an event lets the device of this number lose
abbrev pub event_loss : ℕ → events.Event → Option Loss
event_loss n FailCache = Some Cache
event_loss n FailStore = Some Store
event_loss n (FailVolume d side) = if d == n then Some (Side side) else None
event_loss n _ = None

abbrev pub with_loss : Losses → Option Loss → Losses
with_loss l (Some loss) = one_loss_more l loss
with_loss l None = l

module _ {M : Type 0} where
  -- and an order
  abbrev pub loss_of : ℕ → Order M → Option Loss
  loss_of n (Event e) = event_loss n e
  loss_of n (Replace d side maker) = None

  -- one loss more for each order that is one of this device
  abbrev pub allowed : Losses → ℕ → List (Order M) → Losses
  allowed l n [] = l
  allowed l n (o ∷ os) = allowed (with_loss l (loss_of n o)) n os

  abbrev pub allowed_of : {V : Type 0} {G : Ghosts V} → List (Order M) → Device V G → Losses
  allowed_of os d = allowed (device_of d).store.counts.losses (device_of d).store.device os
