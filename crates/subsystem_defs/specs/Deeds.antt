-- What an event does, one text for the code and for a run: whom it asks, and what becomes of which device.
use Rattle.std.specs.Prelude.{ℕ, ◌==◌, not, Bool, false, List, [], ◌∷◌, Option, Some, None, is_some, if◌then◌else◌}
use Rattle.track_image.specs.Image.{Image}
use Rattle.loss_model.specs.declared.Loss.TheVariants as losses
use Rattle.plain_defs.specs.History.{OpenEntry, is_path_of}
use Rattle.device_outside.specs.Interaction.{Interaction, Done, and_then}
use Rattle.device_outside.specs.Pool.{Pool, cache_failed, store_failed, power_lost, all_waiting, cache_repaired, store_repaired}
use Rattle.device_defs.specs.declared.answers.StartFault.{StartFault}
use Rattle.device_defs.specs.Command.{command}
use Rattle.device_defs.specs.Contents.{Contents}
use Rattle.device_defs.specs.Cutting.{reset, power}
use Rattle.device_defs.specs.Device.{Device}
use Rattle.device_defs.specs.Events.{second, background, lose}
use Rattle.device_defs.specs.Orders.{hold_side, resume}
use Rattle.device_defs.specs.Start.{start_fault, start, next_ordinal}
use Rattle.subsystem_defs.specs.declared.end.EventEnd.{EventEnd}
use Rattle.subsystem_defs.specs.declared.end.EventEnd.TheVariants as ends
use Rattle.subsystem_defs.specs.declared.end.OrderFault.{OrderFault}
use Rattle.subsystem_defs.specs.declared.end.OrderFault.TheVariants.{Down, Up}
use Rattle.subsystem_defs.specs.declared.event.Event.{Event}
use Rattle.subsystem_defs.specs.declared.event.Event.TheVariants as events
use Rattle.subsystem_defs.specs.Refusals.{pair_fault, suspend_fault, resume_fault, fail_fault}

-- an answer of an event, or None where memory was lacking
pub data Deed (F P H R : Type 0) : Type 0 where
  Ends : EventEnd → Deed F P H R  -- nothing is changed
  Becomes : Device F P H → EventEnd → Deed F P H R  -- a device, which asks nobody
  Asks : Device F P H → Interaction R Image (Device F P H) (Option EventEnd) → Deed F P H R  -- a device's own event
  Each : Pool → (Device F P H → Interaction R Image (Device F P H) (Unit {0})) → Deed F P H R  -- the pool, and then every device, by number
  Repairs : Pool → Deed F P H R
  Lends : Device F P H → Device F P H → Deed F P H R  -- to the first one the second one's volume

abbrev pub end_of : {A : Type 0} → (A → EventEnd) → Option A → Option EventEnd
end_of f (Some a) = Some (f a)
end_of f None = None

abbrev pub ends_done : Unit {0} → EventEnd
ends_done u = ends.Done

module _ {F P H : Type 0} where
  -- the device of this number; that there is one is the caller's condition
  abbrev pub device_in : List (Device F P H) → ℕ → Option (Device F P H)
  device_in [] n = None
  device_in (d ∷ ds) n = if d.store.device == n then Some d else device_in ds n

module _ {F P H R : Type 0} where
  -- an answer as an event's end
  abbrev pub ends_by : {A : Type 0} → (A → EventEnd) → Interaction R Image (Device F P H) A → Interaction R Image (Device F P H) (Option EventEnd)
  ends_by f i = and_then i (λ d a. Done d (Some (f a)))

  -- an answer that may be want of memory
  abbrev pub may_end_by : {A : Type 0} → (A → EventEnd) → Interaction R Image (Device F P H) (Option A) →
      Interaction R Image (Device F P H) (Option EventEnd)
  may_end_by f i = and_then i (λ d a. Done d (end_of f a))

  abbrev pub on_device : Option (Device F P H) → (Device F P H → Deed F P H R) → Deed F P H R
  on_device (Some d) f = f d
  on_device None f = Ends ends.Done

  -- an order is refused, or does this
  abbrev pub order : Option OrderFault → Deed F P H R → Deed F P H R
  order (Some f) deed = Ends (ends.Refused f)
  order None deed = deed

  abbrev pub order_if_not : Bool → OrderFault → Deed F P H R → Deed F P H R
  order_if_not refused f deed = if refused then Ends (ends.Refused f) else deed

  -- Start

  abbrev pub start_by : Device F P H → ℕ → Option StartFault → Deed F P H R
  start_by d path (Some f) = Ends (ends.NotStarted f)
  start_by d path None = Becomes (start d path) (ends.Started (next_ordinal d path))

  abbrev pub starts : ℕ → Device F P H → Deed F P H R
  starts path d = if is_path_of d.history.running path then Ends ends.Running else start_by d path (start_fault d path)

  -- A repair waits while a track waits

  abbrev pub repair : Bool → Pool → Pool → Deed F P H R
  repair up pool repaired =
      order_if_not up Up (if all_waiting pool == 0 then Repairs repaired else Ends (ends.Pending (all_waiting pool)))

module _ {F P H R : Type 0} (c : Contents F P H R) where
  -- Step and background: an open half write goes first

  abbrev pub seconds : Device F P H → Deed F P H R
  seconds d = Asks d (ends_by ends.Second (second c d))

  abbrev pub step : Device F P H → Deed F P H R
  step d =
      if is_some d.store.half then seconds d
      else if is_some d.history.running then Asks d (may_end_by ends.Stepped (command c d))
      else Ends ends.Idle

  abbrev pub back : Device F P H → Deed F P H R
  back d = if is_some d.store.half then seconds d else Asks d (may_end_by ends.Back (background c d))

  -- The whole

  -- of a pool and devices in rising order of numbers
  unfoldable pub deed : Pool → List (Device F P H) → Event → Deed F P H R
  deed pool ds (events.Start path d) = on_device (device_in ds d) (starts path)
  deed pool ds (events.Step d) = on_device (device_in ds d) step
  deed pool ds (events.Back d) = on_device (device_in ds d) back
  deed pool ds (events.Reset path d) = on_device (device_in ds d) (λ x. Asks x (ends_by ends_done (reset c x path)))
  deed pool ds events.FailCache = order_if_not (not pool.cache_up) Down (Each (cache_failed pool) (λ x. lose c x losses.Cache))
  deed pool ds events.FailStore = order_if_not (not pool.store_up) Down (Each (store_failed pool) (λ x. lose c x losses.Store))
  deed pool ds (events.FailVolume d side) =
      on_device (device_in ds d) (λ x. order (fail_fault x side) (Asks x (ends_by ends_done (lose c x (losses.Side side)))))
  deed pool ds events.RepairCache = repair pool.cache_up pool (cache_repaired pool)
  deed pool ds events.RepairStore = repair pool.store_up pool (store_repaired pool)
  deed pool ds (events.Pair a b) =
      on_device (device_in ds a) (λ x. on_device (device_in ds b) (λ y. order (pair_fault x y) (Lends x y)))
  deed pool ds (events.Suspend a) = on_device (device_in ds a) (λ x. order (suspend_fault x) (Becomes (hold_side x) ends.Done))
  deed pool ds (events.Resume a) = on_device (device_in ds a) (λ x. order (resume_fault x) (Becomes (resume x) ends.Done))
  deed pool ds events.Power = Each (power_lost pool) (power c)
