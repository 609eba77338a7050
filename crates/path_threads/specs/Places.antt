-- Devices in their turns.
use Rattle.std.specs.Prelude.{◌≡◌, ℕ, ◌==◌, ◌-◌, Bool, List, [], ◌∷◌, ◌++◌, All, IfSome, Option, None, Some, if◌then◌else◌, map, nat_lt, slice_index_or}
use Rattle.std.specs.List.{AllZip}
use Rattle.device_outside.specs.declared.volume.Volume.{Ghosts}
use Rattle.device_defs.specs.declared.counts.Losses.{Losses}
use Rattle.device_turn.specs.declared.holder.Holder as holders
use Rattle.device_turn.specs.declared.seat.TurnSeat.{TurnSeat}
use Rattle.subsystem_core.specs.Devices.{device_at}
use Rattle.device_core.specs.declared.device.Device.{Device}
use Rattle.device_core.specs.State.{device_of}
use Rattle.device_defs.specs.Start.{left}
use Rattle.loss_model.specs.declared.Loss.{Loss}
use Rattle.loss_model.specs.declared.Loss.TheVariants.{Cache, Store}
use Rattle.path_workers.specs.declared.device_orders.DeviceOrder.{DeviceOrder}
use Rattle.path_workers.specs.declared.device_orders.DeviceOrder.TheVariants as orders
use Rattle.path_workers.specs.Ordered.{MayLose}
use Rattle.path_workers.specs.Spare.{IsSpare}
use Rattle.path_threads.specs.declared.orders.Order.{Order}
use Rattle.path_threads.specs.declared.orders.Order.TheVariants.{Event, Replace}
use Rattle.path_threads.specs.declared.shared.PoolOrder.{PoolOrder}
use Rattle.path_threads.specs.declared.shared.PoolOrder.TheVariants.{FailCache, FailStore, RepairCache, RepairStore}
use Rattle.path_workers.specs.declared.promise.Promise.{Promise}
use Rattle.path_workers.specs.Keeping.{IsReady, KeepsWithin}
use Rattle.path_threads.specs.declared.places.Place.{Place}
use Rattle.path_threads.specs.Allowed.{allowed_of}

-- what an order of all devices lets each of them lose
abbrev pub loss_by : PoolOrder → Option Loss
loss_by FailCache = Some Cache
loss_by FailStore = Some Store
loss_by RepairCache = None
loss_by RepairStore = None

-- a program of this path waits at the place
abbrev pub waits_for : Place → ℕ → Bool
waits_for place path = nat_lt 0 (slice_index_or place.left (path - 1) 0)

module _ {V : Type 0} {G : Ghosts V} where
  -- how many planned programs of each path weren't started
  abbrev pub waiting_of : Device V G → List ℕ
  waiting_of d = map (left (device_of d)) (1 ∷ 2 ∷ 3 ∷ 4 ∷ [])

  -- the place of a device has its number, and how many programs wait there
  abbrev pub IsPlaceOf : Device V G → Place → Type 0
  IsPlaceOf d place = (place.number ≡ (device_of d).store.device) × (place.left ≡ waiting_of d)

  -- the first of these devices have these places
  pub record HavePlaces (devices : List (Device V G)) (places : List Place) (rest : List (Device V G)) : Type 0 where
    pub come : List (Device V G)
    pub all : devices ≡ come ++ rest
    pub placed : AllZip IsPlaceOf come places

  -- the device may have what an order of all does to it
  abbrev pub MayHave : PoolOrder → Place → Device V G → Type 0
  MayHave order place d = IfSome (loss_by order) (λ (loss : Loss). MayLose loss place.most d)

  -- the device behind the orders keeps what was pledged before, with the losses that they allow
  abbrev pub KeepsOrdered : {M : Type 0} → List (Order M) → Device V G → Device V G → Type 0
  KeepsOrdered es d e = KeepsWithin (allowed_of es d) d e

  -- each volume that may be made for an order may come to the device that it names, where there is such a device
  abbrev pub IsSpareAmong : {M : Type 0} → (M → V → Type 0) → List (Device V G) → Order M → Type 0
  IsSpareAmong makes devices (Event e) = Unit {0}
  IsSpareAmong makes devices (Replace n side maker) =
      IfSome (device_at devices n) (λ (d : Device V G). (volume : V) → makes maker volume → IsSpare d volume)

module _ {V : Type 0} {G : Ghosts V} {N : holders.Ghosts (Device V G) (Promise V G)} where
  -- the seat knows that so many losses may come to the device of this number
  pub record Allows (place : Place) (s : TurnSeat (Device V G) (Promise V G) N) : Type 0 where
    pub promise : Promise V G
    pub pledge : s.seat.me.0.pledge ≡ Some promise
    pub most : promise.most ≡ place.most
    pub number : (device_of promise.made.value).store.device ≡ place.number

  -- the seat of the device of this number
  abbrev pub seat_at : List Place → List (TurnSeat (Device V G) (Promise V G) N) → ℕ → Option (TurnSeat (Device V G) (Promise V G) N)
  seat_at [] seats n = None
  seat_at (p ∷ ps) [] n = None
  seat_at (p ∷ ps) (s ∷ ss) n = if p.number == n then Some s else seat_at ps ss n

  -- an order may be done at the device that was promised to the seat
  abbrev pub SuitsSeat : DeviceOrder V → TurnSeat (Device V G) (Promise V G) N → Type 0
  SuitsSeat (orders.Replace side volume) s = (p : Promise V G) → s.seat.me.0.pledge ≡ Some p → IsSpare p.made.value volume
  SuitsSeat _ s = Unit {0}

  -- at the device of this number, where there is one
  abbrev pub SuitsAt : List Place → List (TurnSeat (Device V G) (Promise V G) N) → ℕ → DeviceOrder V → Type 0
  SuitsAt places seats n order = IfSome (seat_at places seats n) (SuitsSeat order)

  abbrev pub IsSpareAt : {M : Type 0} → (M → V → Type 0) → List Place → List (TurnSeat (Device V G) (Promise V G) N) → Order M → Type 0
  IsSpareAt makes places seats (Event e) = Unit {0}
  IsSpareAt makes places seats (Replace n side maker) = (volume : V) → makes maker volume → SuitsAt places seats n (orders.Replace side volume)

  -- the seat knows what was promised: the device as it was, and so many losses
  pub record IsPromised (most : Losses) (d : Device V G) (s : TurnSeat (Device V G) (Promise V G) N) : Type 0 where
    pub promise : Promise V G
    pub pledge : s.seat.me.0.pledge ≡ Some promise
    pub made : promise.made.value ≡ d
    pub allows : promise.most ≡ most

  abbrev pub IsPromisedFor : {M : Type 0} → List (Order M) → Device V G → TurnSeat (Device V G) (Promise V G) N → Type 0
  IsPromisedFor es d s = IsPromised (allowed_of es d) d s

  -- the first of these devices stand in turns with these seats, and the rest are ready for theirs
  pub record HaveCome {M : Type 0} (es : List (Order M)) (devices : List (Device V G)) (seats : List (TurnSeat (Device V G) (Promise V G) N)) (rest : List (Device V G)) :
      Type 0 where
    pub come : List (Device V G)
    pub all : devices ≡ come ++ rest
    pub promised : AllZip (IsPromisedFor es) come seats
    pub ready : All IsReady rest

  -- devices that left their turns keep what was promised of them, where each may have so many losses
  abbrev pub KeepPromises : (Device V G → Losses) → List (TurnSeat (Device V G) (Promise V G) N) → List (Device V G) → Type 0
  KeepPromises most seats behind =
      (before : List (Device V G)) → AllZip (λ d s. IsPromised (most d) d s) before seats → AllZip (λ d e. KeepsWithin (most d) d e) before behind

  -- the last of these seats have no turn any more, and these are their devices
  pub record HaveLeft (most : Device V G → Losses) (seats rest : List (TurnSeat (Device V G) (Promise V G) N)) (behind : List (Device V G)) : Type 0 where
    pub left : List (TurnSeat (Device V G) (Promise V G) N)
    pub all : seats ≡ rest ++ left
    pub kept : KeepPromises most left behind
