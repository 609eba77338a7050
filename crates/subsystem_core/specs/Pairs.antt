-- What the parts of an order do that makes a pair or takes it apart.
use Rattle.std.specs.Prelude.{◌≡◌, ◌<◌, ℕ, true, false, List, length, slice_get, Option, Some, None, option_map}
use Rattle.track_image.specs.Image.{Image}
use Rattle.device_outside.specs.declared.volume.Volume.{Ghosts}
use Rattle.device_outside.specs.Keeper.{Hearing}
use Rattle.device_outside.specs.Outside.{Ran}
use Rattle.frame_pool.specs.Shared.{Shared, shared_view}
use Rattle.device_defs.specs.Contents.{contents}
use Rattle.device_defs.specs.Orders.{join, lend}
use Rattle.device_store.specs.State.{surely}
use Rattle.device_core.specs.declared.device.Device.{Device}
use Rattle.device_core.specs.State.{device_of, around, volume_a, volume_b}
use Rattle.device_defs.specs.Store.{tracks_of}
use Rattle.subsystem_defs.specs.declared.end.OrderFault.{OrderFault}
use Rattle.subsystem_defs.specs.Happening.{is_lent_to}
use Rattle.subsystem_defs.specs.Refusals.{pair_fault}

module _ {V : Type 0} {G : Ghosts V} where
  -- both are there, and that is why they can't be a pair
  abbrev pub HasPairFault : Option (Device V G) → Option (Device V G) → Option OrderFault → Type 0
  HasPairFault (Some x) (Some y) fault = pair_fault (device_of x) (device_of y) ≡ fault
  HasPairFault (Some x) None fault = ⊥
  HasPairFault None y fault = ⊥

  -- its volume has left for the pair of another device, whatever hears of it
  pub record IsLent {K : Type 0} (hears : Hearing Image K) (to : ℕ) (volume : Option V) (pool new : Shared) (before behind : Device V G) : Type 0 where
    pub asked : (k : K) → Ran surely hears (lend contents (device_of before) to) (around (shared_view pool) before k) (device_of behind) tt
        (record (around (shared_view new) behind k) { a = option_map G.view volume })
    pub number : (device_of behind).store.device ≡ (device_of before).store.device
    pub gone : volume_a behind ≡ None
    pub volume_is : volume ≡ volume_a before

  -- this volume is its side B
  pub record IsJoined (volume : V) (before behind : Device V G) : Type 0 where
    pub device : device_of behind ≡ join (device_of before)
    pub a : volume_a behind ≡ volume_a before
    pub b : volume_b behind ≡ Some volume

  -- the device is there, and the volume has as many tracks
  abbrev pub IsOfSize : V → Option (Device V G) → Type 0
  IsOfSize volume (Some x) = (G.view volume).tracks ≡ tracks_of (device_of x).store
  IsOfSize volume None = ⊥

  -- the one at that place is lent to this device
  pub record IsLentAt (n : ℕ) (ds : List (Device V G)) (i : ℕ) : Type 0 where
    pub device : Device V G
    pub stands : slice_get ds i ≡ Some device
    pub lent : is_lent_to (device_of device).store.lent n ≡ true

  -- none before that place is
  abbrev pub AreElsewhere : ℕ → List (Device V G) → ℕ → Type 0
  AreElsewhere n ds i = (j : ℕ) (x : Device V G) → j < i → slice_get ds j ≡ Some x → is_lent_to (device_of x).store.lent n ≡ false

  -- the place of the first one that is
  abbrev pub IsFirstLent : ℕ → List (Device V G) → Option ℕ → Type 0
  IsFirstLent n ds (Some i) = IsLentAt n ds i × AreElsewhere n ds i
  IsFirstLent n ds None = AreElsewhere n ds (length ds)
