-- What an order of the operator leaves of a device in its turn.
use Rattle.std.specs.Prelude.{◌≡◌, ◌*◌, ℕ, true, List, Some, None, is_some}
use Rattle.ckd_types.specs.declared.record.Track.{Track}
use Rattle.device_outside.specs.declared.volume.Volume.{Ghosts}
use Rattle.device_outside.specs.Volume.{VolumeView}
use Rattle.device_defs.specs.declared.counts.Losses.{Losses}
use Rattle.device_defs.specs.Events.{one_loss_more}
use Rattle.device_defs.specs.Pledge.{Pledge, seat_counts}
use Rattle.loss_model.specs.declared.Loss.{Loss}
use Rattle.loss_model.specs.declared.Loss.TheVariants as losses
use Rattle.subsystem_defs.specs.Refusals.{fail_fault}
use Rattle.device_core.specs.declared.device.Device.{Device}
use Rattle.device_core.specs.State.{device_of}
use Rattle.device_defs.specs.Store.{tracks_of}
use Rattle.path_workers.specs.Keeping.{IsWithin, KeepsPledge}
use Rattle.path_workers.specs.Planned.{as_planned}
use Rattle.path_workers.specs.declared.device_orders.DeviceOrder.{DeviceOrder}
use Rattle.path_workers.specs.declared.device_orders.DeviceOrder.TheVariants.{Replace}
use Rattle.path_workers.specs.Spare.{TellsTracks}

-- so many losses were pledged
abbrev pub HaveLosses : Losses → Pledge → Type 0
HaveLosses most p = p.losses ≡ most

-- what a volume tells is what was pledged
pub record IsPledged (p : Pledge) (v : VolumeView (List ℕ)) : Type 0 where
  pub tells : p.told ≡ true → TellsTracks v.contents (p.cylinders * 15)
  pub sure : is_some p.failures ≡ true → (as_planned v).allowance ≡ Some 0

-- a volume that comes tells what was pledged, as it is seen
abbrev pub Suits : {V : Type 0} → (V → VolumeView (List ℕ)) → DeviceOrder V → Pledge → Type 0
Suits view (Replace side volume) p = IsPledged p (view volume)
Suits view _ p = Unit {0}

module _ {V : Type 0} {G : Ghosts V} where
  -- a side can be lost where there is one that is up
  abbrev pub CanLose : Loss → Device V G → Type 0
  CanLose (losses.Side side) d = fail_fault (device_of d) side ≡ None
  CanLose _ d = Unit {0}

  -- and with one loss more of this kind a device that isn't lent has no more losses than it may have
  abbrev pub MayLose : Loss → Losses → Device V G → Type 0
  MayLose loss most d = CanLose loss d × ((device_of d).store.lent ≡ None → IsWithin (one_loss_more (device_of d).store.counts.losses loss) most)

  -- a volume that comes to the device has as many tracks
  abbrev pub HasSize : DeviceOrder V → Device V G → Type 0
  HasSize (Replace side volume) d = (G.view volume).tracks ≡ tracks_of (device_of d).store
  HasSize _ d = Unit {0}

  -- what was pledged of a device is kept, and no seat's count changes
  pub record IsOrdered (pledged : Pledge → Type 0) (d e : Device V G) : Type 0 where
    pub kept : (first : ℕ → List Track) (p : Pledge) → pledged p → KeepsPledge first p d → KeepsPledge first p e
    pub counts : seat_counts (device_of e) ≡ seat_counts (device_of d)
