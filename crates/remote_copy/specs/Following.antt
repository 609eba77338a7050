-- What every call leaves of the sender of a mirror.
use Rattle.std.specs.Prelude.{◌≡◌, ◌≤◌, ◌*◌, ℕ, Bool, true, false, nat_lt}
use Rattle.ckd_outside.specs.Causes.{Rose}
use Rattle.device_outside.specs.declared.volume.Volume.{Ghosts}
use Rattle.device_core.specs.declared.device.Device.{Device}
use Rattle.device_core.specs.State.{device_of}
use Rattle.device_defs.specs.Store.{tracks_of}
use Rattle.remote_copy.specs.declared.state.MirrorState.{MirrorState}
use Rattle.remote_copy.specs.declared.state.MirrorState.TheVariants.{Level, Suspended, Copying}
use Rattle.remote_copy.specs.Linking.{LinkView}
use Rattle.remote_copy.specs.Sending.{SenderView, is_suspended}

-- the far volume has the tracks of this device
abbrev pub IsFarFor : {V : Type 0} {G : Ghosts V} → LinkView → Device V G → Type 0
IsFarFor v x = (v.geometry ≡ (device_of x).store.geometry) × (v.tracks ≡ tracks_of (device_of x).store)

-- the next track to be copied is one of so many
abbrev pub is_within : MirrorState → ℕ → Bool
is_within Level tracks = true
is_within (Suspended sent) tracks = true
is_within (Copying below) tracks = nat_lt below tracks

-- its device, and the size of its far volume. It gets suspended only where the link's count of faults rose
pub record Follows (old new : SenderView) : Type 0 where
  pub device : new.device ≡ old.device
  pub geometry : new.link.geometry ≡ old.link.geometry
  pub tracks : new.link.tracks ≡ old.link.tracks
  pub later : old.link.faults ≤ new.link.faults
  pub cause : is_suspended new.state ≡ true → is_suspended old.state ≡ false → Rose old.link.faults new.link.faults
