-- What an event came to.
use Rattle.std.specs.Prelude.{◌≡◌, ℕ, Bool, List}
use Rattle.track_image.specs.Image.{Image}
use Rattle.device_outside.specs.declared.keep.NoKeep.{NoKeep}
use Rattle.device_outside.specs.declared.volume.Volume.{Ghosts}
use Rattle.device_outside.specs.Interaction.{Interaction}
use Rattle.device_outside.specs.Keeper.{reply}
use Rattle.device_outside.specs.Outside.{PortView, Ran}
use Rattle.device_core.specs.declared.device.Device.{Device}
use Rattle.device_core.specs.State.{DefinedDevice, device_of, around}

-- the device d came to e by this event, as its volumes told, and the port, before and behind it; and a keeper that keeps nothing
abbrev pub Comes : {V : Type 0} {G : Ghosts V} → (Bool → Type 0) → Interaction (List ℕ) Image DefinedDevice (Unit {0}) →
    PortView → Device V G → PortView → Device V G → Type 0
Comes had event old d new e =
    (k : NoKeep) → Ran had (λ _ m r _. r ≡ reply m) event (around old d k) (device_of e) tt (around new e k)
