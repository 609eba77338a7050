-- What a call says of all devices of a subsystem at once.
use Rattle.std.specs.Prelude.{◌≡◌, ℕ, true, IfOk, Result}
use Rattle.track_image.specs.Image.{Image}
use Rattle.device_outside.specs.declared.volume.Volume.{Ghosts}
use Rattle.device_outside.specs.Keeper.{Hearing}
use Rattle.device_outside.specs.Lists.{is_in}
use Rattle.device_outside.specs.Outside.{where_ok}
use Rattle.device_defs.specs.Contents.{contents}
use Rattle.device_defs.specs.Peek.{peek}
use Rattle.device_store.specs.declared.store.Peeked.{Peeked}
use Rattle.device_store.specs.State.{had}
use Rattle.device_store.specs.Looks.{IsPeeked, peeked_by}
use Rattle.device_core.specs.State.{device_of}
use Rattle.subsystem_core.specs.declared.subsystem.Subsystem.{Subsystem}
use Rattle.subsystem_core.specs.Comes.{AskedKept, AskedWith, Changes}
use Rattle.subsystem_core.specs.Devices.{numbers_of}
use Rattle.subsystem_core.specs.Keepers.{spans_of}

module _ {V : Type 0} {G : Ghosts V} where
  -- a device has this number
  abbrev pub HasDevice : Subsystem V G → ℕ → Type 0
  HasDevice s d = is_in d (numbers_of s.devices.items) ≡ true

  -- the same devices stand there, in the same order
  abbrev pub HasSameDevices : Subsystem V G → Subsystem V G → Type 0
  HasSameDevices old new = numbers_of new.devices.items ≡ numbers_of old.devices.items

  -- and each is as large as it was
  abbrev pub HasSameSpans : Subsystem V G → Subsystem V G → Type 0
  HasSameSpans old new = spans_of new.devices.items ≡ spans_of old.devices.items

  -- a device looked at a track past the channel, and found this; nothing of another device changed
  abbrev pub LooksAt : {K E : Type 0} → Hearing Image K → ℕ → ℕ → Result Peeked E → Subsystem V G → K → Subsystem V G → K → Type 0
  LooksAt hears d t result old before new behind =
      Changes d
      (λ x y. IfOk result (IsPeeked (device_of y).store t) × AskedKept hears (where_ok result) (peek contents (device_of x) t)
      (had (peeked_by (device_of y).store t) result) old.pool before x y new.pool behind) old.devices.items new.devices.items

  -- the same with a keeper that keeps nothing
  abbrev pub LooksAlone : {E : Type 0} → ℕ → ℕ → Result Peeked E → Subsystem V G → Subsystem V G → Type 0
  LooksAlone d t result old new =
      Changes d
      (λ x y. IfOk result (IsPeeked (device_of y).store t) × AskedWith (where_ok result) (peek contents (device_of x) t)
      (had (peeked_by (device_of y).store t) result) old.pool x y new.pool) old.devices.items new.devices.items
