-- How an event ended, of whichever devices it is; and a volume that is new.
use Rattle.std.specs.Prelude.{ℕ, ◌*◌, List, Option, Some, None, IfSome}
use Rattle.device_outside.specs.declared.volume.Volume.{Ghosts}
use Rattle.device_outside.specs.Both.{SideIs}
use Rattle.device_outside.specs.Disk.{empty_contents}
use Rattle.device_outside.specs.Volume.{VolumeView}
use Rattle.device_core.specs.declared.device.Device.{Device}
use Rattle.device_core.specs.State.{device_of}
use Rattle.device_defs.specs.Store.{tracks_of}
use Rattle.subsystem_core.specs.declared.end.EventEnd.{EventEnd}
use Rattle.subsystem_core.specs.declared.subsystem.Subsystem.{Subsystem}
use Rattle.subsystem_core.specs.Ends.{Answers}
use Rattle.subsystem_defs.specs.declared.end.EventEnd as defs
use Rattle.subsystem_defs.specs.declared.event.Event.{Event}
use Rattle.subsystem_defs.specs.declared.event.Event.TheVariants as events
use Rattle.subsystem_defs.specs.Subsystem.{unfailing}
use Rattle.deck_run.specs.Seen.{SeesEnd}

-- the device of an event that is one device's
abbrev pub device_named : Event → Option ℕ
device_named (events.Start path d) = Some d
device_named (events.Step d) = Some d
device_named (events.Back d) = Some d
device_named (events.Reset path d) = Some d
device_named (events.FailVolume d side) = Some d
device_named (events.Suspend d) = Some d
device_named (events.Resume d) = Some d
device_named _ = None

module _ {V : Type 0} {G : Ghosts V} where
  -- the end of a command stands in the journal of the event's device; other ends tell themselves
  abbrev pub EndsBy : Option ℕ → Subsystem V G → EventEnd → defs.EventEnd → Type 0
  EndsBy (Some d) s a end = SeesEnd s d a end
  EndsBy None s a end = Answers (Some a) end

  abbrev pub EndsAs : Event → Subsystem V G → EventEnd → defs.EventEnd → Type 0
  EndsAs e s a end = EndsBy (device_named e) s a end

  -- a volume for that device whose tracks are empty, and of which no call fails
  abbrev pub IsNewFor : VolumeView (List ℕ) → Option (Device V G) → Type 0
  IsNewFor v o = IfSome o (λ x. SideIs v (empty_contents (tracks_of (device_of x).store)) unfailing)
