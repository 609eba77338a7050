-- What a step's command chooses for its write. Behind a fast or a provisional one no program ends with equipment check, whichever sides are up.
use Rattle.std.specs.Prelude.{◌≡◌, ℕ, Bool, true, false, Option, Some, None, is_some, if◌then◌else◌}
use Rattle.device_outside.specs.Pool.{Pool}
use Rattle.device_defs.specs.declared.answers.Choice.{Choice}
use Rattle.device_defs.specs.Marks.{MarksDevice}
use Rattle.subsystem_defs.specs.declared.event.Event.TheVariants as events
use Rattle.subsystem_defs.specs.Happening.{told_to}
use Rattle.subsystem_defs.specs.Lines.{Logged}
use Rattle.subsystem_defs.specs.Subsystem.{Mounted, Subsystem, devices_of, mounted_in}
use Rattle.device_laws.specs.Seen.{is_in_cache}
use Rattle.subsystem_laws.specs.Causes.{checks_of, EachPair}
use Rattle.promise_laws.specs.Origins.{event_of}
use Rattle.move_laws.specs.Exactly.{WritePoint, chosen_at, command_walk}

-- nothing where no write is come to
abbrev pub choice_at : Option WritePoint → Option Choice
choice_at (Some p) = Some (chosen_at p)
choice_at None = None

-- the second part of an open half write chooses nothing
abbrev pub chosen_by : Pool → Option Mounted → Option Choice
chosen_by pool (Some m) =
    if is_some m.device.store.half then None
    else choice_at (command_walk m.device (told_to pool m) m.device.history.running m.device.chain).write
chosen_by pool None = None

-- in a step of the device of this number
abbrev pub chosen_in : Subsystem → ℕ → Option Choice
chosen_in s n = chosen_by s.pool (mounted_in s.mounted n)

-- a fast or a provisional write
abbrev pub writes_in_cache : Option Choice → Bool
writes_in_cache (Some choice) = is_in_cache choice
writes_in_cache None = false

-- as many of its programs ended with equipment check as before
abbrev pub AddsNoCheck : MarksDevice → MarksDevice → Type 0
AddsNoCheck x y = checks_of y ≡ checks_of x

-- of each device, where this event is a step whose command chose so
pub record EndsFastWrites (x : Logged) : Type 0 where
  pub unchecked : (n : ℕ) → event_of x.asked ≡ Some (events.Step n) → writes_in_cache (chosen_in x.happened.before n) ≡ true →
      EachPair AddsNoCheck (devices_of x.happened.before) (devices_of x.happened.behind)
