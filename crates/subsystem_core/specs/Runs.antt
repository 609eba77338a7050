-- Events one after another.
use Rattle.std.specs.Prelude.{List, [], ◌∷◌, Some, None}
use Rattle.device_outside.specs.declared.volume.Volume.{Ghosts}
use Rattle.subsystem_defs.specs.declared.event.Event.{Event}
use Rattle.subsystem_core.specs.declared.end.EventEnd.{EventEnd}
use Rattle.subsystem_core.specs.declared.subsystem.Subsystem.{Subsystem}
use Rattle.subsystem_core.specs.Comes.{Came}

module _ {V : Type 0} {G : Ghosts V} where
  -- each with its end
  pub data Runs : List Event → Subsystem V G → List EventEnd → Subsystem V G → Type 0 where
    over : {s : Subsystem V G} → Runs [] s [] s
    next : {e : Event} {es : List Event} {end : EventEnd} {ends : List EventEnd} {old s new : Subsystem V G} → Came e old (Some end) s →
        Runs es s ends new → Runs (e ∷ es) old (end ∷ ends) new

  -- memory was lacking before an event, or in it
  pub data Stops : List Event → Subsystem V G → Subsystem V G → Type 0 where
    before : {es : List Event} {s : Subsystem V G} → Stops es s s
    lacked : {e : Event} {es : List Event} {old new : Subsystem V G} → Came e old None new → Stops (e ∷ es) old new
    behind : {e : Event} {es : List Event} (end : EventEnd) {old s new : Subsystem V G} → Came e old (Some end) s →
        Stops es s new → Stops (e ∷ es) old new
