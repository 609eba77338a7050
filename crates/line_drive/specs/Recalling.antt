-- What an event keeps to by its types.
use Rattle.std.specs.Prelude.{◌≤◌}
use Rattle.subsystem_defs.specs.declared.event.Event.{Event}
use Rattle.subsystem_defs.specs.declared.event.Event.TheVariants as events

-- the path of a start is 1 to 4
abbrev pub IsPathIn : Event → Type 0
IsPathIn (events.Start path d) = (1 ≤ path) × (path ≤ 4)
IsPathIn _ = Unit {0}
