-- What a look at a track gives in a run, past the channel.
use Rattle.std.specs.Prelude.{ℕ, Option, Some, None}
use Rattle.device_outside.specs.Told.{RunOutcome}
use Rattle.device_defs.specs.Contents.{by_plain}
use Rattle.device_defs.specs.Marks.{MarksDevice}
use Rattle.device_defs.specs.Peek.{Peeked, Lost, peek}
use Rattle.subsystem_defs.specs.Happening.{held_with, behind_outcome}
use Rattle.subsystem_defs.specs.Subsystem.{Mounted, Subsystem, mounted_in}

-- what was found, the reads that the look made, and the subsystem behind it
pub record Looked : Type 0 where
  pub found : Peeked
  pub reads : ℕ
  pub behind : Subsystem

-- memory is had, so the other answer never comes
abbrev pub told_found : Option Peeked → Peeked
told_found (Some found) = found
told_found None = Lost

abbrev pub with_look : Subsystem → ℕ → RunOutcome MarksDevice (Option Peeked) → Looked
with_look s n o = record { found = told_found o.answer; reads = o.told.reads; behind = behind_outcome s n o }

-- nothing is found of a device that isn't there
abbrev pub looked_at : Subsystem → ℕ → ℕ → Option Mounted → Looked
looked_at s n t (Some m) = with_look s n (held_with s.pool m (peek by_plain m.device t))
looked_at s n t None = record { found = Lost; reads = 0; behind = s }

-- at a track of the device of this number
unfoldable pub looked : Subsystem → ℕ → ℕ → Looked
looked s n t = looked_at s n t (mounted_in s.mounted n)
