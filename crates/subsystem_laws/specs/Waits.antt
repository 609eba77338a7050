-- How many tracks wait for recovery on all devices, and what a repair answers by it.
use Rattle.std.specs.Prelude.{◌≡◌, ◌<◌, ◌+◌, ◌==◌, ℕ, Bool, false, List, [], ◌∷◌, ⊤, if◌then◌else◌}
use Rattle.deck_text.specs.declared.line.DeviceLine.{DeviceLine}
use Rattle.device_outside.specs.Lists.{is_in}
use Rattle.device_outside.specs.Pool.{all_waiting}
use Rattle.device_defs.specs.Contents.{by_plain}
use Rattle.device_defs.specs.Marks.{MarksDevice}
use Rattle.device_defs.specs.Owed.{waiting_count}
use Rattle.subsystem_defs.specs.declared.end.EventEnd.{EventEnd}
use Rattle.subsystem_defs.specs.declared.end.EventEnd.TheVariants as ends
use Rattle.subsystem_defs.specs.declared.end.OrderFault.TheVariants.{Up}
use Rattle.subsystem_defs.specs.declared.event.Event.TheVariants as events
use Rattle.subsystem_defs.specs.Happening.{EventHappened}
use Rattle.subsystem_defs.specs.Lines.{Asked, Once, Logged}
use Rattle.subsystem_defs.specs.Subsystem.{Subsystem, devices_of}

abbrev pub waiting_of : MarksDevice → ℕ
waiting_of d = waiting_count by_plain d.store

abbrev pub waiting_in : List MarksDevice → ℕ
waiting_in [] = 0
waiting_in (d ∷ ds) = waiting_of d + waiting_in ds

-- the pool was told how many tracks wait on all devices
abbrev pub HasToldWaiting : Subsystem → Type 0
HasToldWaiting s = all_waiting s.pool ≡ waiting_in (devices_of s)

-- what is up isn't repaired; else it is done exactly where no track of any device waits, and pending with the number of those that do
abbrev pub repair_end : Bool → ℕ → EventEnd
repair_end up n = if up then ends.Refused Up else if n == 0 then ends.Done else ends.Pending n

abbrev pub RepairsBy : Asked → EventHappened → Type 0
RepairsBy (Once events.RepairCache) h = h.end ≡ repair_end h.before.pool.cache_up (waiting_in (devices_of h.before))
RepairsBy (Once events.RepairStore) h = h.end ≡ repair_end h.before.pool.store_up (waiting_in (devices_of h.before))
RepairsBy _ h = ⊤

-- of an event
pub record TellsWaiting (x : Logged) : Type 0 where
  pub behind : HasToldWaiting x.happened.behind
  pub repairs : RepairsBy x.asked x.happened

-- each device has a number of its own below 16, as in every deck that was read
abbrev pub AreNumbered : List ℕ → List DeviceLine → Type 0
AreNumbered seen [] = ⊤
AreNumbered seen (d ∷ ds) = (is_in d.number seen ≡ false) × (d.number < 16) × AreNumbered (d.number ∷ seen) ds
