-- What is told of the acts of cache fast write that an event brought, by what the device in code notes of them.
use Rattle.std.specs.Prelude.{ℕ, ◌==◌, ◌&&◌, not, Bool, true, false, List, [], ◌∷◌, ◌++◌, map, if◌then◌else◌}
use Rattle.plain_defs.specs.declared.journal.Act.{Act}
use Rattle.plain_defs.specs.declared.journal.Act.TheVariants.{Loosen, Harden, CfwLost}
use Rattle.device_core.specs.State.{DefinedDevice}
use Rattle.report_text.specs.declared.answers.LooseAnswer.TheVariants as loose
use Rattle.report_text.specs.declared.event.Loosed.{Loosed}
use Rattle.run_report.specs.Beside.{id_of}
use Rattle.subsystem_defs.specs.declared.end.EventEnd.{EventEnd}
use Rattle.subsystem_defs.specs.declared.end.EventEnd.TheVariants as ends
use Rattle.subsystem_defs.specs.declared.event.Event.{Event}
use Rattle.subsystem_defs.specs.declared.event.Event.TheVariants as events

-- a reset notes no act, and neither does a repair, or an order to hold a side or to go on; a loss of power takes data of cache fast write by itself
abbrev pub is_quiet : Event → Bool
is_quiet (events.Reset path d) = true
is_quiet events.RepairCache = true
is_quiet events.RepairStore = true
is_quiet (events.Suspend d) = true
is_quiet (events.Resume d) = true
is_quiet events.Power = true
is_quiet _ = false

abbrev pub acts_when : Bool → EventEnd → DefinedDevice → List Act
acts_when quiet (ends.Stepped s) d = d.store.acts
acts_when quiet (ends.Second s) d = d.store.acts
acts_when quiet (ends.Back did) d = d.store.acts
acts_when quiet ends.Done d = if quiet then [] else d.store.acts
acts_when quiet _ d = []

-- the acts that came with an event which ended so: those that were noted in a step, in the background, or in a loss
abbrev pub acts_by : Event → EventEnd → DefinedDevice → List Act
acts_by e end d = acts_when (is_quiet e) end d

-- where so many tracks were loose before, and this is the number of the data behind
abbrev pub loosed_by : ℕ → ℕ → ℕ → Act → Loosed
loosed_by d count number (Loosen t) = record { device = d; answer = loose.Loosen t }
loosed_by d count number (Harden t) = record { device = d; answer = loose.Harden t }
loosed_by d count number CfwLost = record { device = d; answer = loose.Lost count (id_of number) }

-- a loss of power takes what was loose
abbrev pub power_by : ℕ → ℕ → ℕ → Bool → List Loosed
power_by d count number lost = if lost && not (count == 0) then loosed_by d count number CfwLost ∷ [] else []

abbrev pub all_loosed : ℕ → ℕ → ℕ → List Act → Bool → List Loosed
all_loosed d count number acts lost = map (loosed_by d count number) acts ++ power_by d count number lost
