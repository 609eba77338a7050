-- How many reads and writes each event of a run makes: those of the table of events, by what its device has before it.
use Rattle.std.specs.Prelude.{◌≡◌, ◌⊎◌, ℕ, Bool, true, false, Option, Some, None, is_some}
use Rattle.device_defs.specs.declared.answers.Did.{Did}
use Rattle.device_defs.specs.Marks.{MarksDevice}
use Rattle.device_defs.specs.Store.{tracks_of}
use Rattle.subsystem_defs.specs.declared.end.EventEnd.{EventEnd}
use Rattle.subsystem_defs.specs.declared.end.EventEnd.TheVariants as ends
use Rattle.subsystem_defs.specs.declared.event.Event.{Event}
use Rattle.subsystem_defs.specs.declared.event.Event.TheVariants as events
use Rattle.subsystem_defs.specs.Deeds.{device_in}
use Rattle.subsystem_defs.specs.Lines.{Asked, Once, Replace, Unpair, Run, Settle, Logged}
use Rattle.subsystem_defs.specs.Subsystem.{Subsystem, devices_of}
use Rattle.device_laws.specs.Moved.{sides_up, sides_writing, second_writing, NoTransfers, CommandTransfers, SecondTransfers, WorkTransfers}

abbrev pub did_of : EventEnd → Option Did
did_of (ends.Back did) = Some did
did_of _ = None

-- A step: the second part of an open half write, else a command of the program that runs

abbrev pub RunningTransfers : MarksDevice → Bool → ℕ → ℕ → Type 0
RunningTransfers d true reads writes = CommandTransfers (tracks_of d.store) (sides_up d.store) reads writes
RunningTransfers d false reads writes = NoTransfers reads writes

abbrev pub StepBy : MarksDevice → Bool → ℕ → ℕ → Type 0
StepBy d true reads writes = SecondTransfers (second_writing d.store) reads writes
StepBy d false reads writes = RunningTransfers d (is_some d.history.running) reads writes

abbrev pub StepTransfers : Option MarksDevice → ℕ → ℕ → Type 0
StepTransfers (Some d) reads writes = StepBy d (is_some d.store.half) reads writes
StepTransfers None reads writes = NoTransfers reads writes

-- Work in the background, by its end: an open half write goes first there, too

abbrev pub BackBy : MarksDevice → Bool → EventEnd → ℕ → ℕ → Type 0
BackBy d true end reads writes = SecondTransfers (second_writing d.store) reads writes
BackBy d false end reads writes = WorkTransfers (sides_up d.store) (sides_writing d.store) (did_of end) reads writes

abbrev pub BackTransfers : Option MarksDevice → EventEnd → ℕ → ℕ → Type 0
BackTransfers (Some d) end reads writes = BackBy d (is_some d.store.half) end reads writes
BackTransfers None end reads writes = NoTransfers reads writes

-- All other events make none

abbrev pub EventTransfers : Event → Subsystem → EventEnd → ℕ → ℕ → Type 0
EventTransfers (events.Step d) before end reads writes = StepTransfers (device_in (devices_of before) d) reads writes
EventTransfers (events.Back d) before end reads writes = BackTransfers (device_in (devices_of before) d) end reads writes
EventTransfers _ before end reads writes = NoTransfers reads writes

-- a program that runs to its end does so step by step; with nothing to do there is one event, which is idle
abbrev pub RunTransfers : Option MarksDevice → EventEnd → ℕ → ℕ → Type 0
RunTransfers d end reads writes = ((end ≡ ends.Idle) × NoTransfers reads writes) ⊎ StepTransfers d reads writes

abbrev pub AskedTransfers : Asked → Subsystem → EventEnd → ℕ → ℕ → Type 0
AskedTransfers (Once e) before end reads writes = EventTransfers e before end reads writes
AskedTransfers (Replace d side) before end reads writes = NoTransfers reads writes
AskedTransfers (Unpair a) before end reads writes = NoTransfers reads writes
AskedTransfers (Run d) before end reads writes = RunTransfers (device_in (devices_of before) d) end reads writes
AskedTransfers (Settle d) before end reads writes = BackTransfers (device_in (devices_of before) d) end reads writes

-- of an event of a run
abbrev pub MovesByTable : Logged → Type 0
MovesByTable x = AskedTransfers x.asked x.happened.before x.happened.end x.happened.reads x.happened.writes
