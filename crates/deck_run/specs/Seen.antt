-- What the end of an event of one device tells, by how the subsystem says that it ended: the end of a command stands in the device's journal.
use Rattle.std.specs.Prelude.{◌≡◌, ℕ, Bool, true, false, List, [], Option, Some, IfSome, IsSome, if◌then◌else◌}
use Rattle.plain_defs.specs.declared.journal.Act.{Act}
use Rattle.device_outside.specs.declared.volume.Volume.{Ghosts}
use Rattle.device_core.specs.declared.history.Stepped.{Stepped}
use Rattle.device_core.specs.declared.history.Stepped.TheVariants as steps
use Rattle.device_core.specs.declared.second.SecondStep.{SecondStep}
use Rattle.device_core.specs.declared.second.SecondStep.TheVariants as parts
use Rattle.device_core.specs.State.{DefinedDevice, last_end}
use Rattle.report_text.specs.declared.answers.BackAnswer.{BackAnswer}
use Rattle.report_text.specs.declared.answers.BackAnswer.TheVariants as back
use Rattle.report_text.specs.declared.event.Happened.{Happened}
use Rattle.report_text.specs.declared.event.Happened.TheVariants as did
use Rattle.report_text.specs.declared.line.ReportLine.{ReportLine}
use Rattle.report_text.specs.declared.line.ReportLine.TheVariants as lines
use Rattle.run_report.specs.declared.told.RunningProgram.{RunningProgram}
use Rattle.run_report.specs.Answers.{back_answer}
use Rattle.run_report.specs.Events.{half_told}
use Rattle.subsystem_core.specs.declared.end.EventEnd.{EventEnd}
use Rattle.subsystem_core.specs.declared.end.EventEnd.TheVariants as ends
use Rattle.subsystem_core.specs.declared.subsystem.Subsystem.{Subsystem}
use Rattle.subsystem_core.specs.Devices.{device_at}
use Rattle.subsystem_core.specs.Ends.{end_seen}
use Rattle.subsystem_defs.specs.declared.end.EventEnd as defs
use Rattle.subsystem_defs.specs.declared.end.EventEnd.TheVariants as answers
use Rattle.subsystem_defs.specs.Lines.{stops}
use Rattle.deck_run.specs.declared.work.Asker.{Asker}
use Rattle.deck_run.specs.declared.work.Asker.TheVariants as askers

module _ {V : Type 0} {G : Ghosts V} where
  -- behind the event the device of this number shows how it ended
  abbrev pub ShowsEnd : Subsystem V G → ℕ → EventEnd → Type 0
  ShowsEnd s d a = IfSome (device_at s.devices.items d) (λ y. IsSome (end_seen (last_end y) a))

  -- and it ended so
  abbrev pub SeesEnd : Subsystem V G → ℕ → EventEnd → defs.EventEnd → Type 0
  SeesEnd s d a end = IfSome (device_at s.devices.items d) (λ y. end_seen (last_end y) a ≡ Some end)

-- the acts that came with it, of those that the device notes
abbrev pub acts_seen : Bool → EventEnd → DefinedDevice → List Act
acts_seen quiet (ends.Stepped s) d = d.store.acts
acts_seen quiet (ends.Second s) d = d.store.acts
acts_seen quiet (ends.Back x) d = d.store.acts
acts_seen quiet ends.Done d = if quiet then [] else d.store.acts
acts_seen quiet _ d = []

-- of a start, and of an order: where neither is refused, and none waits, it is done
abbrev pub start_end : EventEnd → defs.EventEnd
start_end (ends.Started n) = answers.Started n
start_end (ends.NotStarted fault) = answers.NotStarted fault
start_end _ = answers.Running

-- whether nothing more is done by itself
abbrev pub settles : EventEnd → Bool
settles (ends.Back x) = stops x
settles _ = false

-- whether a command ended
abbrev pub step_ended : Stepped → Bool
step_ended steps.Ended = true
step_ended (steps.Half t) = false

abbrev pub second_ended : SecondStep → Bool
second_ended parts.Ended = true
second_ended (parts.Finished t) = false
second_ended (parts.Unwritten t) = false

abbrev pub is_ended : EventEnd → Bool
is_ended (ends.Stepped s) = step_ended s
is_ended (ends.Second s) = second_ended s
is_ended _ = false

-- what the background did
abbrev pub back_told : ℕ → BackAnswer → Happened
back_told d answer = did.First (lines.Back d answer)

-- what is told where there was nothing to do, by who asked
abbrev pub idle_line : ℕ → Asker → ReportLine
idle_line d askers.Step = lines.StepIdle d
idle_line d askers.Run = lines.RunIdle d
idle_line d askers.Back = lines.Back d back.Nothing

abbrev pub idle_told : ℕ → Asker → Happened
idle_told d asker = did.First (idle_line d asker)

-- what it did, where no command ended

abbrev pub half_seen : ℕ → Option RunningProgram → Happened → Stepped → Happened
half_seen d running idle steps.Ended = idle
half_seen d running idle (steps.Half t) = half_told d running t

abbrev pub part_seen : ℕ → Happened → SecondStep → Happened
part_seen d idle parts.Ended = idle
part_seen d idle (parts.Finished t) = back_told d (back.Finished t)
part_seen d idle (parts.Unwritten t) = back_told d (back.Unwritten t)

abbrev pub work_seen : ℕ → Option RunningProgram → Happened → EventEnd → Happened
work_seen d running idle (ends.Stepped s) = half_seen d running idle s
work_seen d running idle (ends.Second s) = part_seen d idle s
work_seen d running idle (ends.Back x) = back_told d (back_answer x)
work_seen d running idle _ = idle
