-- The lines of an event, by what asked for it, its end, its volume calls, and the devices before and behind it.
use Rattle.std.specs.Prelude.{ℕ, List, [], ◌∷◌, ◌++◌, Option, Some, None, option_map}
use Rattle.ckd_types.specs.declared.channel.CommandEnd.{CommandEnd}
use Rattle.plain_defs.specs.History.{OpenEntry}
use Rattle.device_defs.specs.declared.answers.SecondEnd.{SecondEnd}
use Rattle.device_defs.specs.declared.answers.SecondEnd.TheVariants as seconds
use Rattle.device_defs.specs.declared.answers.Stepped.{Stepped}
use Rattle.device_defs.specs.declared.answers.Stepped.TheVariants as stepped
use Rattle.device_defs.specs.Device.{Device}
use Rattle.report_text.specs.declared.answers.BackAnswer.TheVariants as back
use Rattle.report_text.specs.declared.event.Happened as report
use Rattle.report_text.specs.declared.event.Happened.TheVariants as did
use Rattle.report_text.specs.declared.line.ReportLine.{ReportLine}
use Rattle.report_text.specs.declared.line.ReportLine.TheVariants as lines
use Rattle.report_text.specs.declared.order.Order.TheVariants as orders
use Rattle.report_text.specs.Events.{in_order}
use Rattle.run_report.specs.declared.told.RunningProgram.{RunningProgram}
use Rattle.run_report.specs.Answers.{start_answer, back_answer, order_answer}
use Rattle.run_report.specs.Beside.{loose_lines, over_lines, power_lines, of_each}
use Rattle.subsystem_defs.specs.declared.end.EventEnd.{EventEnd}
use Rattle.subsystem_defs.specs.declared.end.EventEnd.TheVariants as ends
use Rattle.subsystem_defs.specs.declared.event.Event.{Event}
use Rattle.subsystem_defs.specs.declared.event.Event.TheVariants as events
use Rattle.subsystem_defs.specs.Deeds.{device_in}
use Rattle.subsystem_defs.specs.Happening.{EventHappened}
use Rattle.subsystem_defs.specs.Lines.{Asked, Once, Replace, Unpair, Run, Settle, Logged}
use Rattle.subsystem_defs.specs.Subsystem.{devices_of}

-- What an event did

-- a command ends, or writes one side of two, only of a program that runs
abbrev pub end_told : ℕ → Option RunningProgram → CommandEnd → report.Happened
end_told d (Some r) e = did.Ended r.path d r.ordinal e
end_told d None e = did.First (lines.StepIdle d)

abbrev pub half_told : ℕ → Option RunningProgram → ℕ → report.Happened
half_told d (Some r) t = did.First (lines.Half r.path d t)
half_told d None t = did.First (lines.StepIdle d)

abbrev pub step_told : ℕ → Option RunningProgram → Stepped → report.Happened
step_told d running (stepped.Ended e) = end_told d running e
step_told d running (stepped.Half t) = half_told d running t

-- the second part of a write that no command waits for is told as work of the background, whoever asked for it
abbrev pub second_reported : ℕ → Option RunningProgram → SecondEnd → report.Happened
second_reported d running (seconds.Ended e) = end_told d running e
second_reported d running (seconds.Finished t) = did.First (lines.Back d (back.Finished t))
second_reported d running (seconds.Unwritten t) = did.First (lines.Back d (back.Unwritten t))

-- of a device whose program runs, and what is told where there was nothing to do
abbrev pub work_told : ℕ → Option RunningProgram → report.Happened → EventEnd → report.Happened
work_told d running idle (ends.Stepped s) = step_told d running s
work_told d running idle (ends.Second s) = second_reported d running s
work_told d running idle (ends.Back x) = did.First (lines.Back d (back_answer x))
work_told d running idle _ = idle

abbrev pub running_program : OpenEntry → RunningProgram
running_program o = record { path = o.path; ordinal = o.ordinal }

module _ {F P H : Type 0} where
  abbrev pub running_by : Option (Device F P H) → Option RunningProgram
  running_by (Some d) = option_map running_program d.history.running
  running_by None = None

  -- the program that runs on the device of this number
  abbrev pub running_in : List (Device F P H) → ℕ → Option RunningProgram
  running_in ds n = running_by (device_in ds n)

  abbrev pub once_told : List (Device F P H) → EventEnd → Event → report.Happened
  once_told ds end (events.Start path d) = did.First (lines.Start path d (start_answer end))
  once_told ds end (events.Step d) = work_told d (running_in ds d) (did.First (lines.StepIdle d)) end
  once_told ds end (events.Back d) = work_told d (running_in ds d) (did.First (lines.Back d back.Nothing)) end
  once_told ds end (events.Reset path d) = did.Reset path d
  once_told ds end events.FailCache = did.Ordered orders.FailCache (order_answer end)
  once_told ds end events.FailStore = did.Ordered orders.FailStore (order_answer end)
  once_told ds end (events.FailVolume d side) = did.Ordered (orders.FailVolume d side) (order_answer end)
  once_told ds end events.RepairCache = did.Ordered orders.RepairCache (order_answer end)
  once_told ds end events.RepairStore = did.Ordered orders.RepairStore (order_answer end)
  once_told ds end (events.Pair a b) = did.Ordered (orders.Pair a b) (order_answer end)
  once_told ds end (events.Suspend a) = did.Ordered (orders.Suspend a) (order_answer end)
  once_told ds end (events.Resume a) = did.Ordered (orders.Resume a) (order_answer end)
  once_told ds end events.Power = did.Ordered orders.Power (order_answer end)

  -- by the devices before it
  abbrev pub told : List (Device F P H) → EventEnd → Asked → report.Happened
  told ds end (Once e) = once_told ds end e
  told ds end (Replace d side) = did.Ordered (orders.Replace d side) (order_answer end)
  told ds end (Unpair a) = did.Ordered (orders.Unpair a) (order_answer end)
  told ds end (Run d) = work_told d (running_in ds d) (did.First (lines.RunIdle d)) end
  told ds end (Settle d) = work_told d (running_in ds d) (did.First (lines.Back d back.Nothing)) end

  -- Its lines

  -- of each device what became of its loose tracks, and which of its programs is over
  abbrev pub work_lines : report.Happened → ℕ → ℕ → List (Device F P H) → List (Device F P H) → List ReportLine
  work_lines h reads writes before behind = in_order h (of_each loose_lines before behind) reads writes (of_each over_lines before behind)

  -- a loss of power is told device by device
  abbrev pub all_power_lines : EventEnd → List (Device F P H) → List (Device F P H) → List ReportLine
  all_power_lines end before behind = of_each power_lines before behind ++ lines.Order orders.Power (order_answer end) ∷ []

  abbrev pub event_lines : Asked → EventEnd → ℕ → ℕ → List (Device F P H) → List (Device F P H) → List ReportLine
  event_lines (Once events.Power) end reads writes before behind = all_power_lines end before behind
  event_lines asked end reads writes before behind = work_lines (told before end asked) reads writes before behind

-- of an event of a run
abbrev pub lines_of : Logged → List ReportLine
lines_of x =
    event_lines x.asked x.happened.end x.happened.reads x.happened.writes (devices_of x.happened.before) (devices_of x.happened.behind)
