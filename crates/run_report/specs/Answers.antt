-- How what an event ended with is told. Every answer is own.
use Rattle.device_defs.specs.declared.answers.Did.{Did}
use Rattle.device_defs.specs.declared.answers.Did.TheVariants as dids
use Rattle.device_defs.specs.declared.answers.StartFault.{StartFault}
use Rattle.device_defs.specs.declared.answers.StartFault.TheVariants as starts
use Rattle.report_text.specs.declared.answers.BackAnswer.{BackAnswer}
use Rattle.report_text.specs.declared.answers.BackAnswer.TheVariants as back
use Rattle.report_text.specs.declared.answers.OrderAnswer.{OrderAnswer}
use Rattle.report_text.specs.declared.answers.OrderAnswer.TheVariants as orders
use Rattle.report_text.specs.declared.answers.OrderRefusal.{OrderRefusal}
use Rattle.report_text.specs.declared.answers.OrderRefusal.TheVariants as told
use Rattle.report_text.specs.declared.answers.StartAnswer.{StartAnswer}
use Rattle.report_text.specs.declared.answers.StartAnswer.TheVariants as start
use Rattle.subsystem_defs.specs.declared.end.EventEnd.{EventEnd}
use Rattle.subsystem_defs.specs.declared.end.EventEnd.TheVariants as ends
use Rattle.subsystem_defs.specs.declared.end.OrderFault as subsystem
use Rattle.subsystem_defs.specs.declared.end.OrderFault.TheVariants as faults

-- why a program didn't start
abbrev pub start_refused : StartFault → StartAnswer
start_refused (starts.Secondary of) = start.Secondary of
start_refused (starts.Busy holder) = start.Busy holder
start_refused starts.PlanDone = start.Done
start_refused (starts.Shut owner) = start.Shut owner
start_refused (starts.Reserved owner) = start.Reserved owner

-- a start ends in three ways
abbrev pub start_answer : EventEnd → StartAnswer
start_answer (ends.Started n) = start.Accepted n
start_answer (ends.NotStarted fault) = start_refused fault
start_answer _ = start.Running

-- what a device did by itself
abbrev pub back_answer : Did → BackAnswer
back_answer dids.Nothing = back.Nothing
back_answer (dids.Recovered t) = back.Recovered t
back_answer (dids.Copied t) = back.Copied t
back_answer (dids.Staged t) = back.Staged t
back_answer (dids.Skipped t) = back.Skipped t
back_answer (dids.Destaged t) = back.Destaged t
back_answer (dids.Half t) = back.Half t
back_answer (dids.Fault side) = back.Fault side
back_answer (dids.BadBytes side) = back.BadBytes side

-- why an order was refused
abbrev pub refused_as : subsystem.OrderFault → OrderRefusal
refused_as faults.Same = told.Same
refused_as (faults.Lent of) = told.Lent of
refused_as faults.Paired = told.Paired
refused_as faults.Unpaired = told.Unpaired
refused_as (faults.Active path) = told.Active path
refused_as faults.Geometry = told.Geometry
refused_as faults.NoSide = told.NoSide
refused_as faults.Down = told.Down
refused_as faults.Up = told.Up
refused_as (faults.NotLevel n) = told.NotLevel n
refused_as faults.Half = told.Half
refused_as faults.Held = told.Held
refused_as faults.NotHeld = told.NotHeld

-- an order ends in three ways
abbrev pub order_answer : EventEnd → OrderAnswer
order_answer (ends.Pending n) = orders.Pending n
order_answer (ends.Refused fault) = orders.Refused (refused_as fault)
order_answer _ = orders.Done
