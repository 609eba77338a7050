-- The numbers of what calls answer, and which answer is given where an event ended so.
use Rattle.std.specs.Prelude.{ℕ, Option, Some, None}
use Rattle.ckd_types.specs.declared.channel.Why.{Why}
use Rattle.ckd_types.specs.declared.channel.Why.TheVariants as whys
use Rattle.device_core.specs.declared.history.Stepped.{Stepped}
use Rattle.device_core.specs.declared.history.Stepped.TheVariants as steps
use Rattle.device_core.specs.declared.second.SecondStep.{SecondStep}
use Rattle.device_core.specs.declared.second.SecondStep.TheVariants as seconds
use Rattle.device_defs.specs.declared.answers.Did.{Did}
use Rattle.device_defs.specs.declared.answers.Did.TheVariants as dids
use Rattle.device_defs.specs.declared.answers.StartFault.{StartFault}
use Rattle.device_defs.specs.declared.answers.StartFault.TheVariants as starts
use Rattle.subsystem_defs.specs.declared.end.OrderFault.{OrderFault}
use Rattle.subsystem_defs.specs.declared.end.OrderFault.TheVariants as orders
use Rattle.subsystem_core.specs.declared.end.EventEnd.{EventEnd}
use Rattle.subsystem_core.specs.declared.end.EventEnd.TheVariants as ends
use Rattle.ckd_c.specs.declared.code.Code.{Code}
use Rattle.ckd_c.specs.declared.code.Code.TheVariants as codes

abbrev pub number_of : Code → ℕ
number_of codes.Done = 0
number_of codes.Closed = 1
number_of codes.Open = 2
number_of codes.NoMemory = 3
number_of codes.BadDevice = 4
number_of codes.BadPath = 5
number_of codes.BadSide = 6
number_of codes.BadGeometry = 7
number_of codes.BadCylinders = 8
number_of codes.BadImage = 9
number_of codes.FileFault = 10
number_of codes.BadProgram = 12
number_of codes.NoDevice = 13
number_of codes.NotLast = 14
number_of codes.NotAlike = 15
number_of codes.PlanFull = 16
number_of codes.Idle = 17
number_of codes.Running = 18
number_of codes.Part = 19
number_of codes.NoEnd = 20
number_of codes.Waits = 21
number_of codes.Lent = 22
number_of codes.Busy = 23
number_of codes.NotPlanned = 24
number_of codes.Shut = 25
number_of codes.Reserved = 26
number_of codes.Same = 27
number_of codes.Paired = 28
number_of codes.Unpaired = 29
number_of codes.NoSide = 30
number_of codes.Down = 31
number_of codes.Up = 32
number_of codes.NotLevel = 33
number_of codes.Half = 34
number_of codes.Held = 35
number_of codes.NotHeld = 36

abbrev pub why_number : Why → ℕ
why_number whys.Empty = 1
why_number whys.TooLong = 2
why_number whys.BadCommand = 3
why_number whys.BadFlags = 4
why_number whys.TicFirst = 5
why_number whys.Target = 6
why_number whys.TicToTic = 7
why_number whys.ZeroCount = 8
why_number whys.TooMuchData = 9
why_number whys.DataOnInput = 10
why_number whys.PastEnd = 11

abbrev pub did_number : Did → ℕ
did_number dids.Nothing = 0
did_number (dids.Recovered t) = 1
did_number (dids.Copied t) = 2
did_number (dids.Staged t) = 3
did_number (dids.Skipped t) = 4
did_number (dids.Destaged t) = 5
did_number (dids.Half t) = 6
did_number (dids.Fault t) = 7
did_number (dids.BadBytes t) = 8

-- a rule keeps a program out
abbrev pub start_code : StartFault → Code
start_code (starts.Secondary of) = codes.Lent
start_code (starts.Busy holder) = codes.Busy
start_code starts.PlanDone = codes.NotPlanned
start_code (starts.Shut owner) = codes.Shut
start_code (starts.Reserved owner) = codes.Reserved

-- an order is refused
abbrev pub order_code : OrderFault → Code
order_code orders.Same = codes.Same
order_code (orders.Lent of) = codes.Lent
order_code orders.Paired = codes.Paired
order_code orders.Unpaired = codes.Unpaired
order_code (orders.Active path) = codes.Running
order_code orders.Geometry = codes.NotAlike
order_code orders.NoSide = codes.NoSide
order_code orders.Down = codes.Down
order_code orders.Up = codes.Up
order_code (orders.NotLevel n) = codes.NotLevel
order_code orders.Half = codes.Half
order_code orders.Held = codes.Held
order_code orders.NotHeld = codes.NotHeld

-- a command ended, or a write has a second part
abbrev pub step_code : Stepped → Code
step_code steps.Ended = codes.Done
step_code (steps.Half t) = codes.Part

-- the second part of a write, for which a command waited or none
abbrev pub second_code : SecondStep → Code
second_code seconds.Ended = codes.Done
second_code (seconds.Finished t) = codes.Part
second_code (seconds.Unwritten t) = codes.Part

abbrev pub code_of_end : EventEnd → Code
code_of_end (ends.Started n) = codes.Done
code_of_end (ends.NotStarted fault) = start_code fault
code_of_end ends.Running = codes.Running
code_of_end (ends.Stepped step) = step_code step
code_of_end (ends.Second step) = second_code step
code_of_end ends.Idle = codes.Idle
code_of_end (ends.Back did) = codes.Done
code_of_end ends.Done = codes.Done
code_of_end (ends.Pending n) = codes.Waits
code_of_end (ends.Refused fault) = order_code fault

-- None: memory was lacking
abbrev pub code_of : Option EventEnd → Code
code_of (Some end) = code_of_end end
code_of None = codes.NoMemory

-- an answer by which nothing was done
abbrev pub IsRefusal : Code → Type 0
IsRefusal codes.Done = ⊥
IsRefusal codes.Part = ⊥
IsRefusal _ = Unit {0}
