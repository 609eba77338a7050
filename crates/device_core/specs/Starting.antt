-- What an answer to a start tells.
use Rattle.std.specs.Prelude.{ℕ, Option, Some, None, Result, Ok, Err}
use Rattle.device_defs.specs.declared.answers.StartFault.{StartFault}
use Rattle.device_core.specs.declared.start.NotStarted.{NotStarted}
use Rattle.device_core.specs.declared.start.NotStarted.TheVariants.{Refused, NoMemory}

-- the rule that keeps a program out; none where it started, and none where memory was lacking
abbrev pub fault_told : Result ℕ NotStarted → Option StartFault
fault_told (Ok n) = None
fault_told (Err (Refused f)) = Some f
fault_told (Err NoMemory) = None
