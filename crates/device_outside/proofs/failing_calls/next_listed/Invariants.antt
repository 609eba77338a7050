use Rattle.std.proofs.Common.{take}
use Rattle.device_outside.specs.FailingCalls.{IsQuiet}
use Rattle.device_outside.proofs.failing_calls.next_listed.Given as goal

-- of the numbers so far none lies between
abbrev pub invariant-loop-n : goal.invariant-loop-n
invariant-loop-n l = IsQuiet l.made l.next (take l.n-index l.numbers)
