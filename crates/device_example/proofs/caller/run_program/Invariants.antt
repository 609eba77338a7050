use Rattle.device_core.specs.Promises.{KeepsPlain}
use Rattle.device_example.proofs.caller.run_program.Given as goal

-- what the device stands beside it still stands beside
abbrev pub invariant-loop-event : goal.invariant-loop-event
invariant-loop-event g l = KeepsPlain l.fn.device l.device
