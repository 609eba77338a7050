use Rattle.std.proofs.Common.{◌≡◌, drop}
use Rattle.device_outside.specs.Lists.{is_in}
use Rattle.device_outside.proofs.failing_calls.is_listed.Given as goal

abbrev pub invariant-loop-n : goal.invariant-loop-n
invariant-loop-n l = is_in l.call (drop l.n-index l.numbers) ≡ is_in l.call l.numbers
