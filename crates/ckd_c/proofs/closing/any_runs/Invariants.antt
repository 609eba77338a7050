use Rattle.std.proofs.Common.{◌≡◌, drop}
use Rattle.ckd_c.specs.Calls.{any_runs}
use Rattle.ckd_c.proofs.closing.any_runs.Given as goal

abbrev pub invariant-loop-device : goal.invariant-loop-device
invariant-loop-device l = any_runs (drop l.device-index l.devices) ≡ any_runs l.devices
