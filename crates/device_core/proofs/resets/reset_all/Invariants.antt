use Rattle.std.proofs.Common.{◌≡◌, ◌+◌, drop}
use Rattle.device_defs.specs.Device.{all_reset}
use Rattle.device_core.specs.Kept.{waiting_from, waiting_in}
use Rattle.device_core.proofs.resets.reset_all.Given as goal

abbrev pub invariant-loop-at : goal.invariant-loop-at
invariant-loop-at l = all_reset l.paths (waiting_from (l.at + 1) (drop l.at l.kept)) ≡ all_reset l.fn.paths (waiting_in l.kept)
