use Rattle.std.proofs.Common.{◌≡◌, ◌++◌, drop, map, take}
use Rattle.device_core.specs.Kept.{over_path}
use Rattle.device_core.proofs.resets.put_over.Given as goal

abbrev pub invariant-loop-path : goal.invariant-loop-path
invariant-loop-path l = l.kept ≡ map over_path (take l.path-index l.initial.kept) ++ drop l.path-index l.initial.kept
