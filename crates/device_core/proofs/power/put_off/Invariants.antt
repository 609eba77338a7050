use Rattle.std.proofs.Common.{◌≡◌, ◌++◌, drop, map, take}
use Rattle.device_core.specs.Powered.{off_path}
use Rattle.device_core.proofs.power.put_off.Given as goal

abbrev pub invariant-loop-path : goal.invariant-loop-path
invariant-loop-path l = l.kept ≡ map off_path (take l.path-index l.initial.kept) ++ drop l.path-index l.initial.kept
