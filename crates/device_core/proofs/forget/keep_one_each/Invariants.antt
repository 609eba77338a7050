use Rattle.std.proofs.Common.{◌≡◌, ◌++◌, drop, map, take}
use Rattle.device_core.specs.Forgetting.{one_kept}
use Rattle.device_core.proofs.forget.keep_one_each.Given as goal

abbrev pub invariant-loop-path : goal.invariant-loop-path
invariant-loop-path l = l.kept ≡ map one_kept (take l.path-index l.initial.kept) ++ drop l.path-index l.initial.kept
