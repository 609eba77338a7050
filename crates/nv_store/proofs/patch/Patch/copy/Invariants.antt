use Rattle.std.proofs.Common.{◌≡◌, take}
use Rattle.nv_store.proofs.patch.Patch.copy.Given as goal

abbrev pub invariant-loop-r : goal.invariant-loop-r
invariant-loop-r l = l.replaced.items ≡ take l.r-index l.self.replaced
