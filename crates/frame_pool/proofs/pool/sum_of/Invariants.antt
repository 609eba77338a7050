use Rattle.std.proofs.Common.{◌≡◌, ◌≤◌, ◌*◌, take}
use Rattle.std.specs.Prelude.{sum}
use Rattle.frame_pool.proofs.pool.sum_of.Given as goal

abbrev pub invariant-loop-n : goal.invariant-loop-n
invariant-loop-n l = (l.total ≡ sum (take l.n-index l.waiting)) × (l.total ≤ l.n-index * 65535)
