use Rattle.std.proofs.Common.{◌≡◌, ◌<◌, ℕ, length}
use Rattle.ckd_types.specs.Ccw.{ccw_at}
use Rattle.plain_defs.specs.Whole.{GivesBytes}
use Rattle.device_core.proofs.giving.program_gives.Given as goal

abbrev pub invariant-loop-k : goal.invariant-loop-k
invariant-loop-k l = ((i : ℕ) → i < l.k → GivesBytes (ccw_at l.program i)) × (l.k-end ≡ length l.program)
