use Rattle.std.proofs.Common.{◌≡◌, length}
use Rattle.device_outside.specs.Pool.{victim}
use Rattle.frame_pool.proofs.recency.victim.Given as goal

abbrev pub invariant-loop-place : goal.invariant-loop-place
invariant-loop-place l = victim l.frames.entries ≡ victim l.rest

abbrev pub decreases-loop-place : goal.decreases-loop-place
decreases-loop-place l = length l.rest
