use Rattle.std.proofs.Common.{◌≡◌, ◌≤◌, ◌-◌, [], length}
use Rattle.std.specs.Prelude.{replicate}
use Rattle.frame_pool.proofs.notes.empty_notes.Given as goal

abbrev pub invariant-loop-alloc : goal.invariant-loop-alloc
invariant-loop-alloc l = (l.devices.items ≡ replicate (length l.devices.items) []) × (length l.devices.items ≤ 16)

abbrev pub decreases-loop-alloc : goal.decreases-loop-alloc
decreases-loop-alloc l = 16 - length l.devices.items
