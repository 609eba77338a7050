use Rattle.std.proofs.Common.{◌≡◌, ◌≤◌, ◌^◌, drop}
use Rattle.disk_image.specs.File.{end_from, end_in}
use Rattle.disk_image.proofs.ending.end_in.Given as goal

-- what is left leads to the same end
abbrev pub invariant-loop-steps : goal.invariant-loop-steps
invariant-loop-steps l = (end_from l.steps l.at (drop l.at l.room) ≡ end_in l.room) × (l.at ≤ 2 ^ 20)

abbrev pub decreases-loop-steps : goal.decreases-loop-steps
decreases-loop-steps l = l.steps
