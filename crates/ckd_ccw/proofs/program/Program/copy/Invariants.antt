use Rattle.std.proofs.Common.{◌≡◌, take}
use Rattle.ckd_ccw.proofs.program.Program.copy.Given as goal

-- the words so far are copied
abbrev pub invariant-loop-ccw : goal.invariant-loop-ccw
invariant-loop-ccw l = l.items.items ≡ take l.ccw-index l.self
