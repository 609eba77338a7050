use Rattle.std.proofs.Common.{◌≡◌, map, take}
use Rattle.ckd_c.specs.Calls.{ccw_of}
use Rattle.ckd_c.proofs.words.words_of.Given as goal

abbrev pub invariant-loop-ccw : goal.invariant-loop-ccw
invariant-loop-ccw l = l.made.items ≡ map ccw_of (take l.ccw-index l.ccws)
