use Rattle.std.proofs.Common.{arith}
use Rattle.frame_pool.proofs.NoteLists.{all_empty}
use Rattle.frame_pool.proofs.notes.clear_all.Goals as goal

pub returns-clause-notes : goal.returns-clause-notes
returns-clause-notes c = all_empty 16 c.loop-n.devices.items c.loop-n.invariant.0 (λ i lt. c.loop-n.invariant.1 i (omega (arith, lt, c.loop-n-test.false)))
