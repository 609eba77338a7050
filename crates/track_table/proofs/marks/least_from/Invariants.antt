use Rattle.std.proofs.Common.{◌*◌, ◌-◌, ◌/◌, ◌≤◌}
use Rattle.track_table.proofs.AskedWords.{NoneIn, NoneLast}
use Rattle.track_table.proofs.marks.least_from.Given as goal

abbrev pub invariant-loop-k : goal.invariant-loop-k
invariant-loop-k g l = record {
  least : l.fn.from / 64 ≤ l.k;
  most : l.k ≤ 1024;
  none : NoneIn (g.M.Marks.marked l.fn.marks) l.fn.from (64 * l.k);
  last : NoneLast (g.M.Marks.marked l.fn.marks);
}

abbrev pub decreases-loop-k : goal.decreases-loop-k
decreases-loop-k g l = 1024 - l.k
