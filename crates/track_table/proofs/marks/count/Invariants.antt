use Rattle.std.proofs.Common.{◌≡◌, ◌*◌, ◌-◌, ◌≤◌}
use Rattle.track_table.specs.Tracks.{count_below}
use Rattle.track_table.proofs.AskedWords.{NoneLast}
use Rattle.track_table.proofs.marks.count.Given as goal

abbrev pub invariant-loop-k : goal.invariant-loop-k
invariant-loop-k g l = record {
  counted : l.count ≡ count_below (64 * l.k) (g.M.Marks.marked l.fn.marks);
  few : l.count ≤ 64 * l.k;
  most : l.k ≤ 1024;
  last : NoneLast (g.M.Marks.marked l.fn.marks);
}

abbrev pub decreases-loop-k : goal.decreases-loop-k
decreases-loop-k g l = 1024 - l.k
