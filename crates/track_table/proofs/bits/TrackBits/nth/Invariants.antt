use Rattle.std.proofs.Common.{◌≡◌, ◌+◌, ◌-◌, ◌*◌, ◌≤◌}
use Rattle.track_table.specs.Bits.{is_marked}
use Rattle.track_table.specs.Tracks.{count_below}
use Rattle.track_table.proofs.bits.TrackBits.nth.Given as goal

abbrev pub invariant-loop-k : goal.invariant-loop-k
invariant-loop-k l = record {
  counted : count_below (64 * l.k) (is_marked l.fn.self) + l.before ≡ l.fn.i;
  most : l.k ≤ 1024;
}

abbrev pub decreases-loop-k : goal.decreases-loop-k
decreases-loop-k l = 1024 - l.k
