use Rattle.std.proofs.Common.{◌≡◌, ◌+◌, ◌/◌, ◌%◌, ◌^◌, ◌<◌, ◌≤◌}
use Rattle.std.specs.Int.Count.{ones}
use Rattle.track_table.proofs.bits.place_of.Given as goal

abbrev pub invariant-loop-width : goal.invariant-loop-width
invariant-loop-width l = record {
  sum : ones (l.fn.word % 2 ^ l.place) + l.before ≡ l.fn.i;
  here : l.before < ones (l.fn.word / 2 ^ l.place % 2 ^ l.width);
  most : l.place + l.width ≤ 64;
  some : 1 ≤ l.width;
}

abbrev pub decreases-loop-width : goal.decreases-loop-width
decreases-loop-width l = l.width
