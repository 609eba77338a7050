use Rattle.std.proofs.Common.{◌≡◌, ◌+◌, ◌-◌, ◌≤◌, ◌++◌, replicate, vec_len, vec_capacity}
use Rattle.track_table.proofs.table.add_places.Given as goal

abbrev pub invariant-loop-place : goal.invariant-loop-place
invariant-loop-place l = record {
  items : l.index.items ≡ l.fn.index.items ++ replicate l._place 0;
  room : vec_len l.index + (l.added - l._place) ≤ vec_capacity l.index;
}
