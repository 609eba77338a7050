use Rattle.std.proofs.Common.{◌≡◌, ◌≤◌, ◌+◌, take, length}
use Rattle.device_core.proofs.acts.roomier.Given as goal

abbrev pub invariant-loop-act : goal.invariant-loop-act
invariant-loop-act l = record {
  items : l.made.items ≡ take l.act-index l.fn.acts.items;
  room : length l.fn.acts.items + l.fn.n ≤ l.made.spare + l.act-index;
}
