use Rattle.std.proofs.Common.{◌≡◌, ◌≤◌, ◌+◌, ◌++◌, drop, length}
use Rattle.plain_defs.specs.History.{resets_of}
use Rattle.device_core.specs.Kept.{waiting_from, waiting_in}
use Rattle.device_core.proofs.resets.note_resets.Given as goal

abbrev pub invariant-loop-at : goal.invariant-loop-at
invariant-loop-at l = record {
  rest : l.items.items ++ resets_of (waiting_from (l.at + 1) (drop l.at l.kept)) ≡ l.fn.items.items ++ resets_of (waiting_in l.kept);
  spare : l.items.spare + length (waiting_in l.kept) ≡ l.fn.items.spare + length (waiting_from (l.at + 1) (drop l.at l.kept));
  room : 4 ≤ l.items.spare + l.at;
  aside : l.items.aside ≡ l.fn.items.aside;
}
