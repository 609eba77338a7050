use Rattle.std.proofs.Common.{◌≡◌, length}
use Rattle.std.specs.List.{AllZip}
use Rattle.device_turn.specs.Seating.{IsAt}
use Rattle.path_threads.proofs.walks.round.Given as goal

abbrev pub invariant-loop-i : goal.invariant-loop-i
invariant-loop-i g l = AllZip (IsAt 5) l.turns l.seats × (l.i-end ≡ length l.turns)
