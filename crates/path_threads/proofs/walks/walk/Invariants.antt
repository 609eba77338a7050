use Rattle.std.proofs.Common.{◌≡◌, length}
use Rattle.std.specs.List.{AllZip}
use Rattle.device_turn.specs.Seating.{IsAt}
use Rattle.path_threads.proofs.walks.walk.Given as goal

abbrev pub invariant-loop-i : goal.invariant-loop-i
invariant-loop-i g l = (l.visitor.path ≡ l.fn.path) × AllZip (IsAt l.fn.path) l.turns l.seats.items × (l.i-end ≡ length l.turns)
