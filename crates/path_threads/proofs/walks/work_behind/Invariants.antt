use Rattle.std.specs.List.{AllZip}
use Rattle.device_turn.specs.Seating.{IsAt}
use Rattle.path_threads.proofs.walks.work_behind.Given as goal

abbrev pub invariant-loop : goal.invariant-loop
invariant-loop g l = AllZip (IsAt 5) l.turns l.seats.items
