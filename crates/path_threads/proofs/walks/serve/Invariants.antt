use Rattle.std.proofs.Common.{◌≡◌}
use Rattle.device_turn.specs.Seating.{Rests}
use Rattle.path_threads.proofs.walks.serve.Given as goal

abbrev pub invariant-loop : goal.invariant-loop
invariant-loop g l = (l.visitor.path ≡ l.initial.visitor.path) × Rests l.initial.seat l.seat
