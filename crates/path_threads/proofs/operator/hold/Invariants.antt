use Rattle.std.proofs.Common.{◌≡◌}
use Rattle.path_threads.proofs.operator.hold.Given as goal

abbrev pub invariant-loop : goal.invariant-loop
invariant-loop g l =
    (l.seat.seat.table_id ≡ l.initial.seat.seat.table_id) × (l.seat.number ≡ l.initial.seat.number) × (l.seat.made
    ≡ l.initial.seat.made) × (l.seat.seat.me ≡ l.initial.seat.seat.me)
