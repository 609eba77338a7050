use Rattle.std.proofs.Common.{◌≡◌}
use Rattle.device_turn.specs.Answers.{IsAway}
use Rattle.device_turn.proofs.tests.count_in_step.Given as goal

abbrev pub invariant-loop-n : goal.invariant-loop-n
invariant-loop-n g l =
    (l.seat.seat.table_id ≡ l.turn.table.shared.table_id) × (l.seat.number
    ≡ l.initial.seat.number) × IsAway l.seat.seat.me × (l.seat.made ≡ l.initial.seat.made)
    × (l.seat.seat.me.0.joined ≡ l.initial.seat.seat.me.0.joined) × (l.seat.seat.me.0.pledge ≡ l.initial.seat.seat.me.0.pledge)
