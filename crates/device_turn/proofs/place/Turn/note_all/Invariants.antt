use Rattle.std.proofs.Common.{ℕ, ◌≡◌, ◌≢◌, ◌<◌, true}
use Rattle.device_turn.specs.Rule.{has, Without}
use Rattle.device_turn.specs.Answers.{with_loaded}
use Rattle.device_turn.proofs.place.Turn.note_all.Given as goal

-- the words of the seats before this one are noted
abbrev pub invariant-loop-other : goal.invariant-loop-other
invariant-loop-other g l =
    (l.seat.seat.table_id ≡ l.initial.seat.seat.table_id) × (l.seat.seat.id ≡ l.initial.seat.seat.id) ×
    (l.seat.number ≡ l.initial.seat.number) × (l.seat.made ≡ l.initial.seat.made)
    × (l.seat.seat.me ≡ (with_loaded l.seat.seat.me.0.loaded l.initial.seat.seat.me.0, l.initial.seat.seat.me.1))
    × Without l.number l.seat.seat.me.0.loaded
    × ((j : ℕ) → j < l.other → j ≢ l.number → has j l.seat.seat.me.0.loaded ≡ true)
