use Rattle.std.proofs.Common.{◌≡◌, ◌+◌}
use Rattle.std.specs.Prelude.{vec_len}
use Rattle.device_turn.specs.Seating.{AreSet}
use Rattle.path_threads.specs.Places.{HaveLeft}
use Rattle.path_threads.proofs.places.clear_all.Given as goal

abbrev pub invariant-loop : goal.invariant-loop
invariant-loop g l =
    AreSet l.table × ((most : _) → HaveLeft most l.initial.table.operator.items l.table.operator.items l.devices.items)
    × (vec_len l.table.turns + l.counter ≡ l.end)
