use Rattle.std.proofs.Common.{◌≡◌, ◌+◌}
use Rattle.std.specs.Prelude.{vec_len}
use Rattle.std.specs.List.{AllZip}
use Rattle.device_turn.specs.Seating.{AreSet}
use Rattle.path_threads.specs.Places.{Allows, HaveCome, HavePlaces}
use Rattle.path_threads.proofs.places.set_all.Given as goal

abbrev pub invariant-loop : goal.invariant-loop
invariant-loop g l =
    AreSet l.table × HaveCome l.orders l.initial.devices.items l.table.operator.items l.devices.items × (vec_len l.devices + l.counter ≡ l.end)
    × AllZip Allows l.places.items l.table.operator.items × HavePlaces l.initial.devices.items l.places.items l.devices.items
