use Rattle.std.specs.Prelude.{All}
use Rattle.std.specs.List.{AllZip}
use Rattle.std.specs.Vec.Iter.{into_iter_items}
use Rattle.device_turn.specs.Seating.{Rests}
use Rattle.path_threads.specs.Places.{IsSpareAt}
use Rattle.path_threads.proofs.operator.operate.Given as goal

abbrev pub invariant-loop-order : goal.invariant-loop-order
invariant-loop-order g l =
    AllZip Rests l.initial.seats.items l.seats.items × All (IsSpareAt g.M.MakeVolume.makes l.places l.initial.seats.items) (into_iter_items l.order-iterator)
