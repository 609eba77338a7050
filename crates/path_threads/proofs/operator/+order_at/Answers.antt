use Rattle.std.proofs.Common.{arith}
use Rattle.device_turn.specs.Seating.{IsHome, Rests}
use Rattle.path_threads.specs.Places.{Allows}
use Rattle.path_threads.proofs.Holding.{home_rest, on_ok}
use Rattle.path_threads.proofs.Parting.{only_set, zip_apart, zip_first, zip_together}
use Rattle.path_threads.proofs.operator.+order_at.Goals as goal

pub order_one-requires-clause-allows : goal.order_one-requires-clause-allows
order_one-requires-clause-allows g t c =
    let parts = c.split_at_mut-first.ensures in
    let back = c.split_at-2.ensures.back_len in
    zip_first Allows c.args.places.now c.args.seats.now _ _ c.index-places-0-then-eq.result c.index-first-0.result c.requires.allows parts.value parts.front_len
    (omega (arith, back)) c.index-places-0-then-eq.is

pub returns-then-eq : goal.returns-then-eq
returns-then-eq g t c =
    let parts = c.split_at_mut-first.ensures in
    let back = c.split_at.ensures.back_len in
    let first = c.split_at_mut-first.result.0.now in
    let others = c.split_at_mut-first.result.1.now in
    let home = (zip_apart IsHome c.args.turns.now c.args.seats.now first others c.index-turns-0.result c.index-first-0.result c.requires.home parts.value
    parts.front_len (omega (arith, back))).1 in
    on_ok c.order_one.result c.order_one.ensures
    (λ rests. zip_together Rests c.args.seats.now first others _ others c.index-first-0.result c.order_one.new.seat parts.value parts.front_len rests
    (only_set first c.order_one.new.seat parts.front_len) (home_rest _ _ home))
