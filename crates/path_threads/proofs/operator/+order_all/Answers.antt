use Rattle.std.proofs.Common.{get_or, sym, subst, ap, ◌∙◌, arith}
use Rattle.device_defs.specs.Pledge.{seat_counts}
use Rattle.device_turn.specs.Answers.{IsOut, MayLeave}
use Rattle.device_turn.specs.Rule.{KeptBy, boxed, counts_in}
use Rattle.device_turn.proofs.Members.{may_boxed}
use Rattle.device_core.specs.State.{device_of}
use Rattle.device_turn.specs.Seating.{IsHome}
use Rattle.path_workers.specs.Keeping.{KeepsPromise}
use Rattle.path_threads.specs.Places.{Allows}
use Rattle.path_threads.proofs.Holding.{may_have}
use Rattle.path_threads.proofs.Parting.{one_set, zip_first}
use Rattle.path_threads.proofs.operator.+order_all.Goals as goal

pub leave-requires-clause-own : goal.leave-requires-clause-own
leave-requires-clause-own g t c =
    let parts = c.split_at_mut-first.ensures in
    let back = c.split_at.ensures.back_len in
    let home = zip_first IsHome c.args.turns.now c.args.seats.now _ _ c.index-turns-0-2.result c.index-first-0.result c.requires.home parts.value
    parts.front_len (omega (arith, back)) c.index-turns-0-2.is in
    ap (λ z. z.seat.table_id) (one_set c.split_at_mut-first.result.0.now c.hold.new.seat c.index-first-0-2.result parts.front_len)
    ∙ c.in_ok-device.ensures.own ∙ home.at.own

pub leave-requires-clause-out : goal.leave-requires-clause-out
leave-requires-clause-out g t c =
    let parts = c.split_at_mut-first.ensures in
    subst (λ z. IsOut z.seat.me) (sym (one_set c.split_at_mut-first.result.0.now c.hold.new.seat c.index-first-0-2.result parts.front_len))
    c.in_ok-device.ensures.out

pub leave-requires-clause-keeps : goal.leave-requires-clause-keeps
leave-requires-clause-keeps g t c =
    let parts = c.split_at_mut-first.ensures in
    let back = c.split_at-2.ensures.back_len in
    let place = c.index-places-0-2.result in
    let first = get_or c.split_at_mut-first.result.0.now 0 c.index-first-0.result in
    let allows = zip_first Allows c.args.places.now c.args.seats.now _ _ place c.index-first-0.result c.requires.allows parts.value parts.front_len
    (omega (arith, back)) c.index-places-0-2.is in
    subst (λ z. MayLeave (KeptBy (boxed KeepsPromise)) (counts_in (λ d. seat_counts (device_of d))) z.seat.me.0 c.had-behind.result)
    (sym (one_set c.split_at_mut-first.result.0.now c.hold.new.seat c.index-first-0-2.result parts.front_len))
    (may_boxed KeepsPromise (λ d. seat_counts (device_of d)) c.hold.new.seat.seat.me.0 c.had-behind.result
    (may_have place first c.hold.new.seat c.in_ok-device.device.value c.had-behind.result.value allows c.in_ok-device.ensures c.had-behind.ensures
    (λ d. seat_counts (device_of d)) c.had-behind.ensures.counts c.in_ok-device.ensures.may))
