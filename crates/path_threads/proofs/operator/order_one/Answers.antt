use Rattle.device_defs.specs.Pledge.{seat_counts}
use Rattle.device_turn.proofs.Members.{may_boxed}
use Rattle.device_core.specs.State.{device_of}
use Rattle.path_workers.specs.Keeping.{KeepsPromise}
use Rattle.path_threads.proofs.Holding.{held_size, may_obey}
use Rattle.path_threads.proofs.operator.order_one.Goals as goal

pub order_held-requires : goal.order_held-requires
order_held-requires g c =
    held_size c.args.what c.args.place.now c.args.seat.now c.hold.new.seat c.in_ok-device.device.value c.requires.allows c.requires.suits
    c.in_ok-device.ensures.pledge c.in_ok-device.ensures.may.0

pub leave-requires-clause-keeps : goal.leave-requires-clause-keeps
leave-requires-clause-keeps g c =
    may_boxed KeepsPromise (λ d. seat_counts (device_of d)) c.hold.new.seat.seat.me.0 c.order_held.new.device
    (may_obey c.args.what c.args.place.now c.args.seat.now c.hold.new.seat c.in_ok-device.device.value c.order_held.new.device.value c.requires.allows
    c.requires.suits c.in_ok-device.ensures c.order_held.ensures (λ d. seat_counts (device_of d)) c.order_held.ensures.counts c.in_ok-device.ensures.may)
