use Rattle.std.proofs.Common.{arith, refl}
use Rattle.device_turn.proofs.Zips.{zip_pushed}
use Rattle.path_threads.specs.Places.{Allows}
use Rattle.path_threads.proofs.Setting.{all_come, all_placed, first_ready, none_allowed, none_come, none_placed, one_come, one_placed, promised_allows, promised_for}
use Rattle.path_threads.proofs.places.set_all.Goals as goal

pub loop-init : goal.loop-init
loop-init g c =
    let e = c.len-end.ensures in (
      c.new-table.ensures.set,
      none_come c.args.orders.now _ _ c.new-table.ensures.none c.requires,
      omega (arith, e),
      none_allowed _ _ c.new-places.ensures.items c.new-table.ensures.none,
      none_placed _ _ c.new-places.ensures.items,
    )

pub set_one-requires-clause-ready : goal.set_one-requires-clause-ready
set_one-requires-clause-ready g c =
    let e = c.loop.invariant.2 in
    let t = c.loop-test.true in
    let k = c.loop.devices.ok.0 in
    first_ready c.args.orders.now _ _ _ _ c.loop.invariant.1 (omega (arith, e, t, k)) c.remove-device.ensures.value

pub loop-preserved : goal.loop-preserved
loop-preserved g c =
    let e = c.loop.invariant.2 in
    let t = c.loop-test.true in
    let k = c.loop.devices.ok.0 in
    let l = c.remove-device.ensures.len in
    let promised = c.in_ok-setting.ensures.promised in (
      c.in_ok-push.ensures.set,
      one_come c.args.orders.now _ _ _ _ _ _ _ c.loop.invariant.1 (omega (arith, e, t, k)) c.remove-device.ensures.value c.remove-device.ensures.items
          (promised_for c.args.orders.now _ _ _ c.most_of-most.ensures.is promised) c.in_ok-push.ensures.operator,
      omega (arith, e, l),
      zip_pushed Allows _ _ _ _ _ _ c.loop.invariant.3 (promised_allows _ _ _ _ refl c.number-number.ensures promised) c.in_ok-push-2.ensures.items c.in_ok-push.ensures.operator,
      one_placed _ _ _ _ _ _ _ c.loop.invariant.4 (omega (arith, e, t, k)) c.remove-device.ensures.value c.remove-device.ensures.items
          (c.number-number.ensures, c.left_of-left.ensures) c.in_ok-push-2.ensures.items,
    )

pub returns-clause-promised : goal.returns-clause-promised
returns-clause-promised g c =
    let e = c.loop.invariant.2 in
    let t = c.loop-test.false in
    let a = c.loop.auto.counter-end in
    let k = c.loop.devices.ok.0 in
    all_come c.args.orders.now _ _ _ c.loop.invariant.1 (omega (arith, e, t, a, k))

pub returns-clause-places : goal.returns-clause-places
returns-clause-places g c =
    let e = c.loop.invariant.2 in
    let t = c.loop-test.false in
    let a = c.loop.auto.counter-end in
    let k = c.loop.devices.ok.0 in
    all_placed _ _ _ c.loop.invariant.4 (omega (arith, e, t, a, k))
