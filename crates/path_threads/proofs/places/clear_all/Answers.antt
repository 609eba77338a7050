use Rattle.std.proofs.Common.{arith}
use Rattle.device_turn.specs.Seating.{IsHome}
use Rattle.path_threads.proofs.Setting.{all_left, none_left, one_left}
use Rattle.path_threads.proofs.Walking.{zip_none}
use Rattle.path_threads.proofs.places.clear_all.Goals as goal

pub loop-init : goal.loop-init
loop-init g c = (c.requires, λ most. none_left most _ _ c.new-devices.ensures.items, (let e = c.len-end.ensures in omega (arith, e)))

pub loop-preserved : goal.loop-preserved
loop-preserved g c = (
  c.pop-setting.ensures.set,
  λ most. one_left most _ _ _ _ _ _ _ (c.loop.invariant.1 most) c.pop-setting.ensures.operator c.clear.ensures c.in_ok-insert.ensures.items,
  (let f = c.pop-setting.ensures.fewer in let e = c.loop.invariant.2 in omega (arith, f, e)),
)

pub returns : goal.returns
returns g c most =
    let e = c.loop.invariant.2 in
    let t = c.loop-test.false in
    let a = c.loop.auto.counter-end in
    let k = c.loop.table.turns.ok.0 in
    all_left most _ _ _ (c.loop.invariant.1 most) (zip_none IsHome _ _ c.loop.invariant.0.operator (omega (arith, e, t, a, k)))
