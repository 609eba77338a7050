use Rattle.std.proofs.Common.{sym, subst, arith}
use Rattle.std.proofs.lemmas.List.Elements.{All-head, All-rest}
use Rattle.std.specs.Prelude.{All}
use Rattle.std.specs.List.{AllZip}
use Rattle.std.specs.Vec.Iter.{into_iter_items}
use Rattle.device_turn.specs.Seating.{IsHome, Rests}
use Rattle.path_threads.specs.Places.{Allows, IsSpareAt}
use Rattle.path_threads.proofs.Holding.{allows_rests, home_rest, home_rests}
use Rattle.path_threads.proofs.Sparing.{spare_rests}
use Rattle.path_threads.proofs.Walking.{rests_on, same_back, zip_long, zip_on}
use Rattle.path_threads.proofs.operator.operate.Goals as goal

pub loop-order-init : goal.loop-order-init
loop-order-init g c = (
  home_rest _ _ c.requires.home,
  subst (λ os. All (IsSpareAt g.M.MakeVolume.makes c.args.places.now c.args.seats.items) os) (sym c.into_iter-order-iterator.ensures.into_iter_gives.0) c.requires.spare,
)

pub obey-requires-clause-home : goal.obey-requires-clause-home
obey-requires-clause-home g c =
    subst (λ ss. AllZip IsHome c.args.turns.now ss) (sym c.deref_mut.ensures.value)
    (zip_on IsHome Rests IsHome home_rests _ _ _ c.requires.home c.loop-order.invariant.0)

pub obey-requires-clause-allows : goal.obey-requires-clause-allows
obey-requires-clause-allows g c =
    subst (λ ss. AllZip Allows c.args.places.now ss) (sym c.deref_mut.ensures.value)
    (zip_on Allows Rests Allows allows_rests _ _ _ c.requires.allows c.loop-order.invariant.0)

pub obey-requires-clause-spare : goal.obey-requires-clause-spare
obey-requires-clause-spare g c =
    let order = c.in-Some.order in
    let rest = into_iter_items c.next.new.self in
    let all = subst (λ os. All (IsSpareAt g.M.MakeVolume.makes c.args.places.now c.args.seats.items) os) c.in-Some.ensures.steps.0 c.loop-order.invariant.1 in
    subst (λ ss. IsSpareAt g.M.MakeVolume.makes c.args.places.now ss order) (sym c.deref_mut.ensures.value)
    (spare_rests g.M.MakeVolume.makes c.args.places.now c.args.seats.items c.loop-order.seats.items order c.loop-order.invariant.0 (All-head (IsSpareAt g.M.MakeVolume.makes c.args.places.now c.args.seats.items) order rest all))

pub loop-order-preserved : goal.loop-order-preserved
loop-order-preserved g c =
    let new = c.obey.new.seats in
    let behind = c.loop-order.seats in
    let on = subst (λ ss. AllZip Rests ss new) c.deref_mut.ensures.value c.in_ok-obey.ensures in
    let k = behind.ok.0 in (
      subst (λ ss. AllZip Rests c.args.seats.items ss) (sym (same_back behind.len new behind.items (omega (arith, k)) (zip_long Rests behind.items new on)))
          (zip_on Rests Rests Rests rests_on _ _ _ c.loop-order.invariant.0 on),
      All-rest (IsSpareAt g.M.MakeVolume.makes c.args.places.now c.args.seats.items) c.in-Some.order _ _ c.in-Some.ensures.steps.0 c.loop-order.invariant.1,
    )
