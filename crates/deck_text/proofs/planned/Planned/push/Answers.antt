use Rattle.std.proofs.Common.{◌≡◌, ◌<◌, ◌∙◌, ◌++◌, ◌∷◌, [], ℕ, ap, arith, length, map}
use Rattle.deck_plan.specs.Plans.{plan_of}
use Rattle.deck_text.specs.Places.{planned_as, planned_at}
use Rattle.deck_text.proofs.PlanLemmas.{has_room}
use Rattle.deck_text.proofs.PlaceLemmas.{all_planned, placed, still_planned}
use Rattle.deck_text.proofs.planned.Planned.push.Goals as goal

pub push-requires : goal.push-requires
push-requires c =
    let at : c.from.result ≡ c.args.planned.device = cc in
    let small : c.from.result < 16 = omega (arith, at, c.get.ensures.range, c.get.ensures.value) in
    has_room (map (planned_at c.self.inside.plans.items) c.self.inside.places.items) c.self.inside.plans.items c.from.result c.args.planned.path
    c.index_mut-plans.result.now c.self.invariant.plans_of_all small c.index_mut-plans.ensures.value (rw c.self.view_is c.requires)

pub invariant_of-self-2 : goal.invariant_of-self-2
invariant_of-self-2 c =
    let at : c.from.result ≡ c.args.planned.device = cc in
    let small : c.from.result < 16 = omega (arith, at, c.get.ensures.range, c.get.ensures.value) in
    rw (placed c.self.inside.places.items c.push_reserved.new.self.items c.args.planned.path c.from.result c.args.planned.device c.len-index.result
    (length (plan_of c.index_mut-plans.result.now c.args.planned.path)) (cc (c.push_reserved.ensures.items, c.in_ok-reserve.ensures.items)) at c.len-index.ensures.value)
    (still_planned c.self.inside.places.items c.self.inside.plans.items c.from.result c.args.planned.path c.index_mut-plans.result.now c.push.new.self
    c.args.planned.program c.self.invariant small c.index_mut-plans.ensures.value c.in_ok-push.ensures.ok c.in_ok-push.ensures.behind)

pub returns-clause-ok : goal.returns-clause-ok
returns-clause-ok c =
    let at : c.from.result ≡ c.args.planned.device = cc in
    let small : c.from.result < 16 = omega (arith, at, c.get.ensures.range, c.get.ensures.value) in
    rw (
      placed c.self.inside.places.items c.push_reserved.new.self.items c.args.planned.path c.from.result c.args.planned.device c.len-index.result
          (length (plan_of c.index_mut-plans.result.now c.args.planned.path)) (cc (c.push_reserved.ensures.items, c.in_ok-reserve.ensures.items)) at c.len-index.ensures.value,
      ← c.self.view_is,
    )
    (all_planned c.self.inside.places.items c.self.inside.plans.items c.from.result c.args.planned.path c.index_mut-plans.result.now c.push.new.self
    c.args.planned.program c.self.invariant small c.index_mut-plans.ensures.value c.in_ok-push.ensures.ok c.in_ok-push.ensures.behind
    ∙ ap (λ (k : ℕ). map (planned_at c.self.inside.plans.items) c.self.inside.places.items ++ planned_as c.args.planned.path k c.args.planned.program ∷ []) at)
