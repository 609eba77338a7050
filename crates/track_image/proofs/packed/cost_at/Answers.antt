use Rattle.std.proofs.Common.{ℕ, ◌≡◌, get_or, drop, ap, ◌∙◌, arith}
use Rattle.std.proofs.lemmas.List.Sums.{sum_by_more_le}
use Rattle.ckd_types.specs.Geometry.{cost}
use Rattle.track_image.specs.declared.count.Count.{Count}
use Rattle.track_image.specs.Reading.{count_at}
use Rattle.track_image.proofs.packed.cost_at.Goals as goal

pub overflow_add-total : goal.overflow_add-total
overflow_add-total c =
    let units = λ (n : ℕ). cost c.args.geometry (count_at (drop n c.args.bytes.now)).key
    (count_at (drop n c.args.bytes.now)).body in
    let more = sum_by_more_le units c.args.places.now c.loop-place.place-index 0 c.loop-place-test.true in
    let here : c.cost-total.result ≡ units (get_or c.args.places.now c.loop-place.place-index 0) =
    c.cost-total.ensures ∙ ap (λ (k : Count). cost c.args.geometry k.key k.body)
    (c.count_at-count.ensures ∙ ap count_at (c.rest_of.ensures
    ∙ ap (λ (n : ℕ). drop n c.args.bytes.now) c.from.ensures)) in
    omega (arith, more, here, c.loop-place.invariant, c.requires.bound)
