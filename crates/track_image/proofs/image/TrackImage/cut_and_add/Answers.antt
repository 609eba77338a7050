use Rattle.std.proofs.Common.{◌≡◌, ◌+◌, length, take, sym, ap, subst, ◌∙◌, refl, arith}
use Rattle.ckd_types.specs.declared.record.Record.{Record}
use Rattle.ckd_types.specs.declared.record.Track.{Track}
use Rattle.ckd_types.specs.Geometry.{cost}
use Rattle.ckd_types.specs.Track.{IsRecord, Fits, cost_of}
use Rattle.track_image.specs.Image.{Image}
use Rattle.track_image.proofs.Sizes.{fits_behind, formats}
use Rattle.track_image.proofs.image.TrackImage.cut_and_add.Goals as goal

pub cut_and_add-requires-clause-short : goal.cut_and_add-requires-clause-short
cut_and_add-requires-clause-short c =
    let g = c.self.inside.geometry in
    let rs = c.self.inside.packed.records in
    let spent : c.cost_to.result ≡ cost_of g (take (c.args.after + 1) rs) =
    c.cost_to.ensures.value ∙ ap (λ (i : Image). cost_of i.geometry (take (c.args.after + 1) i.track.records))
    (sym c.self.view_is) in
    let units : c.cost.result ≡ cost g (length c.new.result.key) (length c.new.result.body) =
    c.cost.ensures ∙ ap (λ (r : Record). cost g (length r.key) (length r.body)) (sym c.new.ensures) in
    fits_behind g rs c.args.after c.new.result c.self.invariant.0.zero
    (omega (arith, spent, units, c.if-spent-capacity.false, c.capacity.ensures))

pub invariant_of-self-2 : goal.invariant_of-self-2
invariant_of-self-2 c =
    let g = c.self.inside.geometry in
    let rs = c.self.inside.packed.records in
    let spent : c.cost_to.result ≡ cost_of g (take (c.args.after + 1) rs) =
    c.cost_to.ensures.value ∙ ap (λ (i : Image). cost_of i.geometry (take (c.args.after + 1) i.track.records))
    (sym c.self.view_is) in
    let units : c.cost.result ≡ cost g (length c.new.result.key) (length c.new.result.body) =
    c.cost.ensures ∙ ap (λ (r : Record). cost g (length r.key) (length r.body)) (sym c.new.ensures) in
    let same : c.new.result ≡ c.args.added.now = c.new.ensures
    ∙ rw (c.as_slice-key.ensures, c.as_slice-body.ensures) refl in
    let ranges : IsRecord c.new.result = subst IsRecord (sym same) c.requires.ranges in
    let made = formats g c.self.inside.packed c.args.after c.new.result c.self.invariant.0 ranges
    (omega (arith, spent, units, c.if-spent-capacity.false, c.capacity.ensures)) in
    let sum = λ (t : Track). Fits g t × (c.cost_to.result + c.cost.result ≡ cost_of g t.records) in
    subst sum (sym c.in_ok-cut_and_add.ensures.added) (made.0, omega (arith, spent, units, made.1))
