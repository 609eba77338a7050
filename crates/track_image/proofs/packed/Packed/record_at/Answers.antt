use Rattle.std.proofs.Common.{◌≡◌, ◌≤◌, ◌+◌, ℕ, List, length, drop, sym, ap, subst, ◌∙◌, arith}
use Rattle.std.proofs.lemmas.List.{length-drop}
use Rattle.ckd_types.specs.declared.record.Track.{Track}
use Rattle.ckd_types.specs.Track.{IsRecord, empty_zero}
use Rattle.track_image.specs.declared.count.Count.{Count}
use Rattle.track_image.specs.Packed.{unpacked, record_from}
use Rattle.track_image.specs.Reading.{count_at}
use Rattle.track_image.proofs.Packs.{given, as_many, whole_at, seen_at}
use Rattle.track_image.proofs.packed.Packed.record_at.Goals as goal

pub rest_of-requires : goal.rest_of-requires
rest_of-requires c =
    let p = given c.self.inside.home c.self.inside.bytes.items c.self.inside.places.items c.args.self.now c.self.view_is
    c.self.invariant.0 in
    let w = whole_at c.self.inside.home c.self.inside.bytes.items c.self.inside.places.items c.args.self.now.records
    c.args.i c.index.result.now (empty_zero 0) p c.requires c.index.ensures in
    omega (arith, w.within, c.from.ensures, ap length c.deref.ensures.value)

pub record_of-requires-clause-within : goal.record_of-requires-clause-within
record_of-requires-clause-within c =
    let p = given c.self.inside.home c.self.inside.bytes.items c.self.inside.places.items c.args.self.now c.self.view_is
    c.self.invariant.0 in
    let w = whole_at c.self.inside.home c.self.inside.bytes.items c.self.inside.places.items c.args.self.now.records
    c.args.i c.index.result.now (empty_zero 0) p c.requires c.index.ensures in
    let rest = drop c.index.result.now c.self.inside.bytes.items in
    let is : c.rest_of.result.now ≡ rest = c.rest_of.ensures ∙ ap (λ (n : ℕ). drop n c.deref.result.now) c.from.ensures
    ∙ ap (drop c.index.result.now) c.deref.ensures.value in
    let counted_long = λ (k : Count). 8 + (k.key + k.body) ≤ length rest in
    subst (λ (b : List ℕ). 8 + ((count_at b).key + (count_at b).body) ≤ length b) (sym is)
    (subst counted_long (sym w.count) (omega (
      arith,
      w.within,
      length-drop c.index.result.now
          c.self.inside.bytes.items,
    )))

pub record_of-requires-clause-ranges : goal.record_of-requires-clause-ranges
record_of-requires-clause-ranges c =
    let p = given c.self.inside.home c.self.inside.bytes.items c.self.inside.places.items c.args.self.now c.self.view_is
    c.self.invariant.0 in
    let many = as_many c.self.inside.home c.self.inside.bytes.items c.self.inside.places.items c.args.self.now.records
    p in
    let are : unpacked c.self.inside.bytes.items c.self.inside.places.items ≡ c.args.self.now.records =
    ap (λ (t : Track). t.records) c.self.view_is in
    let seen = seen_at c.self.inside.bytes.items c.self.inside.places.items c.args.self.now.records c.args.i
    c.index.result.now (empty_zero 0) are (omega (arith, many, c.requires)) c.index.ensures in
    let is : c.rest_of.result.now ≡ drop c.index.result.now c.self.inside.bytes.items =
    c.rest_of.ensures ∙ ap (λ (n : ℕ). drop n c.deref.result.now) c.from.ensures
    ∙ ap (drop c.index.result.now) c.deref.ensures.value in
    subst (λ (b : List ℕ). IsRecord (record_from b)) (sym is)
    (subst IsRecord (sym seen) (p.ranges c.args.i (empty_zero 0) c.requires))
