use Rattle.std.proofs.Common.{◌≡◌, ◌≤◌, ◌+◌, ℕ, List, length, get_or, take, drop, sym, ap, subst, ◌∙◌, arith}
use Rattle.std.proofs.lemmas.List.{length-drop}
use Rattle.ckd_types.specs.Track.{empty_zero}
use Rattle.track_image.specs.declared.count.Count.{Count}
use Rattle.track_image.specs.Reading.{count_at, size_of}
use Rattle.track_image.proofs.Packs.{given, whole_at}
use Rattle.track_image.proofs.packed.Packed.bytes_of.Goals as goal

pub rest_of-requires : goal.rest_of-requires
rest_of-requires c =
    let p = given c.self.inside.home c.self.inside.bytes.items c.self.inside.places.items c.args.self.now c.self.view_is
    c.self.invariant.0 in
    let w = whole_at c.self.inside.home c.self.inside.bytes.items c.self.inside.places.items c.args.self.now.records
    c.args.i c.index.result.now (empty_zero 0) p c.requires c.index.ensures in
    omega (arith, w.within, c.from.ensures, ap length c.deref.ensures.value)

pub whole_of-requires : goal.whole_of-requires
whole_of-requires c =
    let p = given c.self.inside.home c.self.inside.bytes.items c.self.inside.places.items c.args.self.now c.self.view_is
    c.self.invariant.0 in
    let w = whole_at c.self.inside.home c.self.inside.bytes.items c.self.inside.places.items c.args.self.now.records
    c.args.i c.index.result.now (empty_zero 0) p c.requires c.index.ensures in
    let rest = drop c.index.result.now c.self.inside.bytes.items in
    let is : c.rest_of.result.now ≡ rest = c.rest_of.ensures ∙ ap (λ (n : ℕ). drop n c.deref.result.now) c.from.ensures
    ∙ ap (drop c.index.result.now) c.deref.ensures.value in
    let counted_long = λ (k : Count). 8 + (k.key + k.body) ≤ length rest in
    subst (λ (b : List ℕ). 8 + ((count_at b).key + (count_at b).body) ≤ length b) (sym is)
    (subst counted_long (sym w.count) (omega (
      arith,
      w.within,
      length-drop c.index.result.now
          c.self.inside.bytes.items,
    )))

pub returns : goal.returns
returns c =
    let p = given c.self.inside.home c.self.inside.bytes.items c.self.inside.places.items c.args.self.now c.self.view_is
    c.self.invariant.0 in
    let w = whole_at c.self.inside.home c.self.inside.bytes.items c.self.inside.places.items c.args.self.now.records
    c.args.i c.index.result.now (empty_zero 0) p c.requires c.index.ensures in
    let rest = drop c.index.result.now c.self.inside.bytes.items in
    let is : c.rest_of.result.now ≡ rest = c.rest_of.ensures ∙ ap (λ (n : ℕ). drop n c.deref.result.now) c.from.ensures
    ∙ ap (drop c.index.result.now) c.deref.ensures.value in
    let size : 8 + ((count_at rest).key + (count_at rest).body)
    ≡ size_of (get_or c.args.self.now.records c.args.i (empty_zero 0)) =
    ap (λ (k : Count). 8 + (k.key + k.body)) w.count ∙ omega arith in
    c.whole_of.ensures ∙ ap (λ (b : List ℕ). take (8 + ((count_at b).key + (count_at b).body)) b) is
    ∙ ap (λ (n : ℕ). take n rest) size ∙ w.front
