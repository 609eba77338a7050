use Rattle.std.proofs.Common.{◌≡◌, ◌+◌, ℕ, length, get_or, refl, ap, ◌∙◌, arith}
use Rattle.std.proofs.lemmas.List.{with_items_is}
use Rattle.std.specs.Vec.{with_items}
use Rattle.ckd_types.specs.declared.record.Track.{Track}
use Rattle.ckd_types.specs.Track.{empty_zero}
use Rattle.track_image.proofs.Places.{overwritten, updates, unpacked_is, repacked}
use Rattle.track_image.proofs.Packs.{given, whole_at, made_of, seen_as}
use Rattle.track_image.proofs.packed.Packed.overwrite.Goals as goal

pub write_areas-requires : goal.write_areas-requires
write_areas-requires c =
    let p = given c.self.inside.home c.self.inside.bytes.items c.self.inside.places.items c.args.self.now c.self.view_is
    c.self.invariant.0 in
    let w = whole_at c.self.inside.home c.self.inside.bytes.items c.self.inside.places.items c.args.self.now.records
    c.args.i c.index.result.now (empty_zero 0) p c.requires.place c.index.ensures in
    omega (arith, w.within, c.requires.key, c.requires.body, c.from-at.ensures, ap length c.as_mut_slice.ensures.value)

pub invariant_of-self : goal.invariant_of-self
invariant_of-self c =
    let p = given c.self.inside.home c.self.inside.bytes.items c.self.inside.places.items c.args.self.now c.self.view_is
    c.self.invariant.0 in
    let e = c.index.result.now in
    let made = updates c.self.inside.home c.self.inside.bytes.items c.self.inside.places.items c.args.self.now.records
    c.args.i e (empty_zero 0) c.args.key.now c.args.body.now p c.requires.place c.requires.key c.requires.body in
    let at : c.from-at.result ≡ get_or c.self.inside.places.items c.args.i e = c.from-at.ensures ∙ c.index.ensures in
    let written : c.write_areas.new.bytes ≡ overwritten (get_or c.self.inside.places.items c.args.i e + 8)
    c.args.key.now c.args.body.now c.self.inside.bytes.items =
    c.write_areas.ensures ∙ ap (λ (n : ℕ). overwritten (n + 8) c.args.key.now c.args.body.now c.as_mut_slice.result.now)
    at ∙ ap (overwritten (get_or c.self.inside.places.items c.args.i e + 8) c.args.key.now c.args.body.now)
    c.as_mut_slice.ensures.value in
    let kept : length c.write_areas.new.bytes ≡ c.self.inside.bytes.len =
    omega (arith, c.write_areas.auto.bytes, c.as_mut_slice.ensures.len) in
    let items = with_items_is c.self.inside.bytes c.write_areas.new.bytes kept in
    let changed = made_of c.self.inside.home (with_items c.self.inside.bytes c.write_areas.new.bytes).items
    c.self.inside.places.items _ c.self.inside.places.items _ (items ∙ written) refl made in
    (repacked c.self.inside.home _ c.self.inside.places.items _ changed, c.self.invariant.1)

pub returns : goal.returns
returns c =
    let p = given c.self.inside.home c.self.inside.bytes.items c.self.inside.places.items c.args.self.now c.self.view_is
    c.self.invariant.0 in
    let e = c.index.result.now in
    let made = updates c.self.inside.home c.self.inside.bytes.items c.self.inside.places.items c.args.self.now.records
    c.args.i e (empty_zero 0) c.args.key.now c.args.body.now p c.requires.place c.requires.key c.requires.body in
    let at : c.from-at.result ≡ get_or c.self.inside.places.items c.args.i e = c.from-at.ensures ∙ c.index.ensures in
    let written : c.write_areas.new.bytes ≡ overwritten (get_or c.self.inside.places.items c.args.i e + 8)
    c.args.key.now c.args.body.now c.self.inside.bytes.items =
    c.write_areas.ensures ∙ ap (λ (n : ℕ). overwritten (n + 8) c.args.key.now c.args.body.now c.as_mut_slice.result.now)
    at ∙ ap (overwritten (get_or c.self.inside.places.items c.args.i e + 8) c.args.key.now c.args.body.now)
    c.as_mut_slice.ensures.value in
    let kept : length c.write_areas.new.bytes ≡ c.self.inside.bytes.len =
    omega (arith, c.write_areas.auto.bytes, c.as_mut_slice.ensures.len) in
    let items = with_items_is c.self.inside.bytes c.write_areas.new.bytes kept in
    let changed = made_of c.self.inside.home (with_items c.self.inside.bytes c.write_areas.new.bytes).items
    c.self.inside.places.items _ c.self.inside.places.items _ (items ∙ written) refl made in
    seen_as (ap (λ (t : Track). t.home) c.self.view_is)
    (unpacked_is c.self.inside.home _ c.self.inside.places.items _ changed)
