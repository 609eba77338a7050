use Rattle.std.specs.Vec.{vec_capacity}
use Rattle.std.proofs.Common.{◌≡◌, ◌+◌, List, [], ◌∷◌, ◌++◌, ℕ, length, take, ap, ◌∙◌, arith}
use Rattle.ckd_types.specs.declared.record.Track.{Track}
use Rattle.ckd_types.specs.Track.{record_bytes, end_mark}
use Rattle.track_image.specs.Packed.{HasRoom}
use Rattle.track_image.proofs.Places.{adds, unpacked_is, repacked}
use Rattle.track_image.proofs.Packs.{given, behind_at, made_of, seen_as}
use Rattle.track_image.proofs.packed.Packed.cut_and_add.Goals as goal

pub end_with-requires-clause-place : goal.end_with-requires-clause-place
end_with-requires-clause-place c =
    let p = given c.self.inside.home c.self.inside.bytes.items c.self.inside.places.items c.args.self.now c.self.view_is
    c.self.invariant.0 in
    let ends = behind_at c.self.inside.home c.self.inside.bytes.items c.self.inside.places.items c.args.self.now.records
    (c.args.after + 1) c.place_of-end.result p c.place_of-end.ensures in
    omega (arith, ends.long, ap length c.make_room.ensures.items)

pub invariant_of-self-2 : goal.invariant_of-self-2
invariant_of-self-2 c =
    let p = given c.self.inside.home c.self.inside.bytes.items c.self.inside.places.items c.args.self.now c.self.view_is
    c.self.invariant.0 in
    let r = c.args.added.now in
    let end = c.place_of-end.result in
    let made = adds c.self.inside.home c.self.inside.bytes.items c.self.inside.places.items c.args.self.now.records
    c.args.after end r p c.requires.place c.requires.ranges c.place_of-end.ensures
    (omega (arith, c.requires.short, c.place_of-end.ensures)) in
    let bytes_are : c.end_with.new.bytes.items ≡ take end c.self.inside.bytes.items ++ (record_bytes r ++ end_mark) =
    c.end_with.ensures.items ∙ ap (λ (x : List ℕ). take end x ++ (record_bytes r ++ end_mark))
    c.make_room.ensures.items in
    let places_are : c.put_behind.new.places.items ≡ take (c.args.after + 1) c.self.inside.places.items ++ end ∷ [] =
    c.put_behind.ensures ∙ ap (λ (x : List ℕ). take (c.args.after + 1) x ++ end ∷ []) c.make_place.ensures.same in
    let changed = made_of c.self.inside.home c.end_with.new.bytes.items c.put_behind.new.places.items _ _ _ bytes_are
    places_are made in
    let room : HasRoom c.put_behind.new.places.items (vec_capacity c.end_with.new.bytes) =
    record {
      least = omega (arith, c.in_ok-make_room.ensures.made, c.end_with.ensures.room);
      most =
          λ _. omega (arith, c.in_ok-make_room.ensures.made, c.end_with.ensures.room);
    } in
    (repacked c.self.inside.home _ _ _ changed, room)

pub returns-clause-added : goal.returns-clause-added
returns-clause-added c =
    let p = given c.self.inside.home c.self.inside.bytes.items c.self.inside.places.items c.args.self.now c.self.view_is
    c.self.invariant.0 in
    let r = c.args.added.now in
    let end = c.place_of-end.result in
    let made = adds c.self.inside.home c.self.inside.bytes.items c.self.inside.places.items c.args.self.now.records
    c.args.after end r p c.requires.place c.requires.ranges c.place_of-end.ensures
    (omega (arith, c.requires.short, c.place_of-end.ensures)) in
    let bytes_are : c.end_with.new.bytes.items ≡ take end c.self.inside.bytes.items ++ (record_bytes r ++ end_mark) =
    c.end_with.ensures.items ∙ ap (λ (x : List ℕ). take end x ++ (record_bytes r ++ end_mark))
    c.make_room.ensures.items in
    let places_are : c.put_behind.new.places.items ≡ take (c.args.after + 1) c.self.inside.places.items ++ end ∷ [] =
    c.put_behind.ensures ∙ ap (λ (x : List ℕ). take (c.args.after + 1) x ++ end ∷ []) c.make_place.ensures.same in
    let changed = made_of c.self.inside.home c.end_with.new.bytes.items c.put_behind.new.places.items _ _ _ bytes_are
    places_are made in
    seen_as (ap (λ (t : Track). t.home) c.self.view_is) (unpacked_is c.self.inside.home _ _ _ changed)
