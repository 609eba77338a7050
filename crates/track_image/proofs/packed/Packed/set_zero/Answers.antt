use Rattle.std.specs.Vec.{vec_capacity}
use Rattle.std.proofs.Common.{◌≤◌, length, take, ap, arith}
use Rattle.std.proofs.lemmas.List.{length-take}
use Rattle.ckd_types.specs.declared.record.Track.{Track}
use Rattle.track_image.specs.Packed.{HasRoom}
use Rattle.track_image.proofs.Places.{restarts, unpacked_is, repacked}
use Rattle.track_image.proofs.Packs.{given, made_of, seen_as}
use Rattle.track_image.proofs.packed.Packed.set_zero.Goals as goal

pub invariant_of-self : goal.invariant_of-self
invariant_of-self c =
    let p = given c.self.inside.home c.self.inside.bytes.items c.self.inside.places.items c.args.self.now c.self.view_is
    c.self.invariant.0 in
    let r = c.args.zero.now in
    let made = restarts c.self.inside.home c.self.inside.bytes.items c.self.inside.places.items c.args.self.now.records
    r p c.requires.ranges c.requires.key c.requires.body in
    let changed = made_of c.self.inside.home c.end_with.new.bytes.items c.truncate.new.self.items _ _ _
    c.end_with.ensures.items c.truncate.ensures.items made in
    let few : length (take 1 c.self.inside.places.items) ≤ 1 =
    omega (arith, length-take 1 c.self.inside.places.items) in
    let room : HasRoom c.truncate.new.self.items (vec_capacity c.end_with.new.bytes) =
    record {
      least = omega (arith, c.self.invariant.1.least, c.end_with.ensures.room);
      most =
          λ h. absurd (omega (arith, h, few, ap length c.truncate.ensures.items));
    } in
    (repacked c.self.inside.home _ _ _ changed, room)

pub returns : goal.returns
returns c =
    let p = given c.self.inside.home c.self.inside.bytes.items c.self.inside.places.items c.args.self.now c.self.view_is
    c.self.invariant.0 in
    let r = c.args.zero.now in
    let made = restarts c.self.inside.home c.self.inside.bytes.items c.self.inside.places.items c.args.self.now.records
    r p c.requires.ranges c.requires.key c.requires.body in
    let changed = made_of c.self.inside.home c.end_with.new.bytes.items c.truncate.new.self.items _ _ _
    c.end_with.ensures.items c.truncate.ensures.items made in
    seen_as (ap (λ (t : Track). t.home) c.self.view_is) (unpacked_is c.self.inside.home _ _ _ changed)
