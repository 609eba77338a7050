use Rattle.std.proofs.Common.{length, drop, ap, ◌∙◌, arith}
use Rattle.track_image.proofs.Packs.{given, behind_at}
use Rattle.track_image.proofs.packed.Packed.bytes_behind.Goals as goal

pub rest_of-requires : goal.rest_of-requires
rest_of-requires c =
    let p = given c.self.inside.home c.self.inside.bytes.items c.self.inside.places.items c.args.self.now c.self.view_is
    c.self.invariant.0 in
    let ends = behind_at c.self.inside.home c.self.inside.bytes.items c.self.inside.places.items c.args.self.now.records
    c.args.i c.place_of.result p c.place_of.ensures in
    omega (arith, ends.long, ap length c.deref.ensures.value)

pub returns-clause-value : goal.returns-clause-value
returns-clause-value c =
    let p = given c.self.inside.home c.self.inside.bytes.items c.self.inside.places.items c.args.self.now c.self.view_is
    c.self.invariant.0 in
    let ends = behind_at c.self.inside.home c.self.inside.bytes.items c.self.inside.places.items c.args.self.now.records
    c.args.i c.place_of.result p c.place_of.ensures in
    c.rest_of.ensures ∙ ap (drop c.place_of.result) c.deref.ensures.value ∙ ends.rest
