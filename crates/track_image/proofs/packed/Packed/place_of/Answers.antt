use Rattle.std.proofs.Common.{◌<◌, length, ◌∙◌, arith}
use Rattle.track_image.proofs.Packs.{given, place_here}
use Rattle.track_image.proofs.packed.Packed.place_of.Goals as goal

pub returns-then-i-len : goal.returns-then-i-len
returns-then-i-len c =
    let p = given c.self.inside.home c.self.inside.bytes.items c.self.inside.places.items c.args.self.now c.self.view_is
    c.self.invariant.0 in
    let there : c.args.i < length c.self.inside.places.items = omega (arith, c.self.inside.places.ok) in
    c.from.ensures ∙ place_here c.self.inside.home c.self.inside.bytes.items c.self.inside.places.items
    c.args.self.now.records c.args.i c.index.result.now p there c.index.ensures
