use Rattle.std.proofs.Common.{◌≡◌, ap, ◌∙◌}
use Rattle.ckd_types.specs.declared.record.Track.{Track}
use Rattle.track_image.specs.Packed.{unpacked}
use Rattle.track_image.proofs.Packs.{given, all_within, finds}
use Rattle.track_image.proofs.packed.Packed.find.Goals as goal

pub find_at-requires : goal.find_at-requires
find_at-requires c =
    let p = given c.self.inside.home c.self.inside.bytes.items c.self.inside.places.items c.args.self.now c.self.view_is
    c.self.invariant.0 in
    rw (c.deref.ensures.value, c.deref-2.ensures.value)
    (all_within c.self.inside.home c.self.inside.bytes.items c.self.inside.places.items c.args.self.now.records p)

pub returns-clause-found : goal.returns-clause-found
returns-clause-found c =
    let are : unpacked c.self.inside.bytes.items c.self.inside.places.items ≡ c.args.self.now.records =
    ap (λ (t : Track). t.records) c.self.view_is in
    let found = rw (c.deref.ensures.value, c.deref-2.ensures.value) at c.find_at.ensures in
    found ∙ finds c.self.inside.bytes.items c.self.inside.places.items c.args.self.now.records c.args.id are
