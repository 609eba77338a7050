use Rattle.std.proofs.Common.{◌≤◌, ◌+◌, ℕ, length, ◌∙◌}
use Rattle.std.proofs.lemmas.List.Elements.{All-take, All-drop}
use Rattle.track_image.proofs.Packs.{given, all_within, cost_until}
use Rattle.track_image.proofs.packed.Packed.cost_to.Goals as goal

pub cost_at-requires-clause-within : goal.cost_at-requires-clause-within
cost_at-requires-clause-within c =
    let p = given c.self.inside.home c.self.inside.bytes.items c.self.inside.places.items c.args.self.now c.self.view_is
    c.self.invariant.0 in
    let within = λ (n : ℕ). n + 8 ≤ length c.self.inside.bytes.items in
    rw (c.deref.ensures.value, c.deref-2.ensures.value)
    (All-take within _ _ (All-drop within 1 c.self.inside.places.items
    (all_within c.self.inside.home c.self.inside.bytes.items c.self.inside.places.items c.args.self.now.records p)))

pub cost_at-requires-clause-bound : goal.cost_at-requires-clause-bound
cost_at-requires-clause-bound c =
    let p = given c.self.inside.home c.self.inside.bytes.items c.self.inside.places.items c.args.self.now c.self.view_is
    c.self.invariant.0 in
    rw (c.deref.ensures.value, c.deref-2.ensures.value)
    (rw (cost_until c.args.geometry c.self.inside.home c.self.inside.bytes.items c.self.inside.places.items
    c.args.self.now.records c.args.after p) c.requires.bound)

pub returns : goal.returns
returns c =
    let p = given c.self.inside.home c.self.inside.bytes.items c.self.inside.places.items c.args.self.now c.self.view_is
    c.self.invariant.0 in
    let total = rw (c.deref.ensures.value, c.deref-2.ensures.value) at c.cost_at.ensures in
    total ∙ cost_until c.args.geometry c.self.inside.home c.self.inside.bytes.items c.self.inside.places.items
    c.args.self.now.records c.args.after p
