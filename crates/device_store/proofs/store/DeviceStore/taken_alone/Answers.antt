use Rattle.std.proofs.Common.{◌∙◌, ap, refl, sym}
use Rattle.device_outside.proofs.Runs.{ended}
use Rattle.device_defs.specs.Contents.{contents}
use Rattle.device_defs.specs.Writing.{first_a}
use Rattle.device_store.specs.State.{outside_of, state_of}
use Rattle.device_store.proofs.Moves.{from_equal, lands}
use Rattle.device_store.proofs.Writes.{none_taken, refused_by_a, taken_alone}
use Rattle.device_store.proofs.store.DeviceStore.taken_alone.Goals as goal

pub returns-then-done-clause-run : goal.returns-then-done-clause-run
returns-then-done-clause-run g c =
    let s = state_of c.args.self.now in
    let none = none_taken _ c.args.self.now.pair.held _ c.args.self.now.pair.b_there c.requires.single in
    λ p k bytes. from_equal (λ i. i) (sym (ap (first_a contents c.args.t bytes s) c.if-done.true ∙ taken_alone s c.args.t bytes none)) refl
    (lands (ap (λ x. outside_of p g.V.Volume.view x k) (sym c.taken_a.ensures.leaves.volume)) (ended (sym c.taken_a.ensures.state) refl))

pub returns-clause-run : goal.returns-clause-run
returns-clause-run g c =
    let s = state_of c.args.self.now in
    let none = none_taken _ c.args.self.now.pair.held _ c.args.self.now.pair.b_there c.requires.single in
    λ p k bytes. from_equal (λ i. i) (sym (ap (first_a contents c.args.t bytes s) c.if-done.false ∙ refused_by_a s c.args.t bytes c.requires.single none)) refl
    (lands (ap (λ x. outside_of p g.V.Volume.view x k) (sym c.refuse.ensures.leaves.volume)) (ended (sym c.refuse.ensures.state) refl))
