use Rattle.std.proofs.Common.{◌∙◌, ◌*◌, ap}
use Rattle.device_defs.specs.Contents.{contents}
use Rattle.device_defs.specs.Losses.{all_firm_told, over, settled_but, side_lost}
use Rattle.device_store.specs.State.{state_of, outside_of}
use Rattle.device_store.proofs.Moves.{from_equal}
use Rattle.device_store.proofs.store.DeviceStore.lose_side.Goals as goal

pub returns-clause-run : goal.returns-clause-run
unfolding side_lost
returns-clause-run g c =
    λ p. from_equal (λ i. i)
    (ap (λ n. all_firm_told contents (n * 15) (over (n * 15) (settled_but contents c.args.writing) (state_of c.down.new.self))) c.down.ensures.leaves.cylinders
    ∙ ap (λ y. all_firm_told contents (c.args.self.now.cylinders * 15) (over (c.args.self.now.cylinders * 15) (settled_but contents c.args.writing) y))
    c.down.ensures.state)
    (ap (λ x. outside_of p g.V.Volume.view x c.args.keep.now) c.down.ensures.leaves.volume) (c.settle_all.ensures.run p)
