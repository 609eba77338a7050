use Rattle.std.proofs.Common.{◌∙◌, ◌*◌, sym, ap}
use Rattle.device_outside.specs.Outside.{done}
use Rattle.device_defs.specs.Contents.{contents}
use Rattle.device_defs.specs.Losses.{all_firm_told}
use Rattle.device_store.specs.State.{state_of, outside_of}
use Rattle.device_store.proofs.Moves.{from_equal}
use Rattle.device_store.proofs.Sweeps.{none_firm}
use Rattle.device_store.proofs.store.DeviceStore.lose_by.Goals as goal

pub returns-in-Cache-clause-run : goal.returns-in-Cache-clause-run
returns-in-Cache-clause-run g c =
    λ p. rw c.in-Cache.is (from_equal (λ i. i)
    (sym (ap (λ z. all_firm_told contents (c.args.self.now.cylinders * 15) z) (sym c.lose_cache.ensures.state)
    ∙ none_firm contents (c.args.self.now.cylinders * 15) (state_of c.lose_cache.new.self) c.no_firm.ensures))
    (ap (λ x. outside_of p g.V.Volume.view x c.args.keep.now) c.lose_cache.ensures.leaves.volume) done)
