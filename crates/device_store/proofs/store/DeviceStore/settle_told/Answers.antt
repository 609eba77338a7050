use Rattle.std.proofs.Common.{◌∙◌, sym, ap}
use Rattle.device_outside.specs.Outside.{done}
use Rattle.device_defs.specs.Contents.{contents}
use Rattle.device_defs.specs.Losses.{firm_told}
use Rattle.device_store.specs.State.{state_of, outside_of}
use Rattle.device_store.proofs.Firming.{not_firm}
use Rattle.device_store.proofs.Moves.{from_equal}
use Rattle.device_store.proofs.store.DeviceStore.settle_told.Goals as goal

pub returns-clause-run : goal.returns-clause-run
returns-clause-run g c =
    λ p. from_equal (λ i. i)
    (sym (ap (λ z. firm_told contents c.args.t z) (sym c.settle.ensures.state)
    ∙ not_firm contents c.args.t (state_of c.settle.new.self) (c.no_firm.ensures c.args.t)))
    (ap (λ x. outside_of p g.V.Volume.view x.volumes c.args.keep.now) c.settle.ensures.volume) done
