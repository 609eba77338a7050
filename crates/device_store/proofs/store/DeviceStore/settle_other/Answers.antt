use Rattle.std.proofs.Common.{◌∙◌, ap, refl, sym}
use Rattle.device_outside.specs.Outside.{done}
use Rattle.device_defs.specs.Contents.{contents}
use Rattle.device_defs.specs.Losses.{firm_told}
use Rattle.device_store.specs.State.{state_of}
use Rattle.device_store.proofs.Firming.{not_firm}
use Rattle.device_store.proofs.Moves.{from_equal}
use Rattle.device_store.proofs.Settling.{others_go, written_stays}
use Rattle.device_store.proofs.store.DeviceStore.settle_other.Goals as goal

pub returns-then-is_written-clause-run : goal.returns-then-is_written-clause-run
returns-then-is_written-clause-run g c =
    let s = state_of c.args.self.now in
    λ p. from_equal (λ i. i) (sym (ap (firm_told contents c.args.t)
    (written_stays c.args.writing.now c.args.t s (sym c.is_written.ensures ∙ c.if-is_written.true))
    ∙ not_firm contents c.args.t s (c.no_firm.ensures c.args.t))) refl done

pub returns-clause-run : goal.returns-clause-run
returns-clause-run g c =
    λ p. from_equal (firm_told contents c.args.t) (sym
    (others_go c.args.writing.now c.args.t (state_of c.args.self.now) (sym c.is_written.ensures ∙ c.if-is_written.false))) refl
    (c.settle_told.ensures.run p)
