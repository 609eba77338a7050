use Rattle.std.proofs.Common.{◌∙◌, ap, refl, sym}
use Rattle.device_outside.specs.Outside.{done}
use Rattle.device_defs.specs.Contents.{contents}
use Rattle.device_defs.specs.Losses.{firm_told}
use Rattle.device_store.specs.State.{state_of}
use Rattle.device_store.proofs.Firming.{not_firm}
use Rattle.device_store.proofs.Moves.{from_equal}
use Rattle.device_store.proofs.Settling.{goes, not_first, stands}
use Rattle.device_store.proofs.store.DeviceStore.settle_loose.Goals as goal

pub returns-then-stands-clause-run : goal.returns-then-stands-clause-run
returns-then-stands-clause-run g c =
    let s = state_of c.args.self.now in
    λ p. from_equal (λ i. i) (sym (ap (firm_told contents c.args.t) (stands s c.args.t (sym c.stands.ensures ∙ c.if-stands.true))
    ∙ not_firm contents c.args.t s (c.no_firm.ensures c.args.t))) refl done

pub returns-clause-run : goal.returns-clause-run
returns-clause-run g c =
    λ p. from_equal (firm_told contents c.args.t) (sym (goes (state_of c.args.self.now) c.args.t (sym c.stands.ensures ∙ c.if-stands.false))) refl
    (c.harden_told.ensures.run p)

pub harden_told-requires-clause-here : goal.harden_told-requires-clause-here
harden_told-requires-clause-here g c = not_first _ _ _ (sym c.stands.ensures ∙ c.if-stands.false)
