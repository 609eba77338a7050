use Rattle.std.proofs.Common.{◌∙◌, ap, sym}
use Rattle.device_outside.specs.Outside.{done}
use Rattle.device_defs.specs.Contents.{contents}
use Rattle.device_defs.specs.Losses.{firm_told, settled, stale_everywhere}
use Rattle.device_store.specs.State.{state_of, outside_of}
use Rattle.device_store.proofs.Firming.{not_firm}
use Rattle.device_store.proofs.Moves.{from_equal}
use Rattle.device_store.proofs.Settling.{patch_open, patch_settled}
use Rattle.device_store.proofs.store.DeviceStore.lose_patch.Goals as goal

pub returns-then-not-has-clause-run : goal.returns-then-not-has-clause-run
returns-then-not-has-clause-run g c = λ p. rw (← c.has.ensures, c.if-not-has.true, c.no_firm.ensures c.args.t) done

pub returns-then-is_half_open-clause-run : goal.returns-then-is_half_open-clause-run
returns-then-is_half_open-clause-run g c =
    let s = state_of c.args.self.now in
    λ p. from_equal (λ i. i)
    (sym (ap (firm_told contents c.args.t) (patch_open s c.args.t (sym c.has.ensures ∙ c.if-not-has.false)
    (sym c.is_half_open.ensures ∙ c.if-is_half_open.true) ∙ sym c.give_up_patch.ensures.state)
    ∙ not_firm contents c.args.t (state_of c.give_up_patch.new.self) (c.no_firm-then-is_half_open.ensures c.args.t)))
    (ap (λ x. outside_of p g.V.Volume.view x.volumes c.args.keep.now) c.give_up_patch.ensures.volume) done

pub returns-clause-run : goal.returns-clause-run
returns-clause-run g c =
    let s = state_of c.args.self.now in
    λ p. from_equal (λ i. i)
    (ap (λ z. firm_told contents c.args.t (settled contents z c.args.t))
    (c.stale_everywhere.ensures.state ∙ ap (λ z. stale_everywhere z c.args.t) c.give_up_patch-2.ensures.state)
    ∙ sym (ap (firm_told contents c.args.t) (patch_settled s c.args.t (sym c.has.ensures ∙ c.if-not-has.false)
    (sym c.is_half_open.ensures ∙ c.if-is_half_open.false))))
    (ap (λ x. outside_of p g.V.Volume.view x c.args.keep.now)
    (c.stale_everywhere.ensures.leaves.volume ∙ ap (λ x. x.volumes) c.give_up_patch-2.ensures.volume)) (c.settle_told.ensures.run p)

pub returns-clause-volume : goal.returns-clause-volume
returns-clause-volume g c =
    ap (λ x. x.volumes) c.settle_told.ensures.volume ∙ c.stale_everywhere.ensures.leaves.volume ∙ ap (λ x. x.volumes) c.give_up_patch-2.ensures.volume
