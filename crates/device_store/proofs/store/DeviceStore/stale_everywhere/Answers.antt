use Rattle.std.proofs.Common.{◌∙◌, Bool, true, ap, sym}
use Rattle.std.specs.Prelude.{if◌then◌else◌}
use Rattle.ckd_types.specs.declared.paths.Side.TheVariants.{A, B}
use Rattle.device_defs.specs.Store.{with_stale}
use Rattle.device_store.specs.State.{state_of}
use Rattle.device_store.proofs.store.DeviceStore.stale_everywhere.Goals as goal

pub returns-then-is_paired-clause-state : goal.returns-then-is_paired-clause-state
returns-then-is_paired-clause-state g c =
    let s = with_stale (state_of c.args.self.now) A c.args.t true in
    c.mark_b.ensures.state ∙ ap (λ z. with_stale z B c.args.t true) c.mark_a.ensures.state
    ∙ ap (λ (b : Bool). if b then with_stale s B c.args.t true else s)
    (sym (ap (λ z. z.paired) (sym c.mark_a.ensures.state) ∙ sym c.is_paired.ensures ∙ c.if-is_paired.true))

pub returns-else-is_paired-clause-state : goal.returns-else-is_paired-clause-state
returns-else-is_paired-clause-state g c =
    let s = with_stale (state_of c.args.self.now) A c.args.t true in
    c.mark_a.ensures.state
    ∙ ap (λ (b : Bool). if b then with_stale s B c.args.t true else s)
    (sym (ap (λ z. z.paired) (sym c.mark_a.ensures.state) ∙ sym c.is_paired.ensures ∙ c.if-is_paired.false))
