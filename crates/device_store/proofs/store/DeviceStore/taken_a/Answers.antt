use Rattle.std.proofs.Common.{◌∙◌, Bool, true, false, ap, sym}
use Rattle.std.specs.Prelude.{if◌then◌else◌}
use Rattle.ckd_types.specs.declared.paths.Side.TheVariants.{A, B}
use Rattle.device_defs.specs.Store.{with_stale}
use Rattle.device_store.specs.State.{state_of}
use Rattle.device_store.proofs.store.DeviceStore.taken_a.Goals as goal

pub returns-then-self-clause-state : goal.returns-then-self-clause-state
returns-then-self-clause-state g c =
    let s = with_stale (state_of c.args.self.now) A c.args.t false in
    c.mark_b.ensures.state ∙ ap (λ z. with_stale z B c.args.t true) c.mark_a.ensures.state
    ∙ ap (λ (b : Bool). if b then with_stale s B c.args.t true else s) (sym (ap (λ z. z.b.up) (sym c.mark_a.ensures.state) ∙ c.if-self.true))

pub returns-else-self-clause-state : goal.returns-else-self-clause-state
returns-else-self-clause-state g c =
    let s = with_stale (state_of c.args.self.now) A c.args.t false in
    c.mark_a.ensures.state
    ∙ ap (λ (b : Bool). if b then with_stale s B c.args.t true else s) (sym (ap (λ z. z.b.up) (sym c.mark_a.ensures.state) ∙ c.if-self.false))
