use Rattle.std.proofs.Common.{◌∙◌, ap, sym}
use Rattle.device_defs.specs.Contents.{contents}
use Rattle.device_defs.specs.Losses.{settled}
use Rattle.device_store.specs.State.{state_of}
use Rattle.device_store.proofs.Settling.{refused_alone, refused_pair}
use Rattle.device_store.proofs.store.DeviceStore.refuse.Goals as goal

pub returns-then-is_paired-clause-state : goal.returns-then-is_paired-clause-state
returns-then-is_paired-clause-state g c =
    c.settle.ensures.state ∙ sym (refused_pair (state_of c.args.self.now) c.args.t (sym c.is_paired.ensures ∙ c.if-is_paired.true))

pub returns-clause-state : goal.returns-clause-state
returns-clause-state g c =
    c.settle-2.ensures.state ∙ ap (λ z. settled contents z c.args.t) c.mark_a.ensures.state
    ∙ sym (refused_alone (state_of c.args.self.now) c.args.t (sym c.is_paired.ensures ∙ c.if-is_paired.false))
