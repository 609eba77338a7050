use Rattle.std.proofs.Common.{◌≡◌, ◌∙◌, ◌*◌, ℕ, List, [], ap, arith}
use Rattle.device_defs.specs.Contents.{contents}
use Rattle.device_defs.specs.Cutting.{half_lost, loose_gone}
use Rattle.device_defs.specs.declared.counts.Losses.{Losses}
use Rattle.device_defs.specs.Events.{with_loss}
use Rattle.device_defs.specs.Losses.{over, settled, without_frame}
use Rattle.loss_model.specs.declared.Loss.TheVariants.{Cache}
use Rattle.device_store.specs.Looks.{StoreOf}
use Rattle.device_store.specs.State.{half_of, state_of}
use Rattle.std.specs.Prelude.{option_map}
use Rattle.event_notes.specs.Loose.{weight}
use Rattle.device_store.proofs.store.DeviceStore.lose_power.Goals as goal

pub returns-clause-state : goal.returns-clause-state
returns-clause-state g c =
    let old = state_of c.args.self.now in
    let s = state_of c.end_half.new.self in
    let lost = ap (λ (l : Losses). record old { counts = record old.counts { losses = l } }) c.count_loss.ensures in
    let gone = c.clear_loose.ensures.state ∙ ap (λ z. loose_gone contents z) lost in
    let ended =
    c.end_half.ensures.state ∙ ap (λ h. half_lost contents (state_of c.clear_loose.new.self) (option_map half_of h)) c.clear_loose.ensures.leaves.half
    ∙ ap (λ (z : StoreOf). half_lost contents z old.half) gone
    in
    let same : record s { queue = c.clear.new.self } ≡ record (half_lost contents (loose_gone contents (with_loss old Cache)) old.half) { queue = [] } =
    ap (λ (q : List ℕ). record s { queue = q }) c.clear.ensures ∙ ap (λ (z : StoreOf). record z { queue = [] }) ended
    in
    c.lose_frames.ensures.state
    ∙ ap (λ n. over (n * 15) (λ t z. settled contents (without_frame z t) t) (record s { queue = c.clear.new.self }))
    (c.end_half.ensures.leaves.cylinders ∙ c.clear_loose.ensures.leaves.cylinders)
    ∙ ap (λ z. over (c.args.self.now.cylinders * 15) (λ t y. settled contents (without_frame y t) t) z) same

pub returns-clause-volume : goal.returns-clause-volume
returns-clause-volume g c = c.lose_frames.ensures.leaves.volume ∙ ap (λ x. x.volumes) c.end_half.ensures.volume ∙ c.clear_loose.ensures.leaves.volume

pub returns-clause-weight : goal.returns-clause-weight
returns-clause-weight g c = omega (arith, c.lose_frames.ensures.leaves.weight, ap (λ l. weight l) c.end_half.ensures.loose, c.clear_loose.ensures.weight)
