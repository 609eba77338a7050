use Rattle.std.proofs.Common.{◌≡◌, ◌∙◌, ◌*◌, ℕ, List, [], ap}
use Rattle.device_defs.specs.Contents.{contents}
use Rattle.device_defs.specs.Effects.{loose_lost}
use Rattle.device_defs.specs.Losses.{cache_lost, over, settled, without_frame}
use Rattle.device_store.specs.Looks.{StoreOf}
use Rattle.device_store.specs.State.{state_of}
use Rattle.device_store.proofs.store.DeviceStore.lose_cache.Goals as goal

pub returns-clause-state : goal.returns-clause-state
unfolding cache_lost
returns-clause-state g c =
    let s = state_of c.lose_loose.new.self in
    let same : record s { queue = c.clear.new.self } ≡ record (loose_lost (state_of c.args.self.now)) { queue = [] } =
    ap (λ (q : List ℕ). record s { queue = q }) c.clear.ensures ∙ ap (λ (z : StoreOf). record z { queue = [] }) c.lose_loose.ensures.state
    in
    c.lose_frames.ensures.state
    ∙ ap (λ n. over (n * 15) (λ t z. settled contents (without_frame z t) t) (record s { queue = c.clear.new.self })) c.lose_loose.ensures.leaves.cylinders
    ∙ ap (λ z. over (c.args.self.now.cylinders * 15) (λ t y. settled contents (without_frame y t) t) z) same
