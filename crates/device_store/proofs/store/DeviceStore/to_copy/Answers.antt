use Rattle.std.proofs.Common.{◌∙◌, ap}
use Rattle.std.specs.Prelude.{is_some}
use Rattle.device_store.specs.State.{state_of}
use Rattle.std.proofs.Common.{ℕ, ◌*◌, ◌<◌}
use Rattle.track_table.specs.Tracks.{least}
use Rattle.device_defs.specs.Background.{copies_to}
use Rattle.device_store.proofs.Writes.{IsOne, if_some, least_one}
use Rattle.device_store.proofs.store.DeviceStore.to_copy.Goals as goal

pub returns-clause-least : goal.returns-clause-least
returns-clause-least g c =
    c.to_copy.ensures ∙ ap (λ (n : ℕ). least n (λ t. is_some (copies_to (state_of c.args.self.now) t))) c.args.self.now.stale_of_each

pub returns-clause-here : goal.returns-clause-here
returns-clause-here g c =
    let s = state_of c.args.self.now in
    let n = c.args.self.now.cylinders * 15 in
    if_some _ _ (IsOne n (λ t. is_some (copies_to s t))) (λ t. t < n)
    (c.to_copy.ensures ∙ ap (λ (n : ℕ). least n (λ t. is_some (copies_to s t))) c.args.self.now.stale_of_each)
    (λ t one. one.here) (least_one n (λ t. is_some (copies_to s t)))
