use Rattle.std.proofs.Common.{◌<◌, ◌≤◌, ◌*◌, ◌∙◌, refl, sym, arith}
use Rattle.device_defs.specs.Owed.{waits}
use Rattle.device_defs.specs.Contents.{contents}
use Rattle.device_store.specs.State.{state_of}
use Rattle.device_store.proofs.Telling.{none_beyond}
use Rattle.device_store.proofs.Writes.{recovers, least_one, IsOne, if_some}
use Rattle.duplex_pair.proofs.Fronts.{least_of}
use Rattle.device_store.proofs.store.DeviceStore.to_recover.Goals as goal

pub returns-then-some_up-clause-least : goal.returns-then-some_up-clause-least
returns-then-some_up-clause-least g c =
    let s = state_of c.args.self.now in
    let n = c.args.self.now.cylinders * 15 in
    let few : n ≤ 65535 = omega (arith, c.args.self.now.most) in
    c.first.ensures ∙ least_of n _ (waits contents s) few c.waiting.ensures
    (λ t le. none_beyond s n t c.args.self.now.frame_of_each c.args.self.now.patch_of_each le)
    ∙ sym (recovers s (sym c.some_up.ensures ∙ c.if-some_up.true))

pub returns-then-some_up-clause-here : goal.returns-then-some_up-clause-here
returns-then-some_up-clause-here g c =
    let s = state_of c.args.self.now in
    let n = c.args.self.now.cylinders * 15 in
    let few : n ≤ 65535 = omega (arith, c.args.self.now.most) in
    if_some _ _ (IsOne n (waits contents s)) (λ t. t < n)
    (c.first.ensures ∙ least_of n _ (waits contents s) few c.waiting.ensures
    (λ t le. none_beyond s n t c.args.self.now.frame_of_each c.args.self.now.patch_of_each le))
    (λ t one. one.here) (least_one n (waits contents s))

pub returns-clause-least : goal.returns-clause-least
returns-clause-least g c = rw (sym c.some_up.ensures ∙ c.if-some_up.false) refl
