use Rattle.std.proofs.Common.{ℕ, ◌≡◌, ◌<◌, ◌≤◌, ◌*◌, ◌∙◌, true, refl, sym, arith}
use Rattle.std.specs.Prelude.{◌&&◌, ◌||◌, is_some}
use Rattle.track_table.specs.Bits.{is_marked}
use Rattle.device_defs.specs.Store.{frame_at}
use Rattle.device_defs.specs.Background.{is_destaged}
use Rattle.device_defs.specs.Contents.{contents}
use Rattle.device_store.specs.State.{state_of}
use Rattle.device_store.proofs.Firmly.{modified_there}
use Rattle.device_store.proofs.Writes.{destages, least_one, IsOne, if_some, none_destaged, destaged_framed}
use Rattle.device_store.proofs.Volumes.{some_here}
use Rattle.duplex_pair.proofs.Fronts.{least_of}
use Rattle.device_store.proofs.store.DeviceStore.to_destage.Given.{Over}
use Rattle.device_store.proofs.store.DeviceStore.to_destage.Goals as goal

destaged : (g : Over) (c : goal.After-first g) → (t : ℕ) →
    (is_marked c.marks.result.now t || (is_marked c.modified_tracks.result.now t && is_marked c.patched_tracks.result.now t))
    ≡ is_destaged contents (state_of c.args.self.now) t
destaged g c t = rw (c.marks.ensures t, c.modified_tracks.ensures t, c.patched_tracks.ensures t) refl

pub returns-then-some_up-clause-least : goal.returns-then-some_up-clause-least
returns-then-some_up-clause-least g c =
    let s = state_of c.args.self.now in
    let n = c.args.self.now.cylinders * 15 in
    let few : n ≤ 65535 = omega (arith, c.args.self.now.most) in
    c.first.ensures ∙ least_of n _ (is_destaged contents s) few (destaged g c)
    (λ t le. none_destaged s n t c.args.self.now.frame_of_each c.args.self.now.loose_of_each le)
    ∙ sym (destages s (sym c.some_up.ensures ∙ c.if-some_up.true))

pub returns-then-some_up-clause-here : goal.returns-then-some_up-clause-here
returns-then-some_up-clause-here g c =
    let s = state_of c.args.self.now in
    let n = c.args.self.now.cylinders * 15 in
    let few : n ≤ 65535 = omega (arith, c.args.self.now.most) in
    if_some _ _ (IsOne n (is_destaged contents s)) (λ t. t < n)
    (c.first.ensures ∙ least_of n _ (is_destaged contents s) few (destaged g c)
    (λ t le. none_destaged s n t c.args.self.now.frame_of_each c.args.self.now.loose_of_each le))
    (λ t one. one.here) (least_one n (is_destaged contents s))

pub returns-clause-least : goal.returns-clause-least
returns-clause-least g c = rw (sym c.some_up.ensures ∙ c.if-some_up.false) refl

pub returns-then-some_up-clause-framed : goal.returns-then-some_up-clause-framed
returns-then-some_up-clause-framed g c =
    let s = state_of c.args.self.now in
    let n = c.args.self.now.cylinders * 15 in
    let few : n ≤ 65535 = omega (arith, c.args.self.now.most) in
    if_some _ _ (IsOne n (is_destaged contents s)) (λ t. is_some (frame_at s t) ≡ true)
    (c.first.ensures ∙ least_of n _ (is_destaged contents s) few (destaged g c)
    (λ t le. none_destaged s n t c.args.self.now.frame_of_each c.args.self.now.loose_of_each le))
    (λ t one. destaged_framed s t (λ loose. modified_there _
    (c.args.self.now.loose_modified (some_here c.args.self.now.pair (sym c.some_up.ensures ∙ c.if-some_up.true)) t loose)) one.passes)
    (least_one n (is_destaged contents s))
