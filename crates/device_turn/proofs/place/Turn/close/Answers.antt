use Rattle.std.proofs.Common.{ℕ, ◌≡◌, ◌<◌, ◌∙◌, true, Some, Global, sym, subst, refl}
use mathlib.Core.Option.{some-injective}
use Rattle.device_turn.specs.Rule.{KeptBy, Still, boxed, counts_in, has, owned}
use Rattle.device_turn.proofs.Members.{closes, kept_value}
use Rattle.device_turn.proofs.place.Turn.close.Goals as goal

pub unwrap-holder-requires : goal.unwrap-holder-requires
unwrap-holder-requires g c =
    let seat = c.args.seat in
    let all = subst (λ n. (k : ℕ) → k < n → has k (owned seat.seat.me.0) ≡ true) (sym seat.counted) c.requires.all in
    let found = closes _ _ _ _ _ _ _ seat.live (seat.numbered ∙ c.requires.first) c.requires.rests all c.close_with-closed.ensures.values.2 in
    let is : c.take.result ≡ Some found.0 = some-injective _ _ (sym c.take.ensures.value ∙ found.1) in
    rw is refl

pub returns-clause-keeps : goal.returns-clause-keeps
returns-clause-keeps g c =
    let seat = c.args.seat in
    let all = subst (λ n. (k : ℕ) → k < n → has k (owned seat.seat.me.0) ≡ true) (sym seat.counted) c.requires.all in
    let found = closes _ _ _ _ _ _ _ seat.live (seat.numbered ∙ c.requires.first) c.requires.rests all c.close_with-closed.ensures.values.2 in
    let is : Some found.0 ≡ Some c.unwrap-holder.result = sym (some-injective _ _ (sym c.take.ensures.value ∙ found.1)) ∙ c.unwrap-holder.ensures in
    let same : found.0 ≡ c.unwrap-holder.result = cc in
    kept_value {A = Global} g.H.Holder.keeps seat.seat.me.0.pledge c.unwrap-holder.result _ c.into_inner.ensures
    (subst (λ h. KeptBy (boxed g.H.Holder.keeps) seat.seat.me.0.pledge h) same found.2)

pub returns-clause-counts : goal.returns-clause-counts
returns-clause-counts g c =
    let seat = c.args.seat in
    let all = subst (λ n. (k : ℕ) → k < n → has k (owned seat.seat.me.0) ≡ true) (sym seat.counted) c.requires.all in
    let found = closes _ _ _ _ _ _ _ seat.live (seat.numbered ∙ c.requires.first) c.requires.rests all c.close_with-closed.ensures.values.2 in
    let is : Some found.0 ≡ Some c.unwrap-holder.result = sym (some-injective _ _ (sym c.take.ensures.value ∙ found.1)) ∙ c.unwrap-holder.ensures in
    let same : found.0 ≡ c.unwrap-holder.result = cc in
    rw c.into_inner.ensures (subst (λ h. Still (counts_in g.H.Holder.counts h) (owned seat.seat.me.0)) same found.3)
