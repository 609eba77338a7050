-- What holds of one track and of all others holds of each.
use Rattle.std.proofs.Common.{◌≡◌, ◌≢◌, ℕ, sym, subst, ◌⊎◌, inl, inr}
use Rattle.std.proofs.lemmas.Bool.{cases_eq}

pub each_track : (P : ℕ → Type 0) (t : ℕ) → P t → ((q : ℕ) → q ≢ t → P q) → (q : ℕ) → P q
each_track P t here elsewhere q = by_place (cases_eq q t)
  where
    by_place : ((q ≡ t) ⊎ (q ≢ t)) → P q
    by_place (inl is) = subst P (sym is) here
    by_place (inr ne) = elsewhere q ne
