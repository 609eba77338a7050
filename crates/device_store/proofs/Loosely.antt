-- A loose track has a modified frame: what another frame of a track keeps of that.
use Rattle.std.proofs.Common.{◌≡◌, ◌≢◌, ◌⊎◌, inl, inr, ℕ, Bool, true, false, refl}
use Rattle.std.specs.Prelude.{◌==◌}
use Rattle.std.proofs.lemmas.Bool.{eqb-true, eqb-false}

pub same_or_not : (p i : ℕ) → (p ≡ i) ⊎ (p ≢ i)
same_or_not p i = by_test (p == i) refl where
  by_test : (b : Bool) → (p == i) ≡ b → (p ≡ i) ⊎ (p ≢ i)
  by_test true is = inl (eqb-true p i is)
  by_test false is = inr (eqb-false p i is)
