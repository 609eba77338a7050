-- Losses, track by track.
use Rattle.std.proofs.Common.{◌≡◌, ◌+◌, ◌<◌, ℕ, zero, suc, Bool, true, false, List, Option, Some, None, length, refl, ap, subst, arith, inl, inr}
use Rattle.std.specs.Prelude.{is_some, slice_index_or, replicate, if◌then◌else◌}
use Rattle.std.proofs.lemmas.Bool.{cases_lt}
use Rattle.std.proofs.lemmas.List.{get_or_past}
use Rattle.track_table.specs.Tracks as tracks
use Rattle.track_table.specs.Tracks.{least, or_else}
use Rattle.device_defs.specs.Losses as losses
use Rattle.device_defs.specs.Losses.{over}
use Rattle.device_defs.specs.Store.{Store}

no_first : (x y : Option ℕ) → is_some (or_else x y) ≡ false → is_some x ≡ false
no_first (Some t) y e = absurd cc
no_first None y e = refl

no_later : (x : Option ℕ) (b : Bool) (n : ℕ) → is_some (or_else x (if b then Some n else None)) ≡ false → b ≡ false
no_later (Some t) b n e = absurd cc
no_later None true n e = absurd cc
no_later None false n e = refl

none_below : (n t : ℕ) (f : ℕ → Bool) → is_some (least n f) ≡ false → t < n → f t ≡ false
unfolding tracks.least
none_below zero t f none lt = absurd (omega (arith, lt))
none_below (suc n) t f none lt = elim (cases_lt t n) [
  | inl less ↦ none_below n t f (no_first (least n f) _ none) less
  | inr more ↦ let same : n ≡ t = omega (arith, lt, more) in subst (λ (x : ℕ). f x ≡ false) same (no_later (least n f) (f n) n none)
]

-- where no mark is set, none is
pub none_marked : (marks : List Bool) → is_some (least (length marks) (λ t. slice_index_or marks t false)) ≡ false → (t : ℕ) →
    slice_index_or marks t false ≡ false
none_marked marks none t = elim (cases_lt t (length marks)) [
  | inl less ↦ none_below (length marks) t (λ q. slice_index_or marks q false) none less
  | inr more ↦ get_or_past marks t false more
]

pub no_marks : (n t : ℕ) → slice_index_or (replicate n false) t false ≡ false
no_marks zero t = refl
no_marks (suc n) zero = refl
no_marks (suc n) (suc t) = no_marks n t

module _ {F P H : Type 0} where
  one_over : (f : ℕ → Store F P H → Store F P H) (n m : ℕ) (s : Store F P H) → m ≡ suc n → over m f s ≡ f n (over n f s)
  unfolding losses.over
  one_over f n zero s is = absurd (omega (arith, is))
  one_over f n (suc m) s is = let same : m ≡ n = omega (arith, is) in ap (λ (k : ℕ). f k (over k f s)) same

  -- one track more
  pub over_more : (f : ℕ → Store F P H → Store F P H) (n : ℕ) (s : Store F P H) → over (n + 1) f s ≡ f n (over n f s)
  over_more f n s = one_over f n (n + 1) s (omega arith)

  pub over_none : (f : ℕ → Store F P H → Store F P H) (s : Store F P H) → over 0 f s ≡ s
  unfolding losses.over
  over_none f s = refl
