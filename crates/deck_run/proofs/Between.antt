-- How many calls came to a count that didn't stop, and the items behind the first ones.
use Rattle.std.proofs.Common.{◌≡◌, ◌≢◌, ◌≤◌, ◌<◌, ◌∙◌, ◌+◌, ◌-◌, ◌^◌, arith, ℕ, zero, suc, List, [], ◌∷◌, drop, length, refl, subst}
use Rattle.device_outside.specs.Volume as volumes
use Rattle.device_outside.specs.Volume.{counted}
use Rattle.subsystem_defs.specs.Beside.{behind_first}
use Rattle.deck_run.specs.Counting.{more_calls}

one_below : (m : ℕ) → counted m < 2 ^ 64 - 1 → (counted m ≡ m + 1) × (m < 2 ^ 64 - 1)
unfolding volumes.counted
one_below m h = (omega (arith, h), omega (arith, h))

grows : (k n : ℕ) → more_calls k n < 2 ^ 64 - 1 → more_calls k n ≡ n + k
grows zero n h = omega arith
grows (suc k) n h = let one = one_below (more_calls k n) h in one.0 ∙ omega (arith, grows k n one.1)

pub between : (k before behind : ℕ) → behind ≡ more_calls k before → behind < 2 ^ 64 → behind ≢ 2 ^ 64 - 1 → behind - before ≡ k
between k before behind is range other =
    let below : behind < 2 ^ 64 - 1 = omega (arith, range, other) in
    let all : more_calls k before ≡ before + k = grows k before (subst (λ (n : ℕ). n < 2 ^ 64 - 1) is below) in
    omega (arith, is, all)

pub behind_is : {X : Type 0} (n : ℕ) (xs : List X) → behind_first n xs ≡ drop n xs
behind_is zero xs = refl
behind_is (suc n) [] = refl
behind_is (suc n) (x ∷ xs) = behind_is n xs

pub behind_none : {X : Type 0} (n : ℕ) (xs : List X) → length xs ≤ n → behind_first n xs ≡ []
behind_none zero [] past = refl
behind_none zero (x ∷ xs) past = absurd (omega (arith, past))
behind_none (suc n) [] past = refl
behind_none (suc n) (x ∷ xs) past = behind_none n xs (omega (arith, past))
