-- The least track that passes.
use Rattle.std.proofs.Common.{◌≡◌, ℕ, zero, suc, ◌+◌, ◌-◌, ◌<◌, Bool, true, cond, Some, None, refl, subst, add-one, arith}
use Rattle.track_table.specs.Tracks.{least}

least_more : (n : ℕ) (p : ℕ → Bool) → least n p ≡ None → least (n + 1) p ≡ cond (p n) (Some n) None
unfolding least
least_more n p none = rw (add-one, none) refl

-- what was found stays found
least_stays : (n k t : ℕ) (p : ℕ → Bool) → least n p ≡ Some t → least (n + k) p ≡ Some t
unfolding least
least_stays n zero t p found = let e : n + 0 ≡ n = omega arith in rw e found
least_stays n (suc k) t p found =
    let e : n + suc k ≡ suc (n + k) = omega arith in
    rw (e, least_stays n k t p found) refl

-- the first track that passes is the least
pub found_least : (n m : ℕ) (p : ℕ → Bool) → least n p ≡ None → p n ≡ true → n < m → least m p ≡ Some n
found_least n m p none passes below =
    let rest : (n + 1) + (m - (n + 1)) ≡ m = omega arith in
    let first : least (n + 1) p ≡ Some n = rw (least_more n p none, passes) refl in
    subst (λ k. least k p ≡ Some n) rest (least_stays (n + 1) (m - (n + 1)) n p first)
