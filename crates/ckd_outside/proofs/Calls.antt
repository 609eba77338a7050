-- The listed calls that are still to come, some calls on.
use Rattle.std.proofs.Common.{◌≡◌, ◌<◌, ◌≤◌, ℕ, zero, suc, List, [], ◌∷◌, length, get_or, cond, arith}
use Rattle.std.specs.Prelude.{nat_lt}
use Rattle.std.proofs.lemmas.Bool.Decides.{nat_tests}
use Rattle.std.proofs.lemmas.List.Sums.{sum_by-cons}
use Rattle.ckd_outside.specs.Memory.{to_come}

abbrev comes : ℕ → ℕ → ℕ
comes calls n = cond (nat_lt calls n) 1 0

comes_kept : (n m x : ℕ) → n ≤ m → comes m x ≤ comes n x
comes_kept n m x le = grind (arith, nat_tests)

comes_lowered : (n m x : ℕ) → n < m → x ≡ m → comes m x < comes n x
comes_lowered n m x lt is = grind (arith, nat_tests)

pub to_come_kept : (n m : ℕ) (xs : List ℕ) → n ≤ m → to_come m xs ≤ to_come n xs
to_come_kept n m [] le = omega arith
to_come_kept n m (x ∷ xs) le = omega (arith, sum_by-cons (comes n) x xs, sum_by-cons (comes m) x xs, comes_kept n m x le, to_come_kept n m xs le)

pub to_come_lowered : (n m : ℕ) (xs : List ℕ) (k : ℕ) → n < m → k < length xs → get_or xs k m ≡ m → to_come m xs < to_come n xs
to_come_lowered n m [] k lt inside is = absurd (omega (arith, inside))
to_come_lowered n m (x ∷ xs) zero lt inside is =
    omega (arith, sum_by-cons (comes n) x xs, sum_by-cons (comes m) x xs, comes_lowered n m x lt is, to_come_kept n m xs (omega arith))
to_come_lowered n m (x ∷ xs) (suc k) lt inside is =
    omega (arith, sum_by-cons (comes n) x xs, sum_by-cons (comes m) x xs, comes_kept n m x (omega arith), to_come_lowered n m xs k lt (omega arith) is)
