-- Which calls are still to come: fewer behind one of them, and none before the next.
use Rattle.std.proofs.Common.{◌≡◌, ◌<◌, ◌==◌, ℕ, zero, suc, Bool, true, false, cond, List, [], ◌∷◌, length, get_or, take, ◌++◌, ◌+◌, ◌≤◌, refl, sym, ap, subst, ◌∙◌, arith}
use Rattle.std.proofs.lemmas.Bool.{cases_eq}
use Rattle.std.proofs.lemmas.Bool.Decides.{nat_tests}
use Rattle.std.proofs.lemmas.List.{take_all, take_more}
use Rattle.ckd_outside.specs.Memory.{to_come}
use Rattle.ckd_outside.proofs.Calls.{to_come_lowered}
use Rattle.device_outside.specs.Lists as L
use Rattle.device_outside.specs.Lists.{is_in}
use Rattle.device_outside.specs.FailingCalls.{IsQuiet}

record Place (m : ℕ) (xs : List ℕ) : Type 0 where
  index : ℕ
  inside : index < length xs
  is : get_or xs index m ≡ m

place_of : (m : ℕ) (xs : List ℕ) → is_in m xs ≡ true → Place m xs
unfolding L.is_in
place_of m [] e = absurd cc
place_of m (x ∷ xs) e = go (m == x) refl e (place_of m xs)
  where
    go : (b : Bool) → (m == x) ≡ b → cond b true (is_in m xs) ≡ true → (is_in m xs ≡ true → Place m xs) → Place m (x ∷ xs)
    go true p e f = record { index = zero; inside = omega arith; is = let q : m ≡ x = grind arith in sym q }
    go false p e f = let o = f e in record { index = suc o.index; inside = let i = o.inside in omega (arith, i); is = o.is }

pub to_come_listed : (n m : ℕ) (xs : List ℕ) → n < m → is_in m xs ≡ true → to_come m xs < to_come n xs
to_come_listed n m xs lt e = let o = place_of m xs e in to_come_lowered n m xs o.index lt o.inside o.is

not_first : (b : Bool) (m : ℕ) (xs ys : List ℕ) → (is_in m xs ≡ false → is_in m ys ≡ false) → cond b true (is_in m xs) ≡ false
    → cond b true (is_in m ys) ≡ false
not_first true m xs ys h e = e
not_first false m xs ys h e = h e

not_behind : (m y : ℕ) (xs : List ℕ) → is_in m xs ≡ false → (m ≡ y → ⊥) → is_in m (xs ++ y ∷ []) ≡ false
unfolding L.is_in
not_behind m y [] h ne = grind (arith, nat_tests)
not_behind m y (x ∷ xs) h ne = not_first (m == x) m xs (xs ++ y ∷ []) (λ e. not_behind m y xs e ne) h

pub none_listed : (made next : ℕ) → IsQuiet made next []
unfolding L.is_in
none_listed made next = λ m above below. refl

-- one number more, and all
pub quiet_more : (made next sooner : ℕ) (numbers : List ℕ) (i : ℕ) → i < length numbers → IsQuiet made next (take i numbers) → sooner ≤ next
    → (made < get_or numbers i 0 → sooner ≤ get_or numbers i 0) → IsQuiet made sooner (take (i + 1) numbers)
quiet_more made next sooner numbers i lt h le beyond = λ m above below.
    ap (is_in m) (take_more numbers i 0 lt)
    ∙ not_behind m (get_or numbers i 0) (take i numbers) (h m above (omega (arith, below, le)))
    (λ e. absurd (let b = beyond (omega (arith, above, e)) in omega (arith, b, below, e)))

pub quiet_all : (made next : ℕ) (numbers : List ℕ) (i : ℕ) → length numbers ≤ i → IsQuiet made next (take i numbers) → IsQuiet made next numbers
quiet_all made next numbers i le h = subst (IsQuiet made next) (take_all i numbers le) h
