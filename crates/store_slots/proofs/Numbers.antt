-- The numbers in use, behind one more and one less.
use Rattle.std.proofs.Common.{
  ◌≡◌,
  ◌≢◌,
  ◌<◌,
  ℕ,
  zero,
  suc,
  ◌+◌,
  ◌==◌,
  nat_lt,
  Bool,
  true,
  false,
  cond,
  List,
  [],
  ◌∷◌,
  length,
  Option,
  Some,
  None,
  is_some,
  get_or,
  refl,
  sym,
  ap,
  ◌∙◌,
  arith,
}
use Rattle.std.specs.Prelude.{count_by}
use Rattle.std.proofs.lemmas.Bool.Decides.{nat_tests}
use Rattle.std.proofs.lemmas.List.Sums.{sum_by-cons}
use Rattle.device_outside.specs.Lists as L
use Rattle.device_outside.specs.Lists.{is_in, with_number, less_one}
use Rattle.store_slots.specs.Slots.{numbers_from}

lt_true : (n m : ℕ) → n < m → nat_lt n m ≡ true
lt_true n m h = grind (arith, nat_tests)

lt_false : (n m : ℕ) → m < n → nat_lt n m ≡ false
lt_false n m h = grind (arith, nat_tests)

eq_true : (n m : ℕ) → m ≡ n → (m == n) ≡ true
eq_true n m h = grind (arith, nat_tests)

eq_false : (n m : ℕ) → n < m → (m == n) ≡ false
eq_false n m h = grind (arith, nat_tests)

eq_other : (n m : ℕ) → m < n → (m == n) ≡ false
eq_other n m h = grind (arith, nat_tests)

module _ {T : Type 0} where
  head : List (Option T) → Option T
  head [] = None
  head (x ∷ xs) = x

  tail : List (Option T) → List (Option T)
  tail [] = []
  tail (x ∷ xs) = xs

  at_head : (xs : List (Option T)) → get_or xs zero None ≡ head xs
  unfolding head
  at_head [] = refl
  at_head (x ∷ xs) = refl

  at_tail : (xs : List (Option T)) (j : ℕ) → get_or (tail xs) j None ≡ get_or xs (suc j) None
  unfolding tail
  at_tail [] j = refl
  at_tail (x ∷ xs) j = refl

  step : ℕ → Option T → List (Option T) → List ℕ
  step n None rest = numbers_from (n + 1) rest
  step n (Some x) rest = n ∷ numbers_from (n + 1) rest

  stepped : (n : ℕ) (xs : List (Option T)) → numbers_from n xs ≡ step n (head xs) (tail xs)
  unfolding head tail step
  stepped n [] = refl
  stepped n (None ∷ xs) = refl
  stepped n (Some x ∷ xs) = refl

  same_numbers : (n : ℕ) (xs ys : List (Option T)) → ((j : ℕ) → get_or ys j None ≡ get_or xs j None) → numbers_from n ys ≡ numbers_from n xs
  same_numbers n [] [] e = refl
  same_numbers n [] (None ∷ ys) e = same_numbers (n + 1) [] ys (λ j. e (suc j))
  same_numbers n [] (Some y ∷ ys) e = let h = e zero in absurd cc
  same_numbers n (None ∷ xs) [] e = same_numbers (n + 1) xs [] (λ j. e (suc j))
  same_numbers n (Some x ∷ xs) [] e = let h = e zero in absurd cc
  same_numbers n (None ∷ xs) (None ∷ ys) e = same_numbers (n + 1) xs ys (λ j. e (suc j))
  same_numbers n (None ∷ xs) (Some y ∷ ys) e = let h = e zero in absurd cc
  same_numbers n (Some x ∷ xs) (None ∷ ys) e = let h = e zero in absurd cc
  same_numbers n (Some x ∷ xs) (Some y ∷ ys) e = ap (λ (l : List ℕ). n ∷ l) (same_numbers (n + 1) xs ys (λ j. e (suc j)))

  same_tails : (xs ys : List (Option T)) → ((j : ℕ) → j ≢ zero → get_or ys j None ≡ get_or xs j None) → (j : ℕ) →
      get_or (tail ys) j None ≡ get_or (tail xs) j None
  same_tails xs ys e j = at_tail ys j ∙ e (suc j) (let h : suc j ≢ zero = omega arith in h) ∙ sym (at_tail xs j)

  later_tails : (k : ℕ) (xs ys : List (Option T)) → ((j : ℕ) → j ≢ suc k → get_or ys j None ≡ get_or xs j None) →
      (j : ℕ) → j ≢ k → get_or (tail ys) j None ≡ get_or (tail xs) j None
  later_tails k xs ys e j n = at_tail ys j ∙ e (suc j) (let h : suc j ≢ suc k = omega (arith, n) in h) ∙ sym (at_tail xs j)

  -- a number below all others comes first, and isn't there
  comes_first : (m b : ℕ) (xs : List (Option T)) → m < b → with_number m (numbers_from b xs) ≡ m ∷ numbers_from b xs
  unfolding L.with_number
  comes_first m b [] h = refl
  comes_first m b (None ∷ xs) h = comes_first m (b + 1) xs (omega (arith, h))
  comes_first m b (Some x ∷ xs) h = ap (λ (c : Bool). cond c (b ∷ with_number m (numbers_from (b + 1) xs)) (m ∷ b ∷ numbers_from (b + 1) xs)) (lt_false b m h)

  less_absent : (m b : ℕ) (xs : List (Option T)) → m < b → less_one m (numbers_from b xs) ≡ numbers_from b xs
  unfolding L.less_one
  less_absent m b [] h = refl
  less_absent m b (None ∷ xs) h = less_absent m (b + 1) xs (omega (arith, h))
  less_absent m b (Some x ∷ xs) h =
      ap (λ (c : Bool). cond c (numbers_from (b + 1) xs) (b ∷ less_one m (numbers_from (b + 1) xs))) (eq_other b m h)
      ∙ ap (λ (l : List ℕ). b ∷ l) (less_absent m (b + 1) xs (omega (arith, h)))

  absent : (m b : ℕ) (xs : List (Option T)) → m < b → is_in m (numbers_from b xs) ≡ false
  unfolding L.is_in
  absent m b [] h = refl
  absent m b (None ∷ xs) h = absent m (b + 1) xs (omega (arith, h))
  absent m b (Some x ∷ xs) h = ap (λ (c : Bool). cond c true (is_in m (numbers_from (b + 1) xs))) (eq_other b m h) ∙ absent m (b + 1) xs (omega (arith, h))

  put_first : (n m : ℕ) (x y : Option T) (xs ys : List (Option T)) (v : T) → m ≡ n → x ≡ None → y ≡ Some v →
      numbers_from (n + 1) ys ≡ numbers_from (n + 1) xs → step n y ys ≡ with_number m (step n x xs)
  unfolding step
  put_first n m None None xs ys v e p q h = absurd cc
  put_first n m None (Some y) xs ys v e p q h =
      ap (λ (l : List ℕ). n ∷ l) h ∙ ap (λ (i : ℕ). i ∷ numbers_from (n + 1) xs) (sym e) ∙ sym (comes_first m (n + 1) xs (omega (arith, e)))
  put_first n m (Some x) y xs ys v e p q h = absurd cc

  put_later : (n m : ℕ) (x y : Option T) (xs ys : List (Option T)) → n < m → y ≡ x →
      numbers_from (n + 1) ys ≡ with_number m (numbers_from (n + 1) xs) → step n y ys ≡ with_number m (step n x xs)
  unfolding step L.with_number
  put_later n m None None xs ys lt e h = h
  put_later n m None (Some y) xs ys lt e h = absurd cc
  put_later n m (Some x) None xs ys lt e h = absurd cc
  put_later n m (Some x) (Some y) xs ys lt e h =
      ap (λ (l : List ℕ). n ∷ l) h ∙ sym (ap (λ (c : Bool). cond c (n ∷ with_number m (numbers_from (n + 1) xs))
      (m ∷ n ∷ numbers_from (n + 1) xs)) (lt_true n m lt))

  -- one more number is put in at its place
  pub numbers_more : (k n m : ℕ) (xs ys : List (Option T)) (v : T) → m ≡ n + k → get_or xs k None ≡ None →
      get_or ys k None ≡ Some v → ((j : ℕ) → j ≢ k → get_or ys j None ≡ get_or xs j None) →
      numbers_from n ys ≡ with_number m (numbers_from n xs)
  numbers_more zero n m xs ys v e p q f =
      stepped n ys
      ∙ put_first n m (head xs) (head ys) (tail xs) (tail ys) v (omega (arith, e)) (sym (at_head xs) ∙ p)
      (sym (at_head ys) ∙ q) (same_numbers (n + 1) (tail xs) (tail ys) (same_tails xs ys f))
      ∙ ap (with_number m) (sym (stepped n xs))
  numbers_more (suc k) n m xs ys v e p q f =
      let h : m ≡ n + 1 + k = omega (arith, e) in
      stepped n ys
      ∙ put_later n m (head xs) (head ys) (tail xs) (tail ys) (omega (arith, e))
      (sym (at_head ys) ∙ f zero (let z : zero ≢ suc k = omega arith in z) ∙ at_head xs)
      (numbers_more k (n + 1) m (tail xs) (tail ys) v h (at_tail xs k ∙ p) (at_tail ys k ∙ q) (later_tails k xs ys f))
      ∙ ap (with_number m) (sym (stepped n xs))

  less_first : (n m : ℕ) (x y : Option T) (xs ys : List (Option T)) → m ≡ n → y ≡ None →
      numbers_from (n + 1) ys ≡ numbers_from (n + 1) xs → step n y ys ≡ less_one m (step n x xs)
  unfolding step L.less_one
  less_first n m x (Some y) xs ys e q h = absurd cc
  less_first n m None None xs ys e q h = h ∙ sym (less_absent m (n + 1) xs (omega (arith, e)))
  less_first n m (Some x) None xs ys e q h = h ∙ sym (ap (λ (c : Bool). cond c (numbers_from (n + 1) xs)
      (n ∷ less_one m (numbers_from (n + 1) xs))) (eq_true n m e))

  less_later : (n m : ℕ) (x y : Option T) (xs ys : List (Option T)) → n < m → y ≡ x →
      numbers_from (n + 1) ys ≡ less_one m (numbers_from (n + 1) xs) → step n y ys ≡ less_one m (step n x xs)
  unfolding step L.less_one
  less_later n m None None xs ys lt e h = h
  less_later n m None (Some y) xs ys lt e h = absurd cc
  less_later n m (Some x) None xs ys lt e h = absurd cc
  less_later n m (Some x) (Some y) xs ys lt e h =
      ap (λ (l : List ℕ). n ∷ l) h ∙ sym (ap (λ (c : Bool). cond c (numbers_from (n + 1) xs) (n ∷ less_one m (numbers_from (n + 1) xs))) (eq_false n m lt))

  -- one less is taken out, if it is there
  pub numbers_less : (k n m : ℕ) (xs ys : List (Option T)) → m ≡ n + k → get_or ys k None ≡ None →
      ((j : ℕ) → j ≢ k → get_or ys j None ≡ get_or xs j None) → numbers_from n ys ≡ less_one m (numbers_from n xs)
  numbers_less zero n m xs ys e q f =
      stepped n ys
      ∙ less_first n m (head xs) (head ys) (tail xs) (tail ys) (omega (arith, e)) (sym (at_head ys) ∙ q)
      (same_numbers (n + 1) (tail xs) (tail ys) (same_tails xs ys f))
      ∙ ap (less_one m) (sym (stepped n xs))
  numbers_less (suc k) n m xs ys e q f =
      let h : m ≡ n + 1 + k = omega (arith, e) in
      stepped n ys
      ∙ less_later n m (head xs) (head ys) (tail xs) (tail ys) (omega (arith, e))
      (sym (at_head ys) ∙ f zero (let z : zero ≢ suc k = omega arith in z) ∙ at_head xs)
      (numbers_less k (n + 1) m (tail xs) (tail ys) h (at_tail ys k ∙ q) (later_tails k xs ys f))
      ∙ ap (less_one m) (sym (stepped n xs))

  not_first : (n m : ℕ) (x : Option T) (xs : List (Option T)) → m ≡ n → x ≡ None → is_in m (step n x xs) ≡ false
  unfolding step
  not_first n m None xs e p = absent m (n + 1) xs (omega (arith, e))
  not_first n m (Some x) xs e p = absurd cc

  not_later : (n m : ℕ) (x : Option T) (xs : List (Option T)) → n < m → is_in m (numbers_from (n + 1) xs) ≡ false → is_in m (step n x xs) ≡ false
  unfolding step L.is_in
  not_later n m None xs lt h = h
  not_later n m (Some x) xs lt h = ap (λ (c : Bool). cond c true (is_in m (numbers_from (n + 1) xs))) (eq_false n m lt) ∙ h

  -- a number at which nothing is kept isn't in use
  pub not_a_number : (k n m : ℕ) (xs : List (Option T)) → m ≡ n + k → get_or xs k None ≡ None → is_in m (numbers_from n xs) ≡ false
  not_a_number zero n m xs e p = ap (is_in m) (stepped n xs) ∙ not_first n m (head xs) (tail xs) (omega (arith, e)) (sym (at_head xs) ∙ p)
  not_a_number (suc k) n m xs e p =
      let h : m ≡ n + 1 + k = omega (arith, e) in
      ap (is_in m) (stepped n xs) ∙ not_later n m (head xs) (tail xs) (omega (arith, e)) (not_a_number k (n + 1) m (tail xs) h (at_tail xs k ∙ p))

  -- and there are as many as are kept
  pub how_many : (n : ℕ) (xs : List (Option T)) → length (numbers_from n xs) ≡ count_by is_some xs
  how_many n [] = refl
  how_many n (None ∷ xs) = omega (arith, how_many (n + 1) xs, sum_by-cons (λ (x : Option T). cond (is_some x) 1 0) None xs)
  how_many n (Some x ∷ xs) = omega (arith, how_many (n + 1) xs, sum_by-cons (λ (x : Option T). cond (is_some x) 1 0) (Some x) xs)
