-- Rising numbers, and the table of their places.
use Rattle.std.proofs.Common.{
  ◌≡◌,
  ◌≢◌,
  ◌<◌,
  ◌≤◌,
  ◌+◌,
  ℕ,
  zero,
  suc,
  Bool,
  true,
  false,
  List,
  [],
  ◌∷◌,
  length,
  get_or,
  arith,
  refl,
  sym,
  ◌∙◌,
  subst,
  ap,
  inl,
  inr,
  ◌⊎◌,
  set,
  Some,
  None,
}
use Rattle.std.proofs.lemmas.Bool.{ltb-true, eqb-true}
use Rattle.std.proofs.lemmas.Option.{slice_get-get_or}
use Rattle.std.proofs.lemmas.List.{get_or-set_same, get_or-set_other}
use Rattle.std.specs.Prelude.{◌&&◌, ◌==◌, nat_lt, slice_get, if◌then◌else◌}
use Rattle.device_outside.specs.Lists.{is_in}
use Rattle.subsystem_core.specs.Places.{are_rising, is_before, IsTable}

pub both : (a b : Bool) → (a && b) ≡ true → (a ≡ true) × (b ≡ true)
both true true h = (refl, refl)
both true false h = absurd (cc)
both false b h = absurd (cc)

-- Bounds that were found by other names

pub below_same : {i n m : ℕ} → i < n → m ≡ n → i < m
below_same below same = omega (arith, below, same)

pub above_same : {i n m : ℕ} → n ≤ i → m ≡ n → m ≤ i
above_same above same = omega (arith, above, same)

pub below_all : {i j n : ℕ} → j < n → n ≤ i → j < i
below_all below above = omega (arith, below, above)

pub nowhere : {j : ℕ} → j < 0 → ⊥
nowhere below = omega (arith, below)

-- the first of numbers that rise is below all others
pub first_is_least : (n : ℕ) (ns : List ℕ) → are_rising (n ∷ ns) ≡ true → (i : ℕ) → i < length ns → n < get_or ns i 0
first_is_least n [] up i within = absurd (omega arith)
first_is_least n (m ∷ ms) up zero within = ltb-true _ _ (both (nat_lt n m) (are_rising (m ∷ ms)) up).0
first_is_least n (m ∷ ms) up (suc i) within =
    let parts = both (nat_lt n m) (are_rising (m ∷ ms)) up in
    let below = ltb-true n m parts.0 in
    let there : i < length ms = omega arith in
    let more = first_is_least m ms parts.1 i there in omega arith

pub rest_rises : (n : ℕ) (ns : List ℕ) → are_rising (n ∷ ns) ≡ true → are_rising ns ≡ true
rest_rises n ns up = (both (is_before n ns) (are_rising ns) up).1

pub rises : (ns : List ℕ) → are_rising ns ≡ true → (i j : ℕ) → i < j → j < length ns → get_or ns i 0 < get_or ns j 0
rises [] up i j below within = absurd (omega arith)
rises (n ∷ ns) up i zero below within = absurd (omega arith)
rises (n ∷ ns) up zero (suc j) below within = first_is_least n ns up j (omega arith)
rises (n ∷ ns) up (suc i) (suc j) below within = rises ns (rest_rises n ns up) i j (omega arith) (omega arith)

-- a number of a list has a place
abbrev PlaceOf : ℕ → List ℕ → Type 0
PlaceOf n ns = (i : ℕ) × (i < length ns) × (get_or ns i 0 ≡ n)

place_by : (n m : ℕ) (ms : List ℕ) → (is_in n ms ≡ true → PlaceOf n ms) → (b : Bool) → (n == m) ≡ b → is_in n (m ∷ ms) ≡ true → PlaceOf n (m ∷ ms)
unfolding is_in
place_by n m ms rest true is h = (0, omega arith, sym (eqb-true n m is))
place_by n m ms rest false is h = let it = rest (rw is at h) in (suc it.0, omega (arith, it.1), it.2)

pub place_of : (n : ℕ) (ns : List ℕ) → is_in n ns ≡ true → PlaceOf n ns
place_of n [] h = unfold is_in in absurd (cc)
place_of n (m ∷ ms) h = place_by n m ms (place_of n ms) (n == m) refl h

-- the place of a number by the table
pub by_table : (places ns : List ℕ) (n : ℕ) → IsTable places ns → is_in n ns ≡ true →
    (get_or places n 0 < length ns) × (slice_get ns (get_or places n 0) ≡ Some n)
by_table places ns n table h =
    let it = place_of n ns h in
    let same : get_or places n 0 ≡ it.0 = ap (λ m. get_or places m 0) (sym it.2) ∙ table it.0 it.1 in
    (rw same it.1, rw same (slice_get-get_or ns it.0 0 it.1 ∙ ap Some it.2))

pub lt_or_eq : (j i : ℕ) → j < i + 1 → (j < i) ⊎ (j ≡ i)
lt_or_eq j i h = grind arith

-- a table of one place more
pub table_more : (places ns : List ℕ) (i n : ℕ) → are_rising ns ≡ true → i < length ns → get_or ns i 0 ≡ n → n < length places →
    ((j : ℕ) → j < i → get_or places (get_or ns j 0) 0 ≡ j) →
    (j : ℕ) → j < i + 1 → get_or (set places n i) (get_or ns j 0) 0 ≡ j
table_more places ns i n up within is there table j below = by_cases_at (lt_or_eq j i (omega arith))
  where
    by_cases_at : (j < i) ⊎ (j ≡ i) → get_or (set places n i) (get_or ns j 0) 0 ≡ j
    by_cases_at (inl less) =
        let under = rises ns up j i less within in
        let apart : get_or ns j 0 ≢ n = λ e. absurd (omega (arith, e, is, under)) in
        get_or-set_other places n (get_or ns j 0) i 0 apart ∙ table j less
    by_cases_at (inr same) = rw (same, is) (get_or-set_same places n i 0 there)

-- Whether a number is among those of a table

eq_self : (n : ℕ) → (n == n) ≡ true
eq_self n = grind arith

in_by : (n m : ℕ) (ms : List ℕ) → is_in n ms ≡ true → (b : Bool) → (n == m) ≡ b → is_in n (m ∷ ms) ≡ true
unfolding is_in
in_by n m ms rest true is = rw is refl
in_by n m ms rest false is = rw is rest

in_of : (ns : List ℕ) (n i : ℕ) → slice_get ns i ≡ Some n → is_in n ns ≡ true
unfolding is_in
in_of [] n i is = absurd (cc)
in_of (m ∷ ms) n zero is = let same : m ≡ n = cc in subst (λ k. (if k == m then true else is_in k ms) ≡ true) same (rw (eq_self m) refl)
in_of (m ∷ ms) n (suc i) is = in_by n m ms (in_of ms n i is) (n == m) refl

not_by : (ns : List ℕ) (n m i : ℕ) → slice_get ns i ≡ Some m → is_in n ns ≡ false → (b : Bool) → (m == n) ≡ b → b ≡ false
not_by ns n m i is has true test =
    let same : m ≡ n = eqb-true m n test in
    let h : is_in n ns ≡ true = in_of ns n i (is ∙ ap Some same) in absurd (cc)
not_by ns n m i is has false test = refl

there_by : (places ns : List ℕ) (n m : ℕ) → IsTable places ns → slice_get ns (get_or places n 0) ≡ Some m → (b : Bool) → is_in n ns ≡ b → (m == n) ≡ b
there_by places ns n m table is true has =
    let same : Some m ≡ Some n = sym is ∙ (by_table places ns n table has).1 in
    let it : m ≡ n = cc in rw it (eq_self n)
there_by places ns n m table is false has = not_by ns n m (get_or places n 0) is has (m == n) refl

pub is_there : (places ns : List ℕ) (n m : ℕ) → IsTable places ns → slice_get ns (get_or places n 0) ≡ Some m → (m == n) ≡ is_in n ns
is_there places ns n m table is = there_by places ns n m table is (is_in n ns) refl

none_by : (places ns : List ℕ) (n : ℕ) → IsTable places ns → slice_get ns (get_or places n 0) ≡ None → (b : Bool) → is_in n ns ≡ b → false ≡ b
none_by places ns n table is true has = let h : None ≡ Some n = sym is ∙ (by_table places ns n table has).1 in absurd (cc)
none_by places ns n table is false has = refl

pub is_nowhere : (places ns : List ℕ) (n : ℕ) → IsTable places ns → slice_get ns (get_or places n 0) ≡ None → false ≡ is_in n ns
is_nowhere places ns n table is = none_by places ns n table is (is_in n ns) refl
