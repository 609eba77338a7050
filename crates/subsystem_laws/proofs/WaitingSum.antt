-- Where each device's number of waiting tracks stands at its place, and 0 everywhere else, all of them add up to what the devices have.
use Rattle.std.proofs.Common.{
  ◌≡◌,
  ◌≢◌,
  ◌<◌,
  ◌+◌,
  ◌==◌,
  zero,
  suc,
  ℕ,
  Bool,
  true,
  false,
  List,
  [],
  ◌∷◌,
  length,
  Some,
  set,
  get_or,
  refl,
  sym,
  ap,
  subst,
  ◌∙◌,
  arith,
  eqb-true,
  ◌⊎◌,
  inl,
  inr,
}
use Rattle.std.proofs.lemmas.Bool.{cases_eq}
use Rattle.std.proofs.lemmas.List.{get_or-set_same, get_or-set_other, length-set, set-get_or}
use Rattle.std.proofs.lemmas.List.Sums.{sum_by-cons}
use Rattle.std.specs.List.{sum}
use Rattle.std.specs.Prelude.{if◌then◌else◌, map}
use Rattle.device_outside.specs.Lists as L
use Rattle.device_outside.specs.Lists.{is_in}
use Rattle.subsystem_defs.specs.Subsystem.{Mounted, number_of, mounted_in, put_in}
use Rattle.subsystem_laws.specs.Waits.{waiting_of, waiting_in}

-- Sums by place

abbrev below : ℕ → (ℕ → ℕ) → ℕ
below zero g = 0
below (suc n) g = below n g + g n

below_same : (n : ℕ) (g h : ℕ → ℕ) → ((q : ℕ) → q < n → g q ≡ h q) → below n g ≡ below n h
below_same zero g h e = refl
below_same (suc n) g h e =
    ap (λ (k : ℕ). k + g n) (below_same n g h (λ q lt. e q (omega arith))) ∙ ap (λ (k : ℕ). below n h + k) (e n (omega arith))

below_none : (n : ℕ) (g : ℕ → ℕ) → ((q : ℕ) → g q ≡ 0) → below n g ≡ 0
below_none zero g e = refl
below_none (suc n) g e = let before = below_none n g e in let here = e n in omega (arith, before, here)

first_out : (n : ℕ) (g : ℕ → ℕ) → below (suc n) g ≡ g 0 + below n (λ i. g (suc i))
first_out zero g = omega arith
first_out (suc n) g = let more = first_out n g in omega (arith, more)

sum_is : (xs : List ℕ) → sum xs ≡ below (length xs) (λ i. get_or xs i 0)
sum_is [] = refl
sum_is (x ∷ xs) =
    sum_by-cons (λ (k : ℕ). k) x xs ∙ ap (λ (k : ℕ). x + k) (sum_is xs) ∙ sym (first_out (length xs) (λ i. get_or (x ∷ xs) i 0))

-- with one place taken out
taken_out : (n : ℕ) (g h : ℕ → ℕ) (at : ℕ) → at < n → h at ≡ 0 → ((q : ℕ) → q ≢ at → h q ≡ g q) → below n g ≡ g at + below n h
taken_out zero g h at lt none other = absurd (omega (arith, lt))
taken_out (suc n) g h at lt none other = by_place (cases_eq n at) (λ less. taken_out n g h at less none other)
  where
    by_place : ((n ≡ at) ⊎ (n ≢ at)) → (at < n → below n g ≡ g at + below n h) → below (suc n) g ≡ g at + below (suc n) h
    by_place (inl is) rest =
        let same : below n g ≡ below n h = below_same n g h (λ q less. sym (other q (λ e. absurd (omega (arith, e, is, less))))) in
        let here : g n ≡ g at = ap g is in
        let zero_there : h n ≡ 0 = ap h is ∙ none in
        omega (arith, same, here, zero_there)
    by_place (inr ne) rest =
        let more = rest (let apart : n ≢ at = ne in omega (arith, lt, apart)) in
        let here : h n ≡ g n = other n ne in
        omega (arith, more, here)

-- Numbers that were seen

pub in_first : (n : ℕ) (seen : List ℕ) → is_in n (n ∷ seen) ≡ true
unfolding L.is_in
in_first n seen = let same : (n == n) ≡ true = grind arith in ap (λ (b : Bool). if b then true else is_in n seen) same

pub in_more : (q n : ℕ) (seen : List ℕ) → is_in q seen ≡ true → is_in q (n ∷ seen) ≡ true
unfolding L.is_in
in_more q n seen e = by_test (q == n)
  where
    by_test : (b : Bool) → (if b then true else is_in q seen) ≡ true
    by_test true = refl
    by_test false = e

pub apart : (q n : ℕ) (seen : List ℕ) → is_in q seen ≡ false → is_in n seen ≡ true → q ≢ n
apart q n seen out here e = absurd (let both : true ≡ false = sym here ∙ sym (ap (λ (k : ℕ). is_in k seen) e) ∙ out in cc)

out_more : (q n : ℕ) (seen : List ℕ) → (q ≢ n) → is_in q seen ≡ false → is_in q (n ∷ seen) ≡ false
unfolding L.is_in
out_more q n seen ne out = by_test (q == n) refl
  where
    by_test : (b : Bool) → (q == n) ≡ b → (if b then true else is_in q seen) ≡ false
    by_test true is = absurd (ne (eqb-true q n is))
    by_test false is = out

more_same : (q n : ℕ) (seen : List ℕ) → q ≢ n → is_in q (n ∷ seen) ≡ is_in q seen
unfolding L.is_in
more_same q n seen ne = by_test (q == n) refl
  where
    by_test : (b : Bool) → (q == n) ≡ b → (if b then true else is_in q seen) ≡ is_in q seen
    by_test true test = absurd (ne (eqb-true q n test))
    by_test false test = refl

-- The devices, behind those with these numbers

pub data AreTold (ws : List ℕ) : List ℕ → List Mounted → Type 0 where
  none_told : {seen : List ℕ} → ((q : ℕ) → is_in q seen ≡ false → get_or ws q 0 ≡ 0) → AreTold ws seen []
  one_told : {seen : List ℕ} (n : ℕ) {m : Mounted} {ms : List Mounted} → number_of m ≡ n → is_in n seen ≡ false → n < length ws →
      get_or ws n 0 ≡ waiting_of m.device → AreTold ws (n ∷ seen) ms → AreTold ws seen (m ∷ ms)

-- the number of one that was seen counts for nothing
pub told_past : {ws seen : List ℕ} {ms : List Mounted} (n k : ℕ) → is_in n seen ≡ true → AreTold ws seen ms → AreTold (set ws n k) seen ms
told_past {ws} {seen} n k here (none_told h) = none_told (λ q out. get_or-set_other ws n q k 0 (apart q n seen out here) ∙ h q out)
told_past {ws} {seen} n k here (one_told number own out lt is rest) =
    one_told number own out (let long : length (set ws n k) ≡ length ws = length-set ws n k in omega (arith, long, lt))
    (get_or-set_other ws n number k 0 (apart number n seen out here) ∙ is) (told_past n k (in_more n number seen here) rest)

-- the one that is looked for stands behind another
past : (n : ℕ) (x : Mounted) (ms : List Mounted) (m : Mounted) (b : Bool) → b ≡ false → (if b then Some x else mounted_in ms n) ≡ Some m →
    mounted_in ms n ≡ Some m
past n x ms m true e at = absurd (cc)
past n x ms m false e at = at

-- another one in the place of a device, and its number
module _ (n : ℕ) (y : Mounted) (is_y : number_of y ≡ n) where
  put_if : {ws seen : List ℕ} (number : ℕ) (x : Mounted) (ms : List Mounted) (m : Mounted) (b : Bool) → (number_of x == n) ≡ b → number_of x ≡ number →
      is_in n seen ≡ false → is_in number seen ≡ false → number < length ws → get_or ws number 0 ≡ waiting_of x.device → AreTold ws (number ∷ seen) ms →
      ((number_of x == n) ≡ false → is_in n (number ∷ seen) ≡ false → AreTold (set ws n (waiting_of y.device)) (number ∷ seen) (put_in ms n y)) →
      AreTold (set ws n (waiting_of y.device)) seen (if b then y ∷ ms else x ∷ put_in ms n y)
  put_if {ws} {seen} number x ms m true test own free out lt is rest more =
      let same : number ≡ n = sym own ∙ eqb-true (number_of x) n test in
      let k = waiting_of y.device in
      one_told n is_y free
      (let long : length (set ws n k) ≡ length ws = length-set ws n k in omega (arith, long, lt, same))
      (get_or-set_same ws n k 0 (omega (arith, lt, same)))
      (told_past n k (in_first n seen) (subst (λ (i : ℕ). AreTold ws (i ∷ seen) ms) same rest))
  put_if {ws} {seen} number x ms m false test own free out lt is rest more =
      let ne : n ≢ number = λ e. absurd (
      let same : number_of x ≡ n = own ∙ sym e in
      let own_is : (n == n) ≡ true = grind arith in
      let both : true ≡ false = sym own_is ∙ sym (ap (λ (i : ℕ). i == n) same) ∙ test in cc) in
      let k = waiting_of y.device in
      one_told number own out (let long : length (set ws n k) ≡ length ws = length-set ws n k in omega (arith, long, lt))
      (get_or-set_other ws n number k 0 (λ e. ne (sym e)) ∙ is) (more test (out_more n number seen ne free))

  pub told_put : {ws seen : List ℕ} (ms : List Mounted) (m : Mounted) → is_in n seen ≡ false → AreTold ws seen ms → mounted_in ms n ≡ Some m →
      AreTold (set ws n (waiting_of y.device)) seen (put_in ms n y)
  told_put [] m free t at = absurd (cc)
  told_put (x ∷ ms) m free (one_told number own out lt is rest) at =
      put_if number x ms m (number_of x == n) refl own free out lt is rest (λ test more. told_put ms m more rest (past n x ms m (number_of x == n) test at))

found_if : (ws : List ℕ) (n : ℕ) (x m : Mounted) (ms : List Mounted) (b : Bool) → (number_of x == n) ≡ b → (if b then Some x else mounted_in ms n) ≡ Some m →
    ((number_of x ≡ n) → get_or ws n 0 ≡ waiting_of x.device) → (mounted_in ms n ≡ Some m → get_or ws n 0 ≡ waiting_of m.device) →
    get_or ws n 0 ≡ waiting_of m.device
found_if ws n x m ms true test at here more =
    let same : x ≡ m = cc in subst (λ (y : Mounted). get_or ws n 0 ≡ waiting_of y.device) same (here (eqb-true (number_of x) n test))
found_if ws n x m ms false test at here more = more at

-- its number
pub told_at : {ws seen : List ℕ} (ms : List Mounted) (n : ℕ) (m : Mounted) → AreTold ws seen ms → mounted_in ms n ≡ Some m → get_or ws n 0 ≡ waiting_of m.device
told_at [] n m t at = absurd (cc)
told_at {ws} (x ∷ ms) n m (one_told number own out lt is rest) at =
    found_if ws n x m ms (number_of x == n) refl at
    (λ same. subst (λ (k : ℕ). get_or ws k 0 ≡ waiting_of x.device) (sym own ∙ same) is) (told_at ms n m rest)

-- one of the same number, of which as many tracks wait
pub told_same : {ws : List ℕ} (ms : List Mounted) (n : ℕ) (m y : Mounted) → number_of y ≡ n → AreTold ws [] ms → mounted_in ms n ≡ Some m →
    waiting_of y.device ≡ waiting_of m.device → AreTold ws [] (put_in ms n y)
unfolding L.is_in
told_same {ws} ms n m y own t at same =
    subst (λ (l : List ℕ). AreTold l [] (put_in ms n y)) (ap (λ (k : ℕ). set ws n k) (same ∙ sym (told_at ms n m t at)) ∙ set-get_or ws n 0)
    (told_put n y own ms m refl t at)

-- The sum

abbrev left_in : List ℕ → List ℕ → ℕ → ℕ
left_in seen ws q = if is_in q seen then 0 else get_or ws q 0

left_off : (seen ws : List ℕ) (q : ℕ) (b : Bool) → is_in q seen ≡ b → (is_in q seen ≡ false → get_or ws q 0 ≡ 0) → (if b then 0 else get_or ws q 0) ≡ 0
left_off seen ws q true e h = refl
left_off seen ws q false e h = h e

told_sum : {ws seen : List ℕ} {ms : List Mounted} → AreTold ws seen ms →
    below (length ws) (left_in seen ws) ≡ waiting_in (map (λ (m : Mounted). m.device) ms)
told_sum {ws} {seen} (none_told h) = below_none (length ws) (left_in seen ws) (λ q. left_off seen ws q (is_in q seen) refl (h q))
told_sum {ws} {seen} (one_told n {m} own out lt is rest) =
    taken_out (length ws) (left_in seen ws) (left_in (n ∷ seen) ws) n lt
    (ap (λ (b : Bool). if b then 0 else get_or ws n 0) (in_first n seen))
    (λ q ne. ap (λ (b : Bool). if b then 0 else get_or ws q 0) (more_same q n seen ne))
    ∙ ap (λ (k : ℕ). k + below (length ws) (left_in (n ∷ seen) ws)) (ap (λ (b : Bool). if b then 0 else get_or ws n 0) out ∙ is)
    ∙ ap (λ (k : ℕ). waiting_of m.device + k) (told_sum rest)

pub sum_told : {ws : List ℕ} {ms : List Mounted} → AreTold ws [] ms → sum ws ≡ waiting_in (map (λ (m : Mounted). m.device) ms)
unfolding L.is_in
sum_told {ws} t = sum_is ws ∙ told_sum t
