-- The stubs of a history tell of each path what the history tells.
use Rattle.std.proofs.Common.{◌≡◌, ℕ, ◌+◌, ◌==◌, ◌||◌, ◌&&◌, ◌≤◌, not, Bool, true, false, cond, List, [], ◌∷◌, ◌++◌, inl, inr, refl, sym, ap, ◌∙◌, arith}
use Rattle.std.specs.Prelude.{◌⊎◌, count_by}
use Rattle.std.proofs.lemmas.Bool.{and_parts, false≢true}
use Rattle.std.proofs.lemmas.List.Sums.{sum_by-cons}
use Rattle.plain_defs.specs.declared.journal.Item.{Item}
use Rattle.plain_defs.specs.declared.journal.Item.TheVariants.{Program, Reset, Fresh, Act, Power}
use Rattle.plain_defs.specs.Legal.{is_of_path, is_started, is_used, started_by, used_by}
use Rattle.past_laws.specs.Forgotten.{power_by, stub_by}
use Rattle.past_laws.proofs.Items.{count_behind, started_behind, used_behind}
use Rattle.past_laws.proofs.Plans.{IsPath, first, fourth, second, third}

-- of four paths: whether they started none, and whether they used something
pub record Four : Type 0 where
  pub none : ℕ → Bool
  pub used : ℕ → Bool

abbrev pub four : Four → List Item
four f = stub_by (f.none 1) (f.used 1) 1 ++ stub_by (f.none 2) (f.used 2) 2 ++ stub_by (f.none 3) (f.used 3) 3 ++ stub_by (f.none 4) (f.used 4) 4

-- ---- of one path

other_used : (p q : ℕ) → (q == p) ≡ false → (none used b : Bool) → is_used p b (stub_by none used q) ≡ b
other_used p q other true used b = refl
other_used p q other false true b = rw other refl
other_used p q other false false b = rw other refl

own_used : (p : ℕ) → (p == p) ≡ true → (none used : Bool) → is_used p false (stub_by none used p) ≡ (not none && used)
own_used p own true used = refl
own_used p own false true = rw own refl
own_used p own false false = rw own refl

other_count : (p q : ℕ) → (q == p) ≡ false → (none used : Bool) → count_by (is_of_path p) (stub_by none used q) ≡ 0
other_count p q other true used = refl
other_count p q other false true = rw other refl
other_count p q other false false = rw other refl

abbrev pub one_by : Bool → ℕ
one_by true = 0
one_by false = 1

own_count : (p : ℕ) → (p == p) ≡ true → (none used : Bool) → count_by (is_of_path p) (stub_by none used p) ≡ one_by none
own_count p own true used = refl
own_count p own false true = rw own refl
own_count p own false false = rw own refl

stub_started : (q : ℕ) (none used b : Bool) → is_started b (stub_by none used q) ≡ (b || not none)
stub_started q true true true = refl
stub_started q true true false = refl
stub_started q true false true = refl
stub_started q true false false = refl
stub_started q false true true = refl
stub_started q false true false = refl
stub_started q false false true = refl
stub_started q false false false = refl

or_true : (a : Bool) → (a || true) ≡ true
or_true true = refl
or_true false = refl

or_second : (a c d : Bool) → (a || true || c || d) ≡ true
or_second true c d = refl
or_second false c d = refl

or_third : (a b d : Bool) → (a || b || true || d) ≡ true
or_third true b d = refl
or_third false true d = refl
or_third false false d = refl

-- ---- of all four

module _ (f : Four) where
  abbrev s : ℕ → List Item
  s path = stub_by (f.none path) (f.used path) path

  used_four : (p : ℕ) → is_used p false (four f) ≡ is_used p (is_used p (is_used p (is_used p false (s 1)) (s 2)) (s 3)) (s 4)
  used_four p =
      used_behind p false (s 1 ++ s 2 ++ s 3) (s 4)
      ∙ ap (λ (b : Bool). is_used p b (s 4)) (used_behind p false (s 1 ++ s 2) (s 3)
      ∙ ap (λ (b : Bool). is_used p b (s 3)) (used_behind p false (s 1) (s 2)))

  pub used_is : {p : ℕ} → IsPath p → is_used p false (four f) ≡ (not (f.none p) && f.used p)
  used_is first = used_four 1 ∙ rw (
    own_used 1 refl (f.none 1) (f.used 1),
    other_used 1 2 refl (f.none 2) (f.used 2) (not (f.none 1) && f.used 1),
    other_used 1 3 refl (f.none 3) (f.used 3) (not (f.none 1) && f.used 1),
    other_used 1 4 refl (f.none 4) (f.used 4) (not (f.none 1) && f.used 1),
  ) refl
  used_is second = used_four 2 ∙ rw (
    other_used 2 1 refl (f.none 1) (f.used 1) false,
    own_used 2 refl (f.none 2) (f.used 2),
    other_used 2 3 refl (f.none 3) (f.used 3) (not (f.none 2) && f.used 2),
    other_used 2 4 refl (f.none 4) (f.used 4) (not (f.none 2) && f.used 2),
  ) refl
  used_is third = used_four 3 ∙ rw (
    other_used 3 1 refl (f.none 1) (f.used 1) false,
    other_used 3 2 refl (f.none 2) (f.used 2) false,
    own_used 3 refl (f.none 3) (f.used 3),
    other_used 3 4 refl (f.none 4) (f.used 4) (not (f.none 3) && f.used 3),
  ) refl
  used_is fourth = used_four 4 ∙ rw (
    other_used 4 1 refl (f.none 1) (f.used 1) false,
    other_used 4 2 refl (f.none 2) (f.used 2) false,
    other_used 4 3 refl (f.none 3) (f.used 3) false,
    own_used 4 refl (f.none 4) (f.used 4),
  ) refl

  count_four : (p : ℕ) → count_by (is_of_path p) (four f)
      ≡ count_by (is_of_path p) (s 1) + count_by (is_of_path p) (s 2) + count_by (is_of_path p) (s 3) + count_by (is_of_path p) (s 4)
  count_four p =
      count_behind (is_of_path p) (s 1 ++ s 2 ++ s 3) (s 4)
      ∙ ap (λ (n : ℕ). n + count_by (is_of_path p) (s 4)) (count_behind (is_of_path p) (s 1 ++ s 2) (s 3)
      ∙ ap (λ (n : ℕ). n + count_by (is_of_path p) (s 3)) (count_behind (is_of_path p) (s 1) (s 2)))

  pub count_is : {p : ℕ} → IsPath p → count_by (is_of_path p) (four f) ≡ one_by (f.none p)
  count_is first = omega (
    arith,
    count_four 1,
    own_count 1 refl (f.none 1) (f.used 1),
    other_count 1 2 refl (f.none 2) (f.used 2),
    other_count 1 3 refl (f.none 3) (f.used 3),
    other_count 1 4 refl (f.none 4) (f.used 4),
  )
  count_is second = omega (
    arith,
    count_four 2,
    other_count 2 1 refl (f.none 1) (f.used 1),
    own_count 2 refl (f.none 2) (f.used 2),
    other_count 2 3 refl (f.none 3) (f.used 3),
    other_count 2 4 refl (f.none 4) (f.used 4),
  )
  count_is third = omega (
    arith,
    count_four 3,
    other_count 3 1 refl (f.none 1) (f.used 1),
    other_count 3 2 refl (f.none 2) (f.used 2),
    own_count 3 refl (f.none 3) (f.used 3),
    other_count 3 4 refl (f.none 4) (f.used 4),
  )
  count_is fourth = omega (
    arith,
    count_four 4,
    other_count 4 1 refl (f.none 1) (f.used 1),
    other_count 4 2 refl (f.none 2) (f.used 2),
    other_count 4 3 refl (f.none 3) (f.used 3),
    own_count 4 refl (f.none 4) (f.used 4),
  )

  pub started_four : is_started false (four f) ≡ (not (f.none 1) || not (f.none 2) || not (f.none 3) || not (f.none 4))
  started_four =
      started_behind false (s 1 ++ s 2 ++ s 3) (s 4)
      ∙ ap (λ (b : Bool). is_started b (s 4)) (started_behind false (s 1 ++ s 2) (s 3)
      ∙ ap (λ (b : Bool). is_started b (s 3)) (started_behind false (s 1) (s 2)
      ∙ ap (λ (b : Bool). is_started b (s 2)) (stub_started 1 (f.none 1) (f.used 1) false) ∙ stub_started 2 (f.none 2) (f.used 2) (not (f.none 1)))
      ∙ stub_started 3 (f.none 3) (f.used 3) (not (f.none 1) || not (f.none 2)))
      ∙ stub_started 4 (f.none 4) (f.used 4) (not (f.none 1) || not (f.none 2) || not (f.none 3))

  pub started_is : {p : ℕ} → IsPath p → f.none p ≡ false → is_started false (four f) ≡ true
  started_is first some = started_four ∙ rw some refl
  started_is second some = started_four ∙ rw some (or_second (not (f.none 1)) (not (f.none 3)) (not (f.none 4)))
  started_is third some = started_four ∙ rw some (or_third (not (f.none 1)) (not (f.none 2)) (not (f.none 4)))
  started_is fourth some = started_four ∙ rw some (or_true (not (f.none 1) || not (f.none 2) || not (f.none 3)))

-- ---- with a loss of power behind

pub used_powered : (p : ℕ) (xs : List Item) (ran : Bool) (used : Bool) → is_used p false xs ≡ used → (ran ≡ false → used ≡ false) →
    is_used p false (xs ++ power_by ran) ≡ used
used_powered p xs true used is none = used_behind p false xs [] ∙ is
used_powered p xs false used is none = used_behind p false xs (Power ∷ []) ∙ sym (none refl)

pub count_powered : (p : ℕ) (xs : List Item) (ran : Bool) → count_by (is_of_path p) (xs ++ power_by ran) ≡ count_by (is_of_path p) xs
count_powered p xs true = count_behind (is_of_path p) xs [] ∙ omega arith
count_powered p xs false = count_behind (is_of_path p) xs (Power ∷ []) ∙ omega arith

pub started_powered : (xs : List Item) (ran : Bool) → (ran ≡ true → is_started false xs ≡ true) → is_started false (xs ++ power_by ran) ≡ ran
started_powered xs true some = started_behind false xs [] ∙ some refl
started_powered xs false some = started_behind false xs (Power ∷ [])

-- ---- what a journal says of its paths

-- a path that used something started a program, since the power came
pub used_started : (p : ℕ) (xs : List Item) (u s : Bool) → (u ≡ true → s ≡ true) → is_used p u xs ≡ true → is_started s xs ≡ true
used_started p [] u s f is = f is
used_started p (x ∷ xs) u s f is = used_started p xs (used_by p u x) (started_by s x) (step x) is
  where
    step : (x : Item) → used_by p u x ≡ true → started_by s x ≡ true
    step (Program e) is = refl
    step (Reset q) is = f (and_parts (not (q == p)) u is).1
    step Fresh is = f is
    step (Act act) is = f is
    step Power is = absurd (false≢true is)

or_cases : (a b : Bool) → (a || b) ≡ true → (b ≡ true) ⊎ (a ≡ true)
or_cases true b is = inr refl
or_cases false b is = inl is

counted : (p : ℕ) (x : Item) (xs : List Item) → count_by (is_of_path p) (x ∷ xs) ≡ cond (is_of_path p x) 1 0 + count_by (is_of_path p) xs
counted p x xs = sum_by-cons (λ (y : Item). cond (is_of_path p y) 1 0) x xs

pub used_counts : (p : ℕ) (xs : List Item) (u : Bool) → is_used p u xs ≡ true → (u ≡ true) ⊎ (1 ≤ count_by (is_of_path p) xs)
used_counts p [] u is = inl is
used_counts p (x ∷ xs) u is = elim (used_counts p xs (used_by p u x) is) [
  | inl e ↦ elim (step x e) [ inl before ↦ inl before | inr own ↦ inr (omega (arith, counted p x xs, ap {B = ℕ} (λ (b : Bool). cond b 1 0) own)) ]
  | inr some ↦ inr (omega (arith, counted p x xs, some))
]
  where
    step : (y : Item) → used_by p u y ≡ true → (u ≡ true) ⊎ (is_of_path p y ≡ true)
    step (Program e) is = or_cases (e.path == p) u is
    step (Reset q) is = inl (and_parts (not (q == p)) u is).1
    step Fresh is = inl is
    step (Act act) is = inl is
    step Power is = absurd (false≢true is)
