-- Counts of marks, where one more or one less is marked.
use Rattle.std.proofs.Common.{◌≡◌, ◌∙◌, ◌+◌, ◌<◌, ◌≤◌, ◌==◌, ℕ, zero, suc, inl, inr, Bool, true}
use Rattle.std.proofs.Common.{false, Option, None, Some, refl, sym, ap, arith}
use Rattle.std.specs.Prelude.{if◌then◌else◌, is_some}
use Rattle.std.proofs.lemmas.Bool.{cases_eq, eq-eqb, ne_eqb}
use Rattle.track_table.specs.Tracks as tracks
use Rattle.track_table.specs.Tracks.{count_below, least, or_else}

pub count_same : (n : ℕ) (f g : ℕ → Bool) → ((q : ℕ) → f q ≡ g q) → count_below n f ≡ count_below n g
unfolding tracks.count_below
count_same zero f g same = refl
count_same (suc n) f g same = rw (count_same n f g same, same n) refl

-- the same below n, and on n and behind none
count_front : (n : ℕ) (f g : ℕ → Bool) (t : ℕ) (b : Bool) → ((q : ℕ) → g q ≡ (if q == t then b else f q)) → n ≤ t → count_below n g ≡ count_below n f
unfolding tracks.count_below
count_front zero f g t b each le = refl
count_front (suc n) f g t b each le =
    let other : g n ≡ f n = each n ∙ rw (ne_eqb n t (λ (e : n ≡ t). omega (arith, e, le))) refl in
    rw (count_front n f g t b each (omega (arith, le)), other) refl

pub count_one_more : (n : ℕ) (f g : ℕ → Bool) (t : ℕ) → ((q : ℕ) → g q ≡ (if q == t then true else f q)) → t < n → f t ≡ false →
    count_below n g ≡ count_below n f + 1
unfolding tracks.count_below
count_one_more zero f g t each lt none = absurd (omega (arith, lt))
count_one_more (suc n) f g t each lt none = elim (cases_eq n t) [
  | inl same ↦ (
      let here : g n ≡ true = each n ∙ rw (eq-eqb n t same) refl in
      let was : f n ≡ false = ap f same ∙ none in
      rw (here, was, count_front n f g t true each (omega (arith, same))) (omega arith)
      )
  | inr differs ↦ (
      let other : g n ≡ f n = each n ∙ rw (ne_eqb n t differs) refl in
      rw (other, count_one_more n f g t each (omega (arith, lt, differs)) none) (omega arith)
      )
]

pub count_one_less : (n : ℕ) (f g : ℕ → Bool) (t : ℕ) → ((q : ℕ) → g q ≡ (if q == t then false else f q)) → t < n → f t ≡ true →
    count_below n g + 1 ≡ count_below n f
unfolding tracks.count_below
count_one_less zero f g t each lt some = absurd (omega (arith, lt))
count_one_less (suc n) f g t each lt some = elim (cases_eq n t) [
  | inl same ↦ (
      let here : g n ≡ false = each n ∙ rw (eq-eqb n t same) refl in
      let was : f n ≡ true = ap f same ∙ some in
      rw (here, was, count_front n f g t false each (omega (arith, same))) (omega arith)
      )
  | inr differs ↦ (
      let other : g n ≡ f n = each n ∙ rw (ne_eqb n t differs) refl in
      let before : count_below n g + 1 ≡ count_below n f = count_one_less n f g t each (omega (arith, lt, differs)) some in
      rw other (omega (arith, before))
      )
]

pub count_none : (n : ℕ) (f : ℕ → Bool) → ((t : ℕ) → f t ≡ false) → count_below n f ≡ 0
unfolding tracks.count_below
count_none zero f none = refl
count_none (suc n) f none = rw (none n) (let before = count_none n f none in omega (arith, before))

-- the least of those below n, where none is behind
pub least_front : (n k : ℕ) (f : ℕ → Bool) → ((q : ℕ) → n ≤ q → f q ≡ false) → least (n + k) f ≡ least n f
unfolding tracks.least
least_front n zero f none = let e : n + 0 ≡ n = omega arith in rw e refl
least_front n (suc k) f none =
    let e : n + suc k ≡ suc (n + k) = omega arith in
    rw (e, none (n + k) (omega arith)) (or_none (least (n + k) f) ∙ least_front n k f none)
  where
    or_none : (x : Option ℕ) → or_else x None ≡ x
    or_none None = refl
    or_none (Some t) = refl

pub least_same : (n : ℕ) (f g : ℕ → Bool) → ((q : ℕ) → f q ≡ g q) → least n f ≡ least n g
unfolding tracks.least
least_same zero f g same = refl
least_same (suc n) f g same = rw (least_same n f g same, same n) refl

pub counted_one : (n : ℕ) (f : ℕ → Bool) (t : ℕ) → t < n → f t ≡ true → 1 ≤ count_below n f
counted_one n f t lt is =
    let less = count_one_less n f (λ q. if q == t then false else f q) t (λ q. refl) lt is in
    omega (arith, less)

or_none : (x : Option ℕ) → is_some (or_else x None) ≡ is_some x
or_none None = refl
or_none (Some t) = refl

some_by : (x : Option ℕ) (n c : ℕ) (b : Bool) → is_some (or_else x (if b then Some n else None)) ≡ true → (is_some x ≡ true → 1 ≤ c) →
    1 ≤ c + (if b then 1 else 0)
some_by x n c true e before = omega arith
some_by x n c false e before = let one = before (sym (or_none x) ∙ e) in omega (arith, one)

-- some passes where one is the least
pub some_counted : (n : ℕ) (f : ℕ → Bool) → is_some (least n f) ≡ true → 1 ≤ count_below n f
unfolding tracks.least tracks.count_below
some_counted zero f e = absurd cc
some_counted (suc n) f e = some_by (least n f) n (count_below n f) (f n) e (some_counted n f)
