-- How many tracks are marked, where one mark changes.
use Rattle.std.proofs.Common.{◌≡◌, ◌∙◌, ◌+◌, ◌<◌, ◌≤◌, ◌==◌, ℕ, zero, suc, inl, inr, Bool, true, false, List, length, refl, sym, ap, arith}
use Rattle.std.specs.Prelude.{if◌then◌else◌}
use Rattle.std.proofs.lemmas.Bool.{cases_eq, cases_lt, eq-eqb, ne_eqb}
use Rattle.std.proofs.lemmas.List.{get_or_past}
use Rattle.track_table.specs.Bits.{is_marked}
use Rattle.track_table.specs.Tracks.{count_below}

abbrev pub one_if : Bool → ℕ
one_if b = if b then 1 else 0

pub few_marked : (n : ℕ) (f : ℕ → Bool) → count_below n f ≤ n
unfolding count_below
few_marked zero f = omega arith
few_marked (suc n) f = one_by (f n) (few_marked n f) where
  one_by : (b : Bool) → count_below n f ≤ n → count_below n f + (if b then 1 else 0) ≤ suc n
  one_by true le = omega (arith, le)
  one_by false le = omega (arith, le)

-- the same below n, and on n and behind none
same_front : (n : ℕ) (f g : ℕ → Bool) (t : ℕ) (b : Bool) → ((q : ℕ) → g q ≡ (if q == t then b else f q)) → n ≤ t → count_below n g ≡ count_below n f
unfolding count_below
same_front zero f g t b each le = refl
same_front (suc n) f g t b each le =
    let other : g n ≡ f n = each n ∙ rw (ne_eqb n t (λ (e : n ≡ t). omega (arith, e, le))) refl in
    rw (same_front n f g t b each (omega (arith, le)), other) refl

swapped : (a b c d e : ℕ) → a ≡ c → a + b + d ≡ c + d + b
swapped a b c d e is = omega (arith, is)

pub count_set : (n : ℕ) (f g : ℕ → Bool) (t : ℕ) (b : Bool) → ((q : ℕ) → g q ≡ (if q == t then b else f q)) → t < n →
    count_below n g + one_if (f t) ≡ count_below n f + one_if b
unfolding count_below
count_set zero f g t b each lt = absurd (omega (arith, lt))
count_set (suc n) f g t b each lt = elim (cases_eq n t) [
  | inl same ↦ (
      let here : g n ≡ b = each n ∙ rw (eq-eqb n t same) refl in
      let there : f t ≡ f n = ap f (sym same) in
      rw (here, there, same_front n f g t b each (omega (arith, same))) (swapped (count_below n f) (one_if b) (count_below n f) (one_if (f n)) 0 refl)
      )
  | inr differs ↦ (
      let other : g n ≡ f n = each n ∙ rw (ne_eqb n t differs) refl in
      let before : count_below n g + one_if (f t) ≡ count_below n f + one_if b = count_set n f g t b each (omega (arith, lt, differs)) in
      rw other (moved (count_below n g) (one_if (f t)) (count_below n f) (one_if b) (one_if (f n)) before)
      )
]
  where
    moved : (a b c d e : ℕ) → a + b ≡ c + d → a + e + b ≡ c + e + d
    moved a b c d e is = omega (arith, is)

pub marked_one : (n : ℕ) (f : ℕ → Bool) (t : ℕ) → t < n → f t ≡ true → 1 ≤ count_below n f
marked_one n f t lt is =
    let less = count_set n f (λ q. if q == t then false else f q) t false (λ q. refl) lt in
    let one : one_if (f t) ≡ 1 = ap one_if is in
    omega (arith, less, one)

none_by : (b : Bool) → (b ≡ true → ⊥) → b ≡ false
none_by true f = absurd (f refl)
none_by false f = refl

pub none_marked : (marks : List Bool) → length marks ≤ 65535 → count_below 65535 (is_marked marks) ≡ 0 → (t : ℕ) → is_marked marks t ≡ false
none_marked marks few none t = elim (cases_lt t 65535) [
  | inl below ↦ none_by (is_marked marks t) (λ is. let one = marked_one 65535 (is_marked marks) t below is in omega (arith, one, none))
  | inr past ↦ get_or_past marks t false (omega (arith, few, past))
]

pub no_mark : (n : ℕ) (f : ℕ → Bool) → ((t : ℕ) → f t ≡ false) → count_below n f ≡ 0
unfolding count_below
no_mark zero f none = refl
no_mark (suc n) f none = rw (none n) (let before = no_mark n f none in omega (arith, before))
