-- Whether a track from one on up to before another is loose.
use Rattle.std.proofs.Common.{◌≡◌, ◌∙◌, ◌+◌, ◌<◌, ◌≤◌, ℕ, zero, suc, Bool, true, false, List, length, Option, Some, None, refl, ap, sym, arith, inl, inr}
use Rattle.std.specs.Prelude.{◌&&◌, is_some, nat_le, if◌then◌else◌}
use Rattle.std.proofs.lemmas.Bool.{cases_lt}
use Rattle.std.proofs.lemmas.Bool.Decides.{nat_tests}
use Rattle.track_table.specs.Tracks as tracks
use Rattle.track_table.specs.Tracks.{least, or_else}
use Rattle.event_notes.specs.Loose.{is_loose_in}
use Rattle.device_store.proofs.Losing.{none_marked}

is_le : (a b : ℕ) → a ≤ b → nat_le a b ≡ true
is_le a b le = grind (arith, nat_tests)

is_more : (a b : ℕ) → b < a → nat_le a b ≡ false
is_more a b lt = grind (arith, nat_tests)

abbrev pub looked_loose : List Bool → ℕ → ℕ → Bool
looked_loose loose first q = nat_le first q && is_loose_in loose q

none_by : (x : Option ℕ) (n : ℕ) (b : Bool) → x ≡ None → b ≡ false → or_else x (if b then Some n else None) ≡ None
none_by None n false none is = refl
none_by None n true none is = absurd cc
none_by (Some t) n b none is = absurd cc

some_later : (x : Option ℕ) (n : ℕ) (b : Bool) → b ≡ true → is_some (or_else x (if b then Some n else None)) ≡ true
some_later (Some t) n b is = refl
some_later None n true is = refl
some_later None n false is = absurd cc

some_first : (x y : Option ℕ) → is_some x ≡ true → is_some (or_else x y) ≡ true
some_first (Some t) y is = refl
some_first None y is = absurd cc

none_until : (p : ℕ → Bool) (n : ℕ) → ((q : ℕ) → q < n → p q ≡ false) → least n p ≡ None
unfolding tracks.least
none_until p zero none = refl
none_until p (suc n) none = none_by (least n p) n (p n) (none_until p n (λ q lt. none q (omega (arith, lt)))) (none n (omega arith))

some_until : (p : ℕ → Bool) (n q : ℕ) → q < n → p q ≡ true → is_some (least n p) ≡ true
unfolding tracks.least
some_until p zero q lt is = absurd (omega (arith, lt))
some_until p (suc n) q lt is = elim (cases_lt q n) [
  | inl less ↦ some_first (least n p) _ (some_until p n q less is)
  | inr more ↦ let same : q ≡ n = omega (arith, lt, more) in some_later (least n p) n (p n) (ap p (sym same) ∙ is)
]

before_first : (b l : Bool) → b ≡ false → (b && l) ≡ false
before_first false l is = refl
before_first true l is = absurd cc

behind_first : (b l : Bool) → b ≡ true → l ≡ true → (b && l) ≡ true
behind_first true true b l = refl
behind_first true false b l = absurd cc
behind_first false l b is = absurd cc

firm_one : (b l : Bool) → l ≡ false → (b && l) ≡ false
firm_one true l is = is
firm_one false l is = refl

module _ (loose : List Bool) (first : ℕ) where
  -- none up to before the first
  pub none_before : (q : ℕ) → q < first → looked_loose loose first q ≡ false
  none_before q lt = before_first (nat_le first q) (is_loose_in loose q) (is_more first q lt)

  -- and none with one that isn't loose
  pub none_with : (n : ℕ) → ((q : ℕ) → q < n → looked_loose loose first q ≡ false) → is_loose_in loose n ≡ false → (q : ℕ) → q < n + 1 →
      looked_loose loose first q ≡ false
  none_with n none is q lt = elim (cases_lt q n) [
    | inl less ↦ none q less
    | inr more ↦ let same : q ≡ n = omega (arith, lt, more) in firm_one (nat_le first q) (is_loose_in loose q) (ap (is_loose_in loose) same ∙ is)
  ]

  -- up to before t none is
  pub none_behind : (t n : ℕ) → t ≤ n → ((q : ℕ) → q < n → looked_loose loose first q ≡ false) → is_some (least t (looked_loose loose first)) ≡ false
  none_behind t n le none = ap is_some (none_until (looked_loose loose first) t (λ q lt. none q (omega (arith, lt, le))))

  -- this one is
  pub some_behind : (t n : ℕ) → first ≤ n → n < t → is_loose_in loose n ≡ true → is_some (least t (looked_loose loose first)) ≡ true
  some_behind t n le lt is =
      some_until (looked_loose loose first) t n lt (behind_first (nat_le first n) (is_loose_in loose n) (is_le first n le) is)

  -- none is where no track is loose
  pub none_loose : (t : ℕ) → is_some (least (length loose) (is_loose_in loose)) ≡ false → is_some (least t (looked_loose loose first)) ≡ false
  none_loose t none = ap is_some (none_until (looked_loose loose first) t (λ q lt. firm_one (nat_le first q) (is_loose_in loose q) (none_marked loose none q)))
