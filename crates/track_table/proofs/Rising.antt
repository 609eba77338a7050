-- The marked tracks in rising order.
use Rattle.std.proofs.Common.{◌≡◌, ℕ, zero, suc, ◌+◌, ◌-◌, ◌<◌, ◌≤◌, inl, inr, Bool, true, false, cond, List, [], ◌∷◌, length, drop, refl, sym, ap, ◌∙◌, arith}
use Rattle.std.specs.Prelude.{Option, Some, None, slice_get}
use Rattle.std.proofs.lemmas.Bool.{cases_lt, false≢true}
use Rattle.std.proofs.lemmas.List.{get_or_past, drop_more, drop_all}
use Rattle.std.proofs.lemmas.Option.{slice_get_past}
use Rattle.track_table.specs.Bits.{is_marked, marked_from, IsLeastFrom}
use Rattle.track_table.specs.Tracks.{least, count_below}
use Rattle.track_table.proofs.Tracks.{found_least}

-- ---- the least

pub least_none : (n : ℕ) (p : ℕ → Bool) → ((q : ℕ) → q < n → p q ≡ false) → least n p ≡ None
unfolding least
least_none zero p none = refl
least_none (suc n) p none = rw (least_none n p (λ q below. none q (omega arith)), none n (omega arith)) refl

pub least_is : (p : ℕ → Bool) (found : Option ℕ) → IsLeastFrom 0 p found → found ≡ least 65535 p
least_is p None none = sym (least_none 65535 p (λ q below. none q (omega arith)))
least_is p (Some t) is = sym (found_least t 65535 p (least_none t p (λ q below. is.3 q (omega arith) below)) is.2 is.1)

-- ---- the list of the marked tracks

-- a count from its first track on
count_first : (n : ℕ) (p : ℕ → Bool) → count_below (suc n) p ≡ cond (p 0) 1 0 + count_below n (λ q. p (suc q))
unfolding count_below
count_first zero p = omega arith
count_first (suc n) p = omega (arith, count_first n p)

no_count : (p : ℕ → Bool) → count_below 0 p ≡ 0
unfolding count_below
no_count p = refl

-- a marked track stands where the marked tracks before it are counted
pub at_count : (marks : List Bool) (a t : ℕ) → is_marked marks t ≡ true → slice_get (marked_from a marks) (count_below t (is_marked marks)) ≡ Some (a + t)
at_count [] a t is = absurd (false≢true (sym (get_or_past [] t false (omega arith)) ∙ is))
at_count (m ∷ marks) a zero is = let e : a + 0 ≡ a = omega arith in rw (no_count (is_marked (m ∷ marks)), is, e) refl
at_count (true ∷ marks) a (suc t) is =
    let e : a + suc t ≡ (a + 1) + t = omega arith in
    let n : count_below (suc t) (is_marked (true ∷ marks)) ≡ suc (count_below t (is_marked marks)) = omega (arith, count_first t (is_marked (true ∷ marks))) in
    rw (n, e) (at_count marks (a + 1) t is)
at_count (false ∷ marks) a (suc t) is =
    let e : a + suc t ≡ (a + 1) + t = omega arith in
    let n : count_below (suc t) (is_marked (false ∷ marks)) ≡ count_below t (is_marked marks) = omega (arith, count_first t (is_marked (false ∷ marks))) in
    rw (n, e) (at_count marks (a + 1) t is)

-- marked track i
pub nth_is : (marks : List Bool) (t i : ℕ) → is_marked marks t ≡ true → count_below t (is_marked marks) ≡ i → slice_get (marked_from 0 marks) i ≡ Some t
nth_is marks t i is count = let e : 0 + t ≡ t = omega arith in rw (count, e) at (at_count marks 0 t is)

-- as many as are counted
pub length_marked : (marks : List Bool) (a : ℕ) → length (marked_from a marks) ≡ count_below (length marks) (is_marked marks)
unfolding count_below
length_marked [] a = refl
length_marked (true ∷ marks) a = omega (arith, length_marked marks (a + 1), count_first (length marks) (is_marked (true ∷ marks)))
length_marked (false ∷ marks) a = omega (arith, length_marked marks (a + 1), count_first (length marks) (is_marked (false ∷ marks)))

pub past_count : (marks : List Bool) (n i : ℕ) → length marks ≡ n → count_below n (is_marked marks) ≤ i → slice_get (marked_from 0 marks) i ≡ None
past_count marks n i whole past =
    let all : length (marked_from 0 marks) ≡ count_below n (is_marked marks) = length_marked marks 0 ∙ ap (λ (m : ℕ). count_below m (is_marked marks)) whole in
    slice_get_past (marked_from 0 marks) i (omega (arith, all, past))

-- ---- the marked tracks from one on

one_further : (marks : List Bool) (n : ℕ) → is_marked marks n ≡ false → marked_from n (drop n marks) ≡ marked_from (n + 1) (drop (n + 1) marks)
one_further marks n unmarked = elim (cases_lt n (length marks)) [
  | inl below ↦ rw (drop_more marks n false below, unmarked) refl
  | inr past ↦ ap (marked_from n) (drop_all n marks past) ∙ sym (ap (marked_from (n + 1)) (drop_all (n + 1) marks (omega arith)))
]

further : (marks : List Bool) (n k : ℕ) → ((q : ℕ) → n ≤ q → q < n + k → is_marked marks q ≡ false) →
    marked_from n (drop n marks) ≡ marked_from (n + k) (drop (n + k) marks)
further marks n zero none = let e : n + 0 ≡ n = omega arith in rw e refl
further marks n (suc k) none =
    let e : n + suc k ≡ n + k + 1 = omega arith in
    rw e (further marks n k (λ q from below. none q from (omega arith)) ∙ one_further marks (n + k) (none (n + k) (omega arith) (omega arith)))

-- the least of those that are left, and the rest
-- a marked track has a mark
within : (marks : List Bool) (t : ℕ) → is_marked marks t ≡ true → t < length marks
within marks t is = elim (cases_lt t (length marks)) [ inl below ↦ below | inr past ↦ absurd (false≢true (sym (get_or_past marks t false past) ∙ is)) ]

pub next_marked : (marks : List Bool) (from t : ℕ) → IsLeastFrom from (is_marked marks) (Some t) →
    marked_from from (drop from marks) ≡ t ∷ marked_from (t + 1) (drop (t + 1) marks)
next_marked marks from t is =
    let e : from + (t - from) ≡ t = omega (arith, is.0) in
    let skipped : marked_from from (drop from marks) ≡ marked_from t (drop t marks) =
    rw e at (further marks from (t - from) (λ q after below. is.3 q after (omega (arith, is.0, below)))) in
    skipped ∙ rw (drop_more marks t false (within marks t is.2), is.2) refl

pub none_marked : (marks : List Bool) (from : ℕ) → IsLeastFrom from (is_marked marks) None → marked_from from (drop from marks) ≡ []
none_marked marks from none =
    further marks from (length marks) (λ q after below. none q after)
    ∙ ap (marked_from (from + length marks)) (drop_all (from + length marks) marks (omega arith))
