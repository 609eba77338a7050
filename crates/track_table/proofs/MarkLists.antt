-- Words of bits and the marks that they are.
use Rattle.std.proofs.Common.{◌≡◌, ℕ, ◌+◌, ◌*◌, ◌/◌, ◌%◌, ◌<◌, ◌≤◌, ◌==◌, not, inl, inr, Bool, false, cond, List, length, get_or, refl, sym, ap, ◌∙◌, arith}
use Rattle.std.specs.Prelude.{replicate}
use Rattle.std.specs.Int.{bit_at}
use Rattle.std.proofs.Math.ListN.{set}
use Rattle.std.proofs.lemmas.Bool.{cases_eq, cases_lt, eq-eqb, ne_eqb, false≢true}
use Rattle.std.proofs.lemmas.List.{length-set, length-replicate, get_or-set_same, get_or-set_other, get_or_past, ext_get_or}
use Rattle.std.proofs.lemmas.List.FromFn.{length-map-range_with_len, get_or-map-range_with_len}
use Rattle.std.proofs.lemmas.Nat.Bits.{bit_at-zero, bit_at-lt}
use Rattle.track_table.specs.Bits.{is_set, marks_of, is_marked}
use Rattle.track_table.proofs.Places.{empty_places, place_set}
use Rattle.track_table.proofs.AskedWords.{IsWord, IsGroup, NoneLast, zero_bit}

-- ---- one mark

pub length_marks : (words : List ℕ) → length (marks_of words) ≡ 65535
unfolding marks_of
length_marks words = length-map-range_with_len (is_set words) 0 65535

no_bit : (t : ℕ) → (bit_at 0 t == 1) ≡ false
no_bit t = rw (bit_at-zero t) refl

pub set_past_end : (words : List ℕ) (t : ℕ) → length words ≤ t / 64 → is_set words t ≡ false
set_past_end words t past = rw (get_or_past words (t / 64) 0 past) (no_bit (t % 64))

pub marked_is : (words : List ℕ) (t : ℕ) → length words ≡ 1024 → is_set words 65535 ≡ false → is_marked (marks_of words) t ≡ is_set words t
unfolding marks_of
marked_is words t whole last = elim (cases_lt t 65535) [
  | inl below ↦ get_or-map-range_with_len (is_set words) 0 65535 t t false below (omega arith)
  | inr past ↦ get_or_past (marks_of words) t false (omega (arith, past, length_marks words)) ∙ sym (elim (cases_eq t 65535) [
    | inl e ↦ ap (is_set words) e ∙ last
    | inr other ↦ set_past_end words t (omega (arith, whole, past, other))
  ])
]

pub no_last : (words : List ℕ) → NoneLast (is_marked (marks_of words))
no_last words q past = get_or_past (marks_of words) q false (omega (arith, length_marks words, past))

-- marks that are the same on each track
pub same_marks : (xs ys : List Bool) → length xs ≡ length ys → ((t : ℕ) → is_marked xs t ≡ is_marked ys t) → xs ≡ ys
same_marks xs ys same each = ext_get_or false xs ys same (λ t below. each t)

pub no_bits : (words : List ℕ) → ((k : ℕ) → get_or words k 0 ≡ 0) → (t : ℕ) → is_set words t ≡ false
no_bits words empty t = rw (empty (t / 64)) (no_bit (t % 64))

pub no_marks : (words : List ℕ) → length words ≡ 1024 → ((k : ℕ) → get_or words k 0 ≡ 0) → marks_of words ≡ replicate 65535 false
no_marks words whole empty =
    same_marks _ _ (length_marks words ∙ sym (length-replicate 65535 false))
    (λ t. marked_is words t whole (no_bits words empty 65535) ∙ no_bits words empty t ∙ sym (empty_places 65535 t false))

-- a word of the marks
pub word_is : (words : List ℕ) (k : ℕ) → length words ≡ 1024 → is_set words 65535 ≡ false → IsWord (is_marked (marks_of words)) k (get_or words k 0)
word_is words k whole last i below =
    let word : (64 * k + i) / 64 ≡ k = omega (arith, below) in
    let place : (64 * k + i) % 64 ≡ i = omega (arith, below) in
    sym (marked_is words (64 * k + i) whole last ∙ rw (word, place) refl)

-- words without a bit have no mark
pub group_is : (words used : List ℕ) (j : ℕ) → length words ≡ 1024 → is_set words 65535 ≡ false → j < 16 →
    ((k : ℕ) → k < 1024 → is_set used k ≡ false → get_or words k 0 ≡ 0) → IsGroup (is_marked (marks_of words)) j (get_or used j 0)
group_is words used j whole last inside unused i x small below none =
    let k = 64 * j + i in
    let word : k / 64 ≡ j = omega (arith, small) in
    let place : k % 64 ≡ i = omega (arith, small) in
    let unset : is_set used k ≡ false = rw (word, place, none) refl in
    let empty : get_or words k 0 ≡ 0 = unused k (omega (arith, inside, small)) unset in
    let here : (64 * k + x) / 64 ≡ k = omega (arith, below) in
    marked_is words (64 * k + x) whole last ∙ rw (here, empty) (no_bit ((64 * k + x) % 64))

-- groups without a bit have no mark
pub groups_are : (words used : List ℕ) (groups : ℕ) → length words ≡ 1024 → is_set words 65535 ≡ false →
    ((k : ℕ) → k < 1024 → is_set used k ≡ false → get_or words k 0 ≡ 0) → ((j : ℕ) → j < 16 → bit_at groups j ≡ 0 → get_or used j 0 ≡ 0) →
    (j q : ℕ) → j < 16 → q < 4096 → bit_at groups j ≡ 0 → is_marked (marks_of words) (4096 * j + q) ≡ false
groups_are words used groups whole last unused empty j q inside below none =
    let k = 64 * j + q / 64 in
    let word : (4096 * j + q) / 64 ≡ k = omega arith in
    let group : k / 64 ≡ j = omega (arith, below) in
    let unset : is_set used k ≡ false = rw (group, empty j inside none) (no_bit (k % 64)) in
    marked_is words (4096 * j + q) whole last ∙ rw (word, unused k (omega (arith, inside, below)) unset) (no_bit ((4096 * j + q) % 64))

-- one bit of one word changed
pub set_word : (words : List ℕ) (t q w : ℕ) (m : Bool) → t / 64 < length words →
    ((i : ℕ) → i < 64 → (bit_at w i == 1) ≡ cond (i == t % 64) m (bit_at (get_or words (t / 64) 0) i == 1))
    → is_set (set words (t / 64) w) q ≡ cond (q == t) m (is_set words q)
set_word words t q w m there bits = elim (cases_eq (q / 64) (t / 64)) [
  | inl same ↦ here same
  | inr other ↦ rw (get_or-set_other words (t / 64) (q / 64) w 0 other, ne_eqb q t (λ e. other (ap (λ (x : ℕ). x / 64) e))) refl
]
  where
    here : q / 64 ≡ t / 64 → is_set (set words (t / 64) w) q ≡ cond (q == t) m (is_set words q)
    here same = rw (same, get_or-set_same words (t / 64) w 0 there) (bits (q % 64) (omega arith) ∙ elim (cases_eq q t) [
      | inl e ↦ rw (e, eq-eqb t t refl, eq-eqb (t % 64) (t % 64) refl) refl
      | inr e ↦ rw (ne_eqb q t e, ne_eqb (q % 64) (t % 64) (λ f. e (omega arith))) refl
    ])

pub last_kept : (words : List ℕ) (t w : ℕ) (m : Bool) → length words ≡ 1024 → is_set words 65535 ≡ false → t < 65535 →
    ((i : ℕ) → i < 64 → (bit_at w i == 1) ≡ cond (i == t % 64) m (bit_at (get_or words (t / 64) 0) i == 1))
    → is_set (set words (t / 64) w) 65535 ≡ false
last_kept words t w m whole last below bits =
    set_word words t 65535 w m (omega (arith, whole, below)) bits
    ∙ rw (ne_eqb 65535 t (λ (e : 65535 ≡ t). omega (arith, e, below))) last

pub marks_set : (words : List ℕ) (t w : ℕ) (m : Bool) → length words ≡ 1024 → is_set words 65535 ≡ false → t < 65535 →
    ((i : ℕ) → i < 64 → (bit_at w i == 1) ≡ cond (i == t % 64) m (bit_at (get_or words (t / 64) 0) i == 1))
    → marks_of (set words (t / 64) w) ≡ set (marks_of words) t m
marks_set words t w m whole last below bits = same_marks _ _ (length_marks (set words (t / 64) w) ∙ sym
    (length_marks words) ∙ sym (length-set (marks_of words) t m)) (λ q.
    marked_is (set words (t / 64) w) q (length-set words (t / 64) w ∙ whole) (last_kept words t w m whole last below bits)
    ∙ set_word words t q w m (omega (arith, whole, below)) bits
    ∙ ap (λ (b : Bool). cond (q == t) m b) (sym (marked_is words q whole last))
    ∙ sym (place_set (λ (x : Bool). x) (marks_of words) t q m false (omega (arith, below, length_marks words))))

zero_by : {w : ℕ} → not (w == 0) ≡ false → w ≡ 0
zero_by {w} empty = elim (cases_eq w 0) [ inl e ↦ e | inr e ↦ absurd (false≢true (sym empty ∙ rw (ne_eqb w 0 e) refl)) ]

-- a word changed, with its bit among the words
pub used_set : (words used : List ℕ) (n w u : ℕ) → length words ≡ 1024 → length used ≡ 16 → n < 1024 →
    ((k : ℕ) → k < 1024 → is_set used k ≡ false → get_or words k 0 ≡ 0) →
    ((i : ℕ) → i < 64 → (bit_at u i == 1) ≡ cond (i == n % 64) (not (w == 0)) (bit_at (get_or used (n / 64) 0) i == 1))
    → (k : ℕ) → k < 1024 → is_set (set used (n / 64) u) k ≡ false → get_or (set words n w) k 0 ≡ 0
used_set words used n w u whole groups inside unused bits k below unset = elim (cases_eq k n) [
  | inl e ↦ (
      let empty : not (w == 0) ≡ false = rw (eq-eqb k n e) at (sym is ∙ unset) in
      rw e (get_or-set_same words n w 0 (omega (arith, whole, inside)) ∙ zero_by empty)
      )
  | inr other ↦ (
      let still : is_set used k ≡ false = rw (ne_eqb k n other) at (sym is ∙ unset) in
      get_or-set_other words n k w 0 other ∙ unused k below still
      )
]
  where
    is : is_set (set used (n / 64) u) k ≡ cond (k == n) (not (w == 0)) (is_set used k)
    is = set_word used n k u (not (w == 0)) (omega (arith, groups, inside)) bits

-- a group changed, with its bit among the groups
pub groups_set : (used : List ℕ) (groups n u w : ℕ) → length used ≡ 16 → n < 16 → ((j : ℕ) → j < 16 → bit_at groups j ≡ 0 → get_or used j 0 ≡ 0) →
    ((i : ℕ) → i < 64 → (bit_at w i == 1) ≡ cond (i == n) (not (u == 0)) (bit_at groups i == 1)) →
    (j : ℕ) → j < 16 → bit_at w j ≡ 0 → get_or (set used n u) j 0 ≡ 0
groups_set used groups n u w whole inside empty bits j below none = elim (cases_eq j n) [
  | inl e ↦ rw e (get_or-set_same used n u 0 (omega (arith, whole, inside)) ∙ zero_by (sym (rw (none, eq-eqb j n e) at (bits j (omega (arith, below))))))
  | inr other ↦ get_or-set_other used n j u 0 other
      ∙ empty j below (zero_bit (bit_at groups j) (bit_at-lt groups j) (sym (rw (none, ne_eqb j n other) at (bits j (omega (arith, below))))))
]

-- words of which the first n are zeros
pub one_more_zero : (words : List ℕ) (n : ℕ) → ((k : ℕ) → k < n → get_or words k 0 ≡ 0) → n < length words →
    (k : ℕ) → k < n + 1 → get_or (set words n 0) k 0 ≡ 0
one_more_zero words n zeros inside k below = elim (cases_eq k n) [
  | inl e ↦ rw e (get_or-set_same words n 0 0 inside)
  | inr other ↦ get_or-set_other words n k 0 0 other ∙ zeros k (omega (arith, below, other))
]

pub all_zero : (words : List ℕ) (n : ℕ) → length words ≡ n → ((k : ℕ) → k < n → get_or words k 0 ≡ 0) → (k : ℕ) → get_or words k 0 ≡ 0
all_zero words n whole zeros k = elim (cases_lt k n) [ inl below ↦ zeros k below | inr past ↦ get_or_past words k 0 (omega (arith, whole, past)) ]
