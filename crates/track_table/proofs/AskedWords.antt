-- Marks that are asked by the word: p says whether a track is marked, and word k has the marks of 64 tracks.
use Rattle.std.proofs.Common.{◌≡◌, ℕ, zero, suc, ◌+◌, ◌-◌, ◌*◌, ◌/◌, ◌%◌, ◌^◌, ◌<◌, ◌≤◌, ◌==◌, ◌&&◌, ◌||◌, min, max, nat_le, inl, inr, Bool, true, false, refl, sym, ap, ◌∙◌, w64, bit_and, bit_or, arith}
use Rattle.std.specs.Prelude.{Some, None}
use Rattle.std.specs.Int.{bit_at, trailing_zeros}
use Rattle.std.specs.Int.Count.{ones}
use Rattle.std.proofs.lemmas.Bool.{cases_eq, cases_lt, eq-eqb, and_parts, le-leb, leb-true, false≢true}
use Rattle.std.proofs.lemmas.Nat.Bits.{bit_at-zero, bit_at-lt, bit_at-trailing_zeros, bit_at_and, bit_at_or}
use Rattle.track_table.specs.Bits.{IsLeastFrom}
use Rattle.track_table.specs.Tracks.{count_below}
use Rattle.track_table.proofs.Words.{count_bits}

-- a word with the marks of its 64 tracks
abbrev pub IsWord : (ℕ → Bool) → ℕ → ℕ → Type 0
IsWord p k w = (i : ℕ) → i < 64 → (bit_at w i == 1) ≡ p (64 * k + i)

-- a group of 64 words: one without its bit has no mark
abbrev pub IsGroup : (ℕ → Bool) → ℕ → ℕ → Type 0
IsGroup p j w = (i x : ℕ) → i < 64 → x < 64 → bit_at w i ≡ 0 → p (64 * (64 * j + i) + x) ≡ false

-- no track is marked from one on up to another
abbrev pub NoneIn : (ℕ → Bool) → ℕ → ℕ → Type 0
NoneIn p from to = (q : ℕ) → from ≤ q → q < to → p q ≡ false

-- no track behind the largest device's is marked
abbrev pub NoneLast : (ℕ → Bool) → Type 0
NoneLast p = (q : ℕ) → 65535 ≤ q → p q ≡ false

-- the bits of a word from a place on
abbrev pub FromPlace : ℕ → ℕ → ℕ → Type 0
FromPlace w place v = (i : ℕ) → i < 64 → (bit_at v i == 1) ≡ (nat_le place i && (bit_at w i == 1))

-- the lowest bit that is left from a place on
pub record IsLowest (w place v z : ℕ) : Type 0 where
  pub reached : place ≤ z
  pub inside : z < 64
  pub set : (bit_at w z == 1) ≡ true
  pub least : (i : ℕ) → i < z → bit_at v i ≡ 0

pub lowest_bit : (w place v : ℕ) → FromPlace w place v → 0 < v → v < 2 ^ 64 → IsLowest w place v (trailing_zeros w64 v)
lowest_bit w place v bits some small =
    let z = trailing_zeros w64 v in
    let lowest = bit_at-trailing_zeros w64 v some small in
    let tests = and_parts (nat_le place z) (bit_at w z == 1) (sym (bits z lowest.0) ∙ eq-eqb _ _ lowest.1) in
    record { reached = leb-true _ _ tests.0; inside = lowest.0; set = tests.1; least = lowest.2 }

pub zero_bit : (x : ℕ) → x < 2 → (x == 1) ≡ false → x ≡ 0
zero_bit x lt not_one = elim (cases_eq x 1) [
  | inl one ↦ absurd (false≢true (sym not_one ∙ eq-eqb x 1 one))
  | inr other ↦ omega (arith, lt, other)
]

-- ---- the next word

-- before the place of its first bit a group has no mark
pub none_before : (p : ℕ → Bool) (k w v z : ℕ) → IsGroup p (k / 64) w → FromPlace w (k % 64) v → z ≤ 64 →
    ((i : ℕ) → i < z → bit_at v i ≡ 0) → NoneIn p (64 * k) (64 * (k / 64 * 64 + z))
none_before p k w v z group from few none q low high =
    let n = q / 64 in
    let i = n % 64 in
    let word : 64 * (k / 64) + i ≡ n = omega (arith, low, high, few) in
    let place : 64 * n + q % 64 ≡ q = omega arith in
    let before : i < z = omega (arith, low, high, few) in
    let small : i < 64 = omega arith in
    let reached : nat_le (k % 64) i ≡ true = le-leb _ _ (omega (arith, low, high, few)) in
    let unset : (bit_at w i == 1) ≡ false = sym (rw (none i before, reached) at (from i small)) in
    let zero' : bit_at w i ≡ 0 = zero_bit (bit_at w i) (bit_at-lt w i) unset in
    rw (word, place) at (group i (q % 64) small (omega arith) zero')

pub none_joined : (p : ℕ → Bool) (a b c : ℕ) → NoneIn p a b → NoneIn p b c → NoneIn p a c
none_joined p a b c first rest q low high = elim (cases_lt q b) [ inl front ↦ first q low front | inr behind ↦ rest q behind high ]

-- ---- the least from one on

pub unset_in_word : (p : ℕ → Bool) (from k w v q : ℕ) → IsWord p k w → FromPlace w (from - 64 * k) v → from ≤ q → 64 * k ≤ q →
    q < 64 * (k + 1) → bit_at v (q - 64 * k) ≡ 0 → p q ≡ false
unset_in_word p from k w v q word bits behind low high zero' =
    let place : 64 * k + (q - 64 * k) ≡ q = omega (arith, low) in
    let small : q - 64 * k < 64 = omega (arith, low, high) in
    let reached : nat_le (from - 64 * k) (q - 64 * k) ≡ true = le-leb _ _ (omega (arith, behind, low)) in
    let is = rw (zero', reached) at (bits (q - 64 * k) small) in
    rw place at (sym (word (q - 64 * k) small)) ∙ sym is

pub none_in_word : (p : ℕ → Bool) (from k w v : ℕ) → IsWord p k w → FromPlace w (from - 64 * k) v → v ≡ 0 → NoneIn p from (64 * k) → NoneIn p from (64 * (k + 1))
none_in_word p from k w v word bits none so_far q behind below = elim (cases_lt q (64 * k)) [
  | inl front ↦ so_far q behind front
  | inr last ↦ unset_in_word p from k w v q word bits behind last below (rw none (bit_at-zero (q - 64 * k)))
]

-- the last bit of all words is never set
pub bit_is_track : (p : ℕ → Bool) (k z : ℕ) → k < 1024 → z < 64 → NoneLast p → p (64 * k + z) ≡ true → 64 * k + z < 65535
bit_is_track p k z inside small last is = elim (cases_lt (64 * k + z) 65535) [
  | inl below ↦ below
  | inr past ↦ absurd (false≢true (sym (last (64 * k + z) past) ∙ is))
]

-- the lowest bit that is left of a word is a mark
pub lowest_is : (p : ℕ → Bool) (k w place v z : ℕ) → IsWord p k w → IsLowest w place v z → p (64 * k + z) ≡ true
lowest_is p k w place v z word lowest = sym (word z lowest.inside) ∙ lowest.set

pub least_in_word : (p : ℕ → Bool) (from k w v z : ℕ) → k < 1024 → IsWord p k w → NoneLast p → FromPlace w (from - 64 * k) v →
    IsLowest w (from - 64 * k) v z → NoneIn p from (64 * k) → IsLeastFrom from p (Some (64 * k + z))
least_in_word p from k w v z inside word last bits lowest so_far =
    let is = lowest_is p k w (from - 64 * k) v z word lowest in (
      omega (arith, lowest.reached),
      bit_is_track p k z inside lowest.inside last is,
      is,
      λ q behind below. elim (cases_lt q (64 * k)) [
        | inl front ↦ so_far q behind front
        | inr low ↦ unset_in_word p from k w v q word bits behind low (omega (arith, lowest.inside, below))
            (lowest.least (q - 64 * k) (omega (arith, low, below)))
      ],
    )

pub none_left : (p : ℕ → Bool) (from k : ℕ) → 1024 ≤ k → NoneIn p from (64 * k) → NoneLast p → IsLeastFrom from p None
none_left p from k end so_far last q behind = elim (cases_lt q (64 * k)) [ inl front ↦ so_far q behind front | inr past ↦ last q (omega (arith, end, past)) ]

-- ---- counting

pub count_same : (n : ℕ) (p q : ℕ → Bool) → ((t : ℕ) → t < n → p t ≡ q t) → count_below n p ≡ count_below n q
unfolding count_below
count_same zero p q same = refl
count_same (suc n) p q same = rw (count_same n p q (λ t below. same t (omega (arith, below))), same n (omega arith)) refl

pub count_add : (n m : ℕ) (p : ℕ → Bool) → count_below (n + m) p ≡ count_below n p + count_below m (λ i. p (n + i))
unfolding count_below
count_add n zero p = let e : n + 0 ≡ n = omega arith in rw e (omega arith)
count_add n (suc m) p = let e : n + suc m ≡ suc (n + m) = omega arith in rw e (omega (arith, count_add n m p))

pub no_count : (p : ℕ → Bool) → count_below 0 p ≡ 0
unfolding count_below
no_count p = refl

none_counted : (n : ℕ) (p : ℕ → Bool) → ((t : ℕ) → t < n → p t ≡ false) → count_below n p ≡ 0
unfolding count_below
none_counted zero p none = refl
none_counted (suc n) p none = rw (none n (omega arith)) (let before = none_counted n p (λ t below. none t (omega (arith, below))) in omega (arith, before))

-- where no track is marked the count stays
pub count_past : (p : ℕ → Bool) (a b : ℕ) → a ≤ b → NoneIn p a b → count_below b p ≡ count_below a p
count_past p a b le none =
    let sum : a + (b - a) ≡ b = omega (arith, le) in
    let split = count_add a (b - a) p in
    let rest = none_counted (b - a) (λ i. p (a + i)) (λ i below. none (a + i) (omega arith) (omega (arith, below))) in
    ap (λ (n : ℕ). count_below n p) (sym sum) ∙ omega (arith, split, rest)

-- a set bit of a word, by the number of those in front
pub in_front : (p : ℕ → Bool) (k w x : ℕ) → IsWord p k w → x ≤ 64 → count_below (64 * k + x) p ≡ count_below (64 * k) p + ones (w % 2 ^ x)
in_front p k w x word inside = count_add (64 * k) x p ∙ ap (λ (n : ℕ). count_below (64 * k) p + n) (
    count_same x (λ i. p (64 * k + i)) (λ i. bit_at w i == 1) (λ i below. sym (word i (omega (arith, below, inside)))) ∙ count_bits w x)

pub count_word : (p : ℕ → Bool) (k w : ℕ) → IsWord p k w → w < 2 ^ 64 → count_below (64 * (k + 1)) p ≡ count_below (64 * k) p + ones w
count_word p k w word small =
    let sum : 64 * (k + 1) ≡ 64 * k + 64 = omega arith in
    let low : w % 2 ^ 64 ≡ w = omega (arith, small) in
    rw sum (in_front p k w 64 word (omega arith) ∙ ap (λ (n : ℕ). count_below (64 * k) p + ones n) low)

-- behind all words
pub count_all : (p : ℕ → Bool) → NoneLast p → count_below 65536 p ≡ count_below 65535 p
count_all p last = count_past p 65535 65536 (omega arith) (λ q low high. last q low)

-- ---- two sets of marks

both_zero : (x y : ℕ) → min x y ≡ 0 → x < 2 → y < 2 → (b c : Bool) → (x ≡ 0 → b ≡ false) → (y ≡ 0 → c ≡ false) → (b && c) ≡ false
both_zero x y none lx ly b c f g = elim (cases_eq x 0) [
  | inl e ↦ rw (f e) refl
  | inr other ↦ rw (g (omega (arith, none, lx, ly, other))) (and_none b)
]
  where
    and_none : (b : Bool) → (b && false) ≡ false
    and_none true = refl
    and_none false = refl

-- a bit that both need
pub and_none : (v w i : ℕ) (b c : Bool) → (bit_at v i ≡ 0 → b ≡ false) → (bit_at w i ≡ 0 → c ≡ false) → bit_at (bit_and v w) i ≡ 0 → (b && c) ≡ false
and_none v w i b c one other none = both_zero (bit_at v i) (bit_at w i) (sym (bit_at_and v w i) ∙ none) (bit_at-lt v i) (bit_at-lt w i) b c one other

-- a bit of one of both
pub or_none : (v w i : ℕ) (b c : Bool) → (bit_at v i ≡ 0 → b ≡ false) → (bit_at w i ≡ 0 → c ≡ false) → bit_at (bit_or v w) i ≡ 0 → (b || c) ≡ false
or_none v w i b c one other none =
    let most : max (bit_at v i) (bit_at w i) ≡ 0 = sym (bit_at_or v w i) ∙ none in
    rw (one (omega (arith, most)), other (omega (arith, most))) refl

-- the least group that may have a mark, from one on
pub none_in_groups : (p : ℕ → Bool) (w v from to : ℕ) → ((j q : ℕ) → j < 16 → q < 4096 → bit_at w j ≡ 0 → p (4096 * j + q) ≡ false) →
    FromPlace w from v → to ≤ 16 → ((j : ℕ) → j < to → bit_at v j ≡ 0) → NoneIn p (4096 * from) (4096 * to)
none_in_groups p w v from to groups bits few none q low high =
    let j = q / 4096 in
    let place : 4096 * j + q % 4096 ≡ q = omega arith in
    let inside : j < to = omega (arith, high) in
    let reached : nat_le from j ≡ true = le-leb _ _ (omega (arith, low)) in
    let unset : (bit_at w j == 1) ≡ false = sym (rw (none j inside, reached) at (bits j (omega (arith, inside, few)))) in
    rw place at (groups j (q % 4096) (omega (arith, inside, few)) (omega arith) (zero_bit (bit_at w j) (bit_at-lt w j) unset))
