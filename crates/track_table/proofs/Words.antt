-- One bit of a word, and how many are set below a place.
use Rattle.std.proofs.Common.{
  ◌≡◌,
  ℕ,
  zero,
  suc,
  ◌+◌,
  ◌-◌,
  ◌*◌,
  ◌/◌,
  ◌%◌,
  ◌^◌,
  ◌<◌,
  ◌≤◌,
  min,
  max,
  ◌==◌,
  ◌&&◌,
  ◌||◌,
  not,
  nat_le,
  ◌⊎◌,
  inl,
  inr,
  Bool,
  true,
  false,
  cond,
  refl,
  sym,
  ap,
  ◌∙◌,
  bit_and,
  bit_or,
  w64,
  arith,
  add-one,
}
use Rattle.std.specs.Int.{bit_at, bit_not}
use Rattle.std.specs.Int.Count.{ones}
use Rattle.std.proofs.lemmas.Bool.{cases_eq, cases_lt, eq-eqb, ne_eqb, le-leb, lt-leb}
use Rattle.std.proofs.lemmas.Nat.{ones-le, ones_cat, mod-pow-add, shr-shr, pow_pos, one_shl, and_mask}
use Rattle.std.proofs.lemmas.Nat.Bits.{
  bit_at-lt,
  bit_at_and,
  bit_at_or,
  bit_at_not,
  bit_at_set_same,
  bit_at_set_other,
  bit_at_clear_same,
  bit_at_clear_other,
  ones_shl,
  bit_at_mask_inside,
  bit_at_mask_below,
}
use Rattle.track_table.specs.Tracks.{count_below}

bit_cases : (x : ℕ) → x < 2 → (x ≡ 0) ⊎ (x ≡ 1)
bit_cases x below = elim (cases_eq x 0) [ inl e ↦ inl e | inr other ↦ inr (omega arith) ]

max_bits : (x y : ℕ) → x < 2 → y < 2 → (max x y == 1) ≡ ((x == 1) || (y == 1))
max_bits x y bx by = elim (bit_cases x bx) [
  | inl e ↦ elim (bit_cases y by) [ inl f ↦ rw (e, f) refl | inr f ↦ rw (e, f) refl ]
  | inr e ↦ elim (bit_cases y by) [ inl f ↦ rw (e, f) refl | inr f ↦ rw (e, f) refl ]
]

min_bits : (x y : ℕ) → x < 2 → y < 2 → (min x y == 1) ≡ ((x == 1) && (y == 1))
min_bits x y bx by = elim (bit_cases x bx) [
  | inl e ↦ elim (bit_cases y by) [ inl f ↦ rw (e, f) refl | inr f ↦ rw (e, f) refl ]
  | inr e ↦ elim (bit_cases y by) [ inl f ↦ rw (e, f) refl | inr f ↦ rw (e, f) refl ]
]

not_bit : (y : ℕ) → y < 2 → (1 - y == 1) ≡ not (y == 1)
not_bit y by = elim (bit_cases y by) [ inl f ↦ rw f refl | inr f ↦ rw f refl ]

pub and_bit : (a b i : ℕ) → (bit_at (bit_and a b) i == 1) ≡ ((bit_at a i == 1) && (bit_at b i == 1))
and_bit a b i = rw (bit_at_and a b i) (min_bits (bit_at a i) (bit_at b i) (bit_at-lt a i) (bit_at-lt b i))

pub or_bit : (a b i : ℕ) → (bit_at (bit_or a b) i == 1) ≡ ((bit_at a i == 1) || (bit_at b i == 1))
or_bit a b i = rw (bit_at_or a b i) (max_bits (bit_at a i) (bit_at b i) (bit_at-lt a i) (bit_at-lt b i))

pub without_bit : (a b i : ℕ) → b < 2 ^ 64 → i < 64 → (bit_at (bit_and a (bit_not w64 b)) i == 1) ≡ ((bit_at a i == 1) && not (bit_at b i == 1))
without_bit a b i small below =
    and_bit a (bit_not w64 b) i
    ∙ ap (λ (x : ℕ). (bit_at a i == 1) && (x == 1)) (bit_at_not w64 b i small below)
    ∙ ap (λ (x : Bool). (bit_at a i == 1) && x) (not_bit (bit_at b i) (bit_at-lt b i))

pub set_bit : (w k i : ℕ) → k < 64 → i < 64 → (bit_at (bit_or w (1 * 2 ^ k % 2 ^ 64)) i == 1) ≡ cond (i == k) true (bit_at w i == 1)
set_bit w k i place below = elim (cases_eq i k) [
  | inl e ↦ rw (e, bit_at_set_same w64 w k place, eq-eqb k k refl) refl
  | inr other ↦ rw (bit_at_set_other w64 w k place i other, ne_eqb i k other) refl
]

pub clear_bit : (w k i : ℕ) → k < 64 → i < 64 → (bit_at (bit_and w (bit_not w64 (1 * 2 ^ k % 2 ^ 64))) i == 1) ≡ cond (i == k) false (bit_at w i == 1)
clear_bit w k i place below = elim (cases_eq i k) [
  | inl e ↦ rw (e, bit_at_clear_same w64 w k place, eq-eqb k k refl) refl
  | inr other ↦ rw (bit_at_clear_other w64 w k place i below other, ne_eqb i k other) refl
]

-- the bits from a place on
pub from_bit : (w k i : ℕ) → k < 64 → i < 64 → (bit_at (bit_and w ((2 ^ 64 - 1) * 2 ^ k % 2 ^ 64)) i == 1) ≡ (nat_le k i && (bit_at w i == 1))
from_bit w k i place below = ap (λ (m : ℕ). bit_at (bit_and w m) i == 1) (ones_shl 64 k (omega arith)) ∙ and_bit w (2 ^ 64 - 2 ^ k) i ∙ elim (cases_lt i k) [
  | inl front ↦ rw (bit_at_mask_below k 64 i front, lt-leb k i front) (flipped (bit_at w i == 1))
  | inr behind ↦ rw (bit_at_mask_inside k 64 i behind below, le-leb k i behind) (whole (bit_at w i == 1))
]
  where
    flipped : (b : Bool) → (b && false) ≡ false
    flipped true = refl
    flipped false = refl

    whole : (b : Bool) → (b && true) ≡ b
    whole true = refl
    whole false = refl

pub ones_0 : ones 0 ≡ 0
ones_0 = omega (arith, ones-le 0 0 (omega arith))

ones_1 : ones 1 ≡ 1
unfolding ones
ones_1 = refl

pub one_bit : (x : ℕ) → x < 2 → ones x ≡ cond (x == 1) 1 0
one_bit x below = elim (bit_cases x below) [ inl e ↦ rw e ones_0 | inr e ↦ rw e ones_1 ]

-- the number of set bits below a place, one place further
pub ones_more : (w m : ℕ) → ones (w % 2 ^ (m + 1)) ≡ ones (w % 2 ^ m) + cond (bit_at w m == 1) 1 0
ones_more w m =
    let low : w % 2 ^ m < 2 ^ m = omega (arith, pow_pos m) in
    let sum : m + 1 ≡ 1 + m = omega arith in
    let split : ones (w % 2 ^ (1 + m)) ≡ ones (bit_at w m) + ones (w % 2 ^ m) = ap ones (mod-pow-add w 1 m) ∙ ones_cat m (bit_at w m) (w % 2 ^ m) low in
    rw sum (omega (arith, split, one_bit (bit_at w m) (bit_at-lt w m)))

pub count_bits : (w m : ℕ) → count_below m (λ i. bit_at w i == 1) ≡ ones (w % 2 ^ m)
unfolding count_below
count_bits w zero = let e : w % 2 ^ 0 ≡ 0 = omega arith in rw e (sym ones_0)
count_bits w (suc m) = omega (arith, count_bits w m, rw add-one at (ones_more w m))

-- bits in two parts, of which the lower has h places
pub ones_parts : (x h k : ℕ) → ones (x % 2 ^ (k + h)) ≡ ones (x / 2 ^ h % 2 ^ k) + ones (x % 2 ^ h)
ones_parts x h k =
    let low : x % 2 ^ h < 2 ^ h = omega (arith, pow_pos h) in
    ap ones (mod-pow-add x k h) ∙ ones_cat h (x / 2 ^ h % 2 ^ k) (x % 2 ^ h) low

-- n places from place p on are h and those behind them
pub upper_part : (w p n h : ℕ) → h ≤ n → ones (w / 2 ^ p % 2 ^ n) ≡ ones (w / 2 ^ (p + h) % 2 ^ (n - h)) + ones (w / 2 ^ p % 2 ^ h)
upper_part w p n h few =
    let sum : n - h + h ≡ n = omega arith in
    rw sum at (ones_parts (w / 2 ^ p) h (n - h)) ∙ ap (λ (x : ℕ). ones (x % 2 ^ (n - h)) + ones (w / 2 ^ p % 2 ^ h)) (shr-shr w p h)

pub lower_part : (w p h : ℕ) → ones (w % 2 ^ (p + h)) ≡ ones (w % 2 ^ p) + ones (w / 2 ^ p % 2 ^ h)
lower_part w p h =
    let sum : p + h ≡ h + p = omega arith in
    rw sum (omega (arith, ones_parts w p h))

-- the ones under a mask of h places
pub low_ones : (x h : ℕ) → h < 64 → ones (bit_and x (1 * 2 ^ h % 2 ^ 64 - 1)) ≡ ones (x % 2 ^ h)
low_ones x h few = ap (λ (m : ℕ). ones (bit_and x (m - 1))) (one_shl h 64 few) ∙ ap ones (and_mask x h)
