-- Texts in which no line feed stands.
use Rattle.std.proofs.Common.{◌≡◌, ◌≢◌, ◌==◌, ◌++◌, ℕ, zero, suc, Bool, true, List, [], ◌∷◌, refl, arith}
use Rattle.std.specs.Prelude.{◌&&◌, not, slice_index}
use Rattle.std.proofs.lemmas.Bool.{and_from, and_parts}
use Rattle.std.proofs.lemmas.Bool.Decides.{nat_tests}
use Rattle.hex.specs.Hex.{encode_upper, encode_with, upper_digits}

abbrev pub is_whole : List ℕ → Bool
is_whole [] = true
is_whole (b ∷ text) = not (b == 10) && is_whole text

pub both_whole : (xs ys : List ℕ) → is_whole xs ≡ true → is_whole ys ≡ true → is_whole (xs ++ ys) ≡ true
both_whole [] ys h g = g
both_whole (x ∷ xs) ys h g = grind (arith, both_whole xs ys, and_parts, and_from)

index_whole : (text : List ℕ) (k : ℕ) → is_whole text ≡ true → not (slice_index text k == 10) ≡ true
index_whole [] k h = refl
index_whole (b ∷ text) zero h = (and_parts (not (b == 10)) (is_whole text) h).0
index_whole (b ∷ text) (suc k) h = index_whole text k (and_parts (not (b == 10)) (is_whole text) h).1

hex_digit : (k : ℕ) → not (slice_index upper_digits k == 10) ≡ true
hex_digit k = index_whole upper_digits k refl

pub hex_whole : (bytes : List ℕ) → is_whole (encode_upper bytes) ≡ true
unfolding encode_with
hex_whole [] = refl
hex_whole (b ∷ bytes) = grind (arith, hex_whole bytes, and_from, hex_digit)

is_other : (b : ℕ) → not (b == 10) ≡ true → b ≢ 10
is_other b h = grind (arith, nat_tests)

pub none_stands : (text : List ℕ) → is_whole text ≡ true → (k : ℕ) → slice_index text k ≢ 10
none_stands text h k = is_other (slice_index text k) (index_whole text k h)
