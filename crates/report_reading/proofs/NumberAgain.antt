-- Numbers and bytes that are written are read again.
use Rattle.std.proofs.Common.{◌≡◌, ◌≤◌, ◌<◌, ◌^◌, ◌*◌, ◌∷◌, [], ℕ, zero, suc, List, true, length, get_or, Some, Ok}
use Rattle.std.proofs.Common.{refl, ap, ◌∙◌, arith, rules, ◌⊎◌, inl, inr}
use Rattle.std.specs.Prelude.{decimal}
use Rattle.std.proofs.lemmas.Bool.{and_from, and_parts}
use Rattle.std.proofs.lemmas.Bool.Decides.{nat_tests}
use Rattle.std.proofs.lemmas.Fmt.{decimal_nonempty, length-decimal-le, first_decimal, decimal_digit, digits_decimal, digits_value-decimal}
use Rattle.std.proofs.lemmas.Str.Parse.{IsNumeralModel, numerals_by_fold}
use Rattle.hex.specs.Hex.{encode_upper, decode_of, decode_sized, IsBytes}
use Rattle.hex.proofs.HexLemmas.{decode_of-encode_upper, decode_sized-twice, length-encode_with}
use Rattle.report_text.specs.Numbers.{are_digits, value_after, has_form, number_of, within, number_in}
use Rattle.report_reading.specs.Ranges.{IsPath, IsDevice, IsTrack, IsShort, IsCount, IsLong, AreBytes}
use Rattle.report_reading.proofs.Cut.{is_solid}

own : IsNumeralModel (λ ds. are_digits ds ≡ true) (value_after 0)
own = numerals_by_fold _ (search rules) value_after (search rules)

digits_solid : (ds : List ℕ) → are_digits ds ≡ true → is_solid ds ≡ true
digits_solid [] h = refl
digits_solid (b ∷ ds) h = grind (arith, digits_solid ds, and_parts, and_from, nat_tests)

form_of : (ds : List ℕ) → 0 < length ds → length ds ≤ 20 → 48 < get_or ds 0 0 → has_form ds ≡ true
form_of ds some few first = grind (arith, nat_tests)

nat_zero : (n : ℕ) → (n ≡ 0) ⊎ (0 < n)
nat_zero zero = inl refl
nat_zero (suc n) = inr (omega arith)

zero_form : (n : ℕ) → n ≡ 0 → has_form (decimal n) ≡ true
zero_form n e = rw e (rw (decimal_digit 0 (omega arith)) refl)

decimal_form : (n : ℕ) → n < 2 ^ 64 → has_form (decimal n) ≡ true
decimal_form n small =
    let some = decimal_nonempty n small in
    let few = length-decimal-le 20 n (omega arith) (omega (arith, small)) small in
    elim (nat_zero n) [ inl e ↦ zero_form n e | inr pos ↦ form_of (decimal n) some few (first_decimal n pos small) ]

decimal_read : (n : ℕ) → n < 2 ^ 64 → number_of (decimal n) ≡ Some n
decimal_read n small =
    let form = decimal_form n small in
    let digits : are_digits (decimal n) ≡ true = digits_decimal own n small in
    let value : value_after 0 (decimal n) ≡ n = digits_value-decimal own n small in
    rw (form, digits, value) refl

number_read : (least most n : ℕ) → least ≤ n → n ≤ most → most < 2 ^ 64 → number_in least most (decimal n) ≡ Some n
number_read least most n low high small =
    let e = decimal_read n (omega arith) in
    ap (within least most) e ∙ grind (arith, nat_tests)

decimal_solid : (n : ℕ) → n < 2 ^ 64 → is_solid (decimal n) ≡ true
decimal_solid n small = digits_solid (decimal n) (digits_decimal own n small)

-- a number is read again at its range, and has no space
module _ (n : ℕ) where
  pub path_read : IsPath n → number_in 1 4 (decimal n) ≡ Some n
  path_read h = number_read 1 4 n h.least h.most (omega arith)

  pub path_solid : IsPath n → is_solid (decimal n) ≡ true
  path_solid h = decimal_solid n (omega (arith, h.most))

  pub device_read : IsDevice n → number_in 0 15 (decimal n) ≡ Some n
  device_read h = number_read 0 15 n (omega arith) (omega (arith, h)) (omega arith)

  pub device_solid : IsDevice n → is_solid (decimal n) ≡ true
  device_solid h = decimal_solid n (omega (arith, h))

  pub track_read : IsTrack n → number_in 0 959 (decimal n) ≡ Some n
  track_read h = number_read 0 959 n (omega arith) (omega (arith, h)) (omega arith)

  pub track_solid : IsTrack n → is_solid (decimal n) ≡ true
  track_solid h = decimal_solid n (omega (arith, h))

  pub short_read : IsShort n → number_in 0 65535 (decimal n) ≡ Some n
  short_read h = number_read 0 65535 n (omega arith) (omega (arith, h)) (omega arith)

  pub short_solid : IsShort n → is_solid (decimal n) ≡ true
  short_solid h = decimal_solid n (omega (arith, h))

  pub count_read : IsCount n → number_in 0 4294967295 (decimal n) ≡ Some n
  count_read h = number_read 0 4294967295 n (omega arith) (omega (arith, h)) (omega arith)

  pub count_solid : IsCount n → is_solid (decimal n) ≡ true
  count_solid h = decimal_solid n (omega (arith, h))

  pub long_read : IsLong n → number_in 0 18446744073709551615 (decimal n) ≡ Some n
  long_read h = number_read 0 18446744073709551615 n (omega arith) (omega (arith, h)) (omega arith)

  pub long_solid : IsLong n → is_solid (decimal n) ≡ true
  long_solid h = decimal_solid n h

-- bytes in digits
pub bytes_read : (bytes : List ℕ) → IsBytes bytes → decode_of (encode_upper bytes) ≡ Ok bytes
bytes_read bytes h = decode_of-encode_upper bytes h

pub sized_read : (n : ℕ) (bytes : List ℕ) → AreBytes n bytes → decode_sized (encode_upper bytes) n ≡ Ok bytes
sized_read n bytes h =
    let len : length (encode_upper bytes) ≡ 2 * n = length-encode_with _ bytes ∙ ap (λ (k : ℕ). 2 * k) h.count in
    decode_sized-twice (encode_upper bytes) n len ∙ decode_of-encode_upper bytes h.each

one_byte : (b : ℕ) → b < 256 → IsBytes (b ∷ [])
one_byte b h zero = h
one_byte b h (suc i) = omega arith

pub byte_read : (b : ℕ) → b < 256 → decode_sized (encode_upper (b ∷ [])) 1 ≡ Ok (b ∷ [])
byte_read b h = sized_read 1 (b ∷ []) (record { count = refl; each = one_byte b h })
