-- What is written in canonical form is read again: numbers, bytes, words and lines.
use Rattle.std.proofs.Common.{◌≡◌, ◌≢◌, ◌≤◌, ◌<◌, ◌^◌, ◌&&◌, ◌||◌, ◌∷◌, [], ◌++◌, ℕ, zero, suc, List, Bool, true, false, length, get_or, Some, Ok, refl, ap}
use Rattle.std.proofs.Common.{◌∙◌, arith, rules, ◌⊎◌, inl, inr}
use Rattle.std.specs.Prelude.{decimal, nat_lt, nat_le}
use Rattle.std.proofs.lemmas.Bool.{and_from, and_parts, or_parts}
use Rattle.std.proofs.lemmas.Bool.Decides.{nat_tests}
use Rattle.std.proofs.lemmas.Fmt.{decimal_nonempty, length-decimal-le, first_decimal, decimal_digit, digits_decimal, digits_value-decimal}
use Rattle.std.proofs.lemmas.Str.Parse.{IsNumeralModel, numerals_by_fold}
use Rattle.hex.specs.Hex.{encode_upper, IsBytes}
use Rattle.hex.proofs.HexLemmas.{decode_of-encode_upper, decode_sized-twice, length-encode_with}
use Rattle.deck_text.specs.Numbers.{are_digits, is_digit, value_after, has_form, word_number, within, number_in}
use Rattle.deck_text.specs.Lines.{text_lines, onto_first, has_bad_byte}
use Rattle.deck_text.specs.Words.{words_of}
use Rattle.deck_text.specs.Forms.{byte_of, first_byte, word_bytes, decoded}

pub own : IsNumeralModel (λ ds. are_digits ds ≡ true) (value_after 0)
own = numerals_by_fold _ (search rules) value_after (search rules)

-- printed letters: neither spaces nor control bytes
abbrev pub are_letters : List ℕ → Bool
are_letters [] = true
are_letters (b ∷ bytes) = nat_lt 32 b && nat_le b 126 && are_letters bytes

letter_digit : (b : ℕ) → is_digit b ≡ true → (nat_lt 32 b && nat_le b 126) ≡ true
letter_digit b h = grind (arith, nat_tests)

pub digits_letters : (ds : List ℕ) → are_digits ds ≡ true → are_letters ds ≡ true
digits_letters [] h = refl
digits_letters (b ∷ ds) h =
    let p = and_parts (is_digit b) (are_digits ds) h in
    and_from (nat_lt 32 b && nat_le b 126) (are_letters ds) (letter_digit b p.0) (digits_letters ds p.1)

form_of : (ds : List ℕ) → 0 < length ds → length ds ≤ 10 → 48 < get_or ds 0 0 → has_form ds ≡ true
form_of ds some few first = grind (arith, nat_tests)

nat_zero : (n : ℕ) → (n ≡ 0) ⊎ (0 < n)
nat_zero zero = inl refl
nat_zero (suc n) = inr (omega arith)

zero_form : (n : ℕ) → n ≡ 0 → has_form (decimal n) ≡ true
zero_form n e = rw e (rw (decimal_digit 0 (omega arith)) refl)

pub decimal_form : (n : ℕ) → n < 10 ^ 10 → has_form (decimal n) ≡ true
decimal_form n h =
    let small : n < 2 ^ 64 = omega arith in
    let some = decimal_nonempty n small in
    let few = length-decimal-le 10 n (omega arith) h small in
    elim (nat_zero n) [ inl e ↦ zero_form n e | inr pos ↦ form_of (decimal n) some few (first_decimal n pos small) ]

pub decimal_read : (n : ℕ) → n < 10 ^ 10 → word_number (decimal n) ≡ Some n
decimal_read n h =
    let small : n < 2 ^ 64 = omega arith in
    let form = decimal_form n h in
    let digits : are_digits (decimal n) ≡ true = digits_decimal own n small in
    let value : value_after 0 (decimal n) ≡ n = digits_value-decimal own n small in
    rw (form, digits, value) refl

pub number_read : (least most n : ℕ) → least ≤ n → n ≤ most → most < 10 ^ 10 → number_in least most (decimal n) ≡ Some n
number_read least most n low high small =
    let e = decimal_read n (omega arith) in
    ap (within least most) e ∙ grind (arith, nat_tests)

-- a word and a space
word_more : (b : ℕ) (c : ℕ) (bytes : List ℕ) → b ≢ 32 → c ≢ 32 → words_of (b ∷ c ∷ bytes) ≡ onto_first b (words_of (c ∷ bytes))
word_more b c bytes ne nc = grind (arith, nat_tests)

word_last : (b : ℕ) (bytes : List ℕ) → b ≢ 32 → words_of (b ∷ 32 ∷ bytes) ≡ (b ∷ []) ∷ words_of bytes
word_last b bytes ne = grind (arith, nat_tests)

word_end : (b : ℕ) → b ≢ 32 → words_of (b ∷ []) ≡ (b ∷ []) ∷ []
word_end b ne = grind (arith, nat_tests)

not_space : (b : ℕ) → (nat_lt 32 b && nat_le b 126) ≡ true → b ≢ 32
not_space b h e = grind (arith, nat_tests)

letters_first : (b : ℕ) (bytes : List ℕ) → are_letters (b ∷ bytes) ≡ true → (b ≢ 32) × (are_letters bytes ≡ true)
letters_first b bytes h =
    let p = and_parts (nat_lt 32 b && nat_le b 126) (are_letters bytes) h in
    (not_space b p.0, p.1)

pub word_then : (b : ℕ) (word bytes : List ℕ) → are_letters (b ∷ word) ≡ true → words_of ((b ∷ word) ++ 32 ∷ bytes) ≡ (b ∷ word) ∷ words_of bytes
word_then b [] bytes h = word_last b bytes (letters_first b [] h).0
word_then b (c ∷ word) bytes h =
    let f = letters_first b (c ∷ word) h in
    let g = letters_first c word f.1 in
    word_more b c (word ++ 32 ∷ bytes) f.0 g.0 ∙ ap (λ (l : List (List ℕ)). onto_first b l) (word_then c word bytes f.1)

pub word_alone : (b : ℕ) (word : List ℕ) → are_letters (b ∷ word) ≡ true → words_of (b ∷ word) ≡ (b ∷ word) ∷ []
word_alone b [] h = word_end b (letters_first b [] h).0
word_alone b (c ∷ word) h =
    let f = letters_first b (c ∷ word) h in
    let g = letters_first c word f.1 in
    word_more b c word f.0 g.0 ∙ ap (λ (l : List (List ℕ)). onto_first b l) (word_alone c word f.1)

-- a line without bad bytes, and its line feed
printed : (b : ℕ) → (nat_lt b 32 || nat_lt 126 b) ≡ false → 32 ≤ b
printed b h = grind (arith, nat_tests)

line_byte : (b : ℕ) (bytes : List ℕ) → has_bad_byte (b ∷ bytes) ≡ false → (32 ≤ b) × (has_bad_byte bytes ≡ false)
line_byte b bytes h =
    let p = or_parts (nat_lt b 32 || nat_lt 126 b) (has_bad_byte bytes) h in
    (printed b p.0, p.1)

line_more : (b : ℕ) (bytes : List ℕ) → 32 ≤ b → text_lines (b ∷ bytes) ≡ onto_first b (text_lines bytes)
line_more b bytes h = grind (arith, nat_tests)

pub line_then : (line bytes : List ℕ) → has_bad_byte line ≡ false → text_lines (line ++ 10 ∷ bytes) ≡ line ∷ text_lines bytes
line_then [] bytes h = refl
line_then (b ∷ line) bytes h =
    let f = line_byte b line h in
    line_more b (line ++ 10 ∷ bytes) f.0 ∙ ap (λ (l : List (List ℕ)). onto_first b l) (line_then line bytes f.1)

-- bytes in digits
one_byte : (b : ℕ) → b < 256 → IsBytes (b ∷ [])
one_byte b h zero = h
one_byte b h (suc i) = omega arith

pub byte_read : (b : ℕ) → b < 256 → byte_of (encode_upper (b ∷ [])) ≡ Some b
byte_read b h =
    ap first_byte (decode_sized-twice (encode_upper (b ∷ [])) 1 (length-encode_with _ (b ∷ [])) ∙ decode_of-encode_upper (b ∷ []) (one_byte b h))

pub bytes_read : (bytes : List ℕ) → IsBytes bytes → word_bytes (encode_upper bytes) ≡ Ok bytes
bytes_read bytes h = ap decoded (decode_of-encode_upper bytes h)
