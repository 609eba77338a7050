-- A text of words with a space before each is cut into these words.
use Rattle.std.proofs.Common.{◌≡◌, ◌==◌, ◌&&◌, ◌∷◌, [], ◌++◌, ℕ, zero, suc, List, Bool, true, false, refl, ap, ◌∙◌, arith}
use Rattle.std.specs.Prelude.{◌||◌, not, slice_index}
use Rattle.std.specs.List.{slice_split, onto_first}
use Rattle.std.proofs.lemmas.Bool.{and_parts, and_from}
use Rattle.std.proofs.lemmas.List.{append-nil}
use Rattle.std.proofs.lemmas.List.Splits.{slice_split-cons_no}
use Rattle.hex.specs.Hex.{encode_with, encode_upper, upper_digits}
use Rattle.report_text.specs.Words.{all_spaced}

-- a word has neither a space nor a line feed
abbrev pub is_gap : ℕ → Bool
is_gap b = (b == 32) || (b == 10)

abbrev pub is_solid : List ℕ → Bool
is_solid [] = true
is_solid (b ∷ word) = not (is_gap b) && is_solid word

abbrev pub are_solid : List (List ℕ) → Bool
are_solid [] = true
are_solid (w ∷ ws) = is_solid w && are_solid ws

is_not : (x y : Bool) → not (x || y) ≡ true → x ≡ false
is_not x y h = grind arith

abbrev space : ℕ → Bool
space b = b == 32

word_then : (word rest : List ℕ) → is_solid word ≡ true → slice_split space (word ++ 32 ∷ rest) ≡ word ∷ slice_split space rest
word_then [] rest h = refl
word_then (b ∷ word) rest h =
    let p = and_parts (not (is_gap b)) (is_solid word) h in
    slice_split-cons_no space b (word ++ 32 ∷ rest) (is_not (b == 32) (b == 10) p.0) ∙ ap (onto_first b) (word_then word rest p.1)

word_alone : (word : List ℕ) → is_solid word ≡ true → slice_split space word ≡ word ∷ []
word_alone [] h = refl
word_alone (b ∷ word) h =
    let p = and_parts (not (is_gap b)) (is_solid word) h in
    slice_split-cons_no space b word (is_not (b == 32) (b == 10) p.0) ∙ ap (onto_first b) (word_alone word p.1)

pub words_cut : (word : List ℕ) (ws : List (List ℕ)) → is_solid word ≡ true → are_solid ws ≡ true
    → slice_split space (word ++ all_spaced ws) ≡ word ∷ ws
words_cut word [] h hs = rw (append-nil word) (word_alone word h)
words_cut word (v ∷ ws) h hs =
    let p = and_parts (is_solid v) (are_solid ws) hs in
    word_then word (v ++ all_spaced ws) h ∙ ap (λ (l : List (List ℕ)). word ∷ l) (words_cut v ws p.0 p.1)

index_solid : (text : List ℕ) (k : ℕ) → is_solid text ≡ true → not (is_gap (slice_index text k)) ≡ true
index_solid [] k h = refl
index_solid (b ∷ text) zero h = (and_parts (not (is_gap b)) (is_solid text) h).0
index_solid (b ∷ text) (suc k) h = index_solid text k (and_parts (not (is_gap b)) (is_solid text) h).1

digit_solid : (k : ℕ) → not (is_gap (slice_index upper_digits k)) ≡ true
digit_solid k = index_solid upper_digits k refl

pub hex_solid : (bytes : List ℕ) → is_solid (encode_upper bytes) ≡ true
unfolding encode_with
hex_solid [] = refl
hex_solid (b ∷ bytes) = grind (arith, hex_solid bytes, and_from, digit_solid)
