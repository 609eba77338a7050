-- The fields of a file, as they are spelled.
use Rattle.std.proofs.Common.{◌≡◌, ℕ, ◌+◌, ◌*◌, ◌/◌, ◌%◌, ◌<◌, true, List, [], ◌∷◌, ◌++◌, length, get_or, take, drop, nat_eq, refl, sym, ap, ◌∙◌, arith}
use Rattle.std.specs.List.{starts_with}
use Rattle.std.proofs.lemmas.List.{take-append-drop, length-drop, get_or-drop}
use Rattle.std.proofs.lemmas.Slice.Eq.{bytes_eq-Decides}
use Rattle.byteorder.specs.Endian.{big_bytes, big_number}
use Rattle.ckd_types.specs.declared.geometry.Geometry.{Geometry}
use Rattle.volume_file.specs.File.{head_of, model_byte, signature}

four : (xs : List ℕ) → length xs ≡ 4 → xs ≡ get_or xs 0 0 ∷ get_or xs 1 0 ∷ get_or xs 2 0 ∷ get_or xs 3 0 ∷ []
four [] is = absurd (omega (arith, is))
four (a ∷ []) is = absurd (omega (arith, is))
four (a ∷ b ∷ []) is = absurd (omega (arith, is))
four (a ∷ b ∷ c ∷ []) is = absurd (omega (arith, is))
four (a ∷ b ∷ c ∷ d ∷ []) is = refl
four (a ∷ b ∷ c ∷ d ∷ e ∷ rest) is = absurd (omega (arith, is))

bytes_are : (n a b c d : ℕ) → n ≡ a * 16777216 + (b * 65536 + (c * 256 + (d * 1 + 0))) → a < 256 → b < 256 → c < 256 → d < 256
    → a ∷ b ∷ c ∷ d ∷ [] ≡ big_bytes 4 n
bytes_are n a b c d is ha hb hc hd =
    let first : n / 16777216 % 256 ≡ a = omega arith in
    let second : n / 65536 % 256 ≡ b = omega arith in
    let third : n / 256 % 256 ≡ c = omega arith in
    let last : n % 256 ≡ d = omega arith in
    rw (first, second, third, last) refl

-- the four bytes of a number
pub number_spelled : (field : List ℕ) (n : ℕ) → ((k : ℕ) → get_or field k 0 < 256) → length field ≡ 4 → n ≡ big_number 4 field
    → field ≡ big_bytes 4 n
number_spelled field n fits four_long is =
    four field four_long ∙ bytes_are n (get_or field 0 0) (get_or field 1 0) (get_or field 2 0) (get_or field 3 0) is (fits 0) (fits 1) (fits 2) (fits 3)

-- the twelve bytes of a head
pub head_spelled : (field : List ℕ) (g : Geometry) (c : ℕ) → starts_with nat_eq field signature ≡ true → length field ≡ 12
    → get_or field 8 0 ≡ model_byte g → get_or field 9 0 ≡ c → get_or field 10 0 ≡ 0
    → get_or field 11 0 ≡ 0
    → field ≡ head_of g c
head_spelled field g c start long model cylinders first second =
    let same = (bytes_eq-Decides signature (take 8 field)).0 start in
    let rest : drop 8 field ≡ model_byte g ∷ c ∷ 0 ∷ 0 ∷ [] =
    four (drop 8 field) (omega (arith, long, length-drop 8 field))
    ∙ rw (get_or-drop 8 field 0 0, get_or-drop 8 field 1 0, get_or-drop 8 field 2 0, get_or-drop 8 field 3 0, model, cylinders, first, second) refl in
    sym (take-append-drop 8 field) ∙ ap (λ (l : List ℕ). l ++ drop 8 field) (sym same) ∙ ap (λ (l : List ℕ). signature ++ l) rest
