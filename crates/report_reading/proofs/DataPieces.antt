-- The digits of a byte, or of sixteen, at the front of a text.
use Rattle.std.proofs.Common.{◌≡◌, ◌<◌, ◌+◌, ◌/◌, ◌%◌, ◌&&◌, ◌^◌, ◌*◌, ◌∷◌, [], ◌++◌, ℕ, List, Bool, true, false, cond, map, w8}
use Rattle.std.proofs.Common.{Option, Some, None, length, get_or, take, drop, refl, sym, ap, subst, ◌∙◌}
use Rattle.std.proofs.Common.{◌==◌, ◌≢◌, ◌≤◌, ◌-◌, append_assoc, arith, drop_of_length-le}
use Rattle.std.specs.Prelude.{MatchOption, codes, not, slice_index, nat_eq}
use Rattle.std.specs.Str.{bytes_eq}
use Rattle.std.proofs.lemmas.Bool.Decides.{nat_tests}
use Rattle.std.proofs.lemmas.List.{append-nil, at_drop_more, drop-drop, get_or-drop, get_or-take, length-drop, length-take-le, take-append-drop}
use Rattle.std.proofs.Math.Seq.{take-add}
use Rattle.std.proofs.lemmas.Slice.Eq.{bytes_eq-Decides}
use Rattle.std.proofs.lemmas.Simd.{length-zip2, mask_l-mod, tops_compared}
use lib.Lanes.{mask_l, top, zip2}
use Rattle.hex.specs.Hex.{encode_upper, encode_with, upper_digits}
use Rattle.hex.proofs.HexLemmas.{length-encode_with}
use Rattle.ckd_outside.proofs.HexLemmas.{hex_both}
use Rattle.report_reading.proofs.Feeds.{both_whole, hex_whole, is_whole, none_stands}
use Rattle.report_text.specs.declared.line.ReportLine.TheVariants.{Data}
use Rattle.report_text.specs.Lines.{text_of}

and_all : (x y z : Bool) → (x && (y && z)) ≡ ((x && y) && z)
and_all true y z = refl
and_all false y z = refl

-- a text begins with some bytes, and the rest is the rest
pub front_eq : (front text rest : List ℕ)
    → bytes_eq text (front ++ rest) ≡ (bytes_eq (take (length front) text) front && bytes_eq (drop (length front) text) rest)
front_eq [] text rest = refl
front_eq (y ∷ front) [] rest = refl
front_eq (y ∷ front) (x ∷ text) rest =
    ap (λ (b : Bool). nat_eq x y && b) (front_eq front text rest)
    ∙ and_all (nat_eq x y) (bytes_eq (take (length front) text) front) (bytes_eq (drop (length front) text) rest)

pub after_is : {X : Type 0} (view : X → List ℕ) (o : Option X) (text front : List ℕ)
    → MatchOption o (bytes_eq (take (length front) text) front ≡ false)
    (λ x. (bytes_eq (take (length front) text) front ≡ true) × (view x ≡ drop (length front) text) × (length (view x) + length front ≡ length text))
    → MatchOption o ((rest : List ℕ) → bytes_eq text (front ++ rest) ≡ false) (λ x. (rest : List ℕ) → bytes_eq text (front ++ rest) ≡ bytes_eq (view x) rest)
after_is view None text front c = λ rest. front_eq front text rest ∙ ap (λ (b : Bool). b && bytes_eq (drop (length front) text) rest) c
after_is view (Some x) text front c = λ rest. front_eq front text rest ∙ ap (λ (b : Bool). b && bytes_eq (drop (length front) text) rest) c.0
    ∙ ap (λ (d : List ℕ). bytes_eq d rest) (sym c.1)

-- the digits of the bytes from place i on
pub digits_on : (bytes : List ℕ) (i : ℕ) → i < length bytes
    → encode_upper (drop i bytes) ≡ slice_index upper_digits (get_or bytes i 0 / 16) ∷ slice_index upper_digits (get_or bytes i 0 % 16)
    ∷ encode_upper (drop (i + 1) bytes)
unfolding encode_with
digits_on bytes i inside = at_drop_more encode_upper bytes i 0 inside

empty_is : (text : List ℕ) → bytes_eq text [] ≡ (length text == 0)
empty_is [] = refl
empty_is (x ∷ text) = grind (arith, nat_tests)

-- behind the last byte
pub at_end : (text bytes : List ℕ) (i : ℕ) → length bytes ≤ i → bytes_eq text (encode_upper (drop i bytes)) ≡ (length text == 0)
unfolding encode_with
at_end text bytes i behind = ap (λ (l : List ℕ). bytes_eq text (encode_upper l)) (drop_of_length-le bytes behind) ∙ empty_is text

-- two blocks of sixteen digits
pub block_eq : (text front back digits rest : List ℕ) → length front ≡ 16 → length back ≡ 16 → front ++ back ≡ digits
    → bytes_eq text (digits ++ rest) ≡ ((bytes_eq (take 16 text) front && bytes_eq (take 16 (drop 16 text)) back) && bytes_eq (drop 32 text) rest)
block_eq text front back digits rest f b is =
    ap (λ (l : List ℕ). bytes_eq text (l ++ rest)) (sym is)
    ∙ ap (λ (l : List ℕ). bytes_eq text l) (append_assoc front back rest)
    ∙ front_eq front text (back ++ rest)
    ∙ ap (λ (n : ℕ). bytes_eq (take n text) front && bytes_eq (drop n text) (back ++ rest)) f
    ∙ ap (λ (c : Bool). bytes_eq (take 16 text) front && c)
    (front_eq back (drop 16 text) rest
    ∙ ap (λ (n : ℕ). bytes_eq (take n (drop 16 text)) back && bytes_eq (drop n (drop 16 text)) rest) b
    ∙ ap (λ (l : List ℕ). bytes_eq (take 16 (drop 16 text)) back && bytes_eq l rest) (drop-drop 16 16 text))
    ∙ and_all (bytes_eq (take 16 text) front) (bytes_eq (take 16 (drop 16 text)) back) (bytes_eq (drop 32 text) rest)

-- no lane of two blocks differs

mark_step : (q : Bool) (m : ℕ) → nat_eq (cond (not q) 1 0 + 2 * m) 0 ≡ (q && nat_eq m 0)
mark_step true m = grind (arith, nat_tests)
mark_step false m = grind (arith, nat_tests)

none_marked : (xs ys : List ℕ) → length xs ≡ length ys → nat_eq (mask_l (zip2 (λ a b. not (nat_eq a b)) xs ys)) 0 ≡ bytes_eq xs ys
none_marked [] [] e = refl
none_marked [] (y ∷ ys) e = absurd (cc)
none_marked (x ∷ xs) [] e = absurd (cc)
none_marked (x ∷ xs) (y ∷ ys) e =
    let long : length xs ≡ length ys = omega (arith, e) in
    mark_step (nat_eq x y) (mask_l (zip2 (λ a b. not (nat_eq a b)) xs ys)) ∙ ap (λ (b : Bool). nat_eq x y && b) (none_marked xs ys long)

abbrev marks : List ℕ → List ℕ → ℕ
marks xs ys = mask_l (map (top 7) (zip2 (λ a b. cond (not (nat_eq a b)) 255 0) xs ys)) % 2 ^ 64

abbrev is_unmarked : List ℕ → List ℕ → Bool
is_unmarked xs ys = nat_eq (marks xs ys) 0

some_marked : (n : ℕ) → (n ≡ 0 → ⊥) → nat_eq n 0 ≡ false
some_marked n other = grind (arith, nat_tests, other)

lanes_eq : (xs ys : List ℕ) → length xs ≡ 16 → length ys ≡ 16 → is_unmarked xs ys ≡ bytes_eq xs ys
lanes_eq xs ys x y =
    let differ = zip2 (λ a b. not (nat_eq a b)) xs ys in
    let short : length differ ≤ 64 = omega (arith, length-zip2 (λ a b. not (nat_eq a b)) xs ys (x ∙ sym y), x) in
    ap (λ (ms : List Bool). nat_eq (mask_l ms % 2 ^ 64) 0) (tops_compared w8 (λ a b. not (nat_eq a b)) xs ys)
    ∙ ap (λ (n : ℕ). nat_eq n 0) (mask_l-mod differ 64 short) ∙ none_marked xs ys (x ∙ sym y)

pub sixteen : (bytes : List ℕ) → encode_upper bytes ≡ encode_upper (take 16 bytes) ++ encode_upper (drop 16 bytes)
sixteen bytes = ap encode_upper (sym (take-append-drop 16 bytes)) ∙ hex_both (take 16 bytes) (drop 16 bytes)

module _ (text bytes front back : List ℕ) (f : length front ≡ 16) (b : length back ≡ 16) (is : front ++ back ≡ encode_upper (take 16 bytes))
    (long : 32 ≤ length text) where
  whole : bytes_eq text (encode_upper bytes)
      ≡ ((is_unmarked (take 16 text) front && is_unmarked (take 16 (drop 16 text)) back) && bytes_eq (drop 32 text) (encode_upper (drop 16 bytes)))
  whole =
      let first : length (take 16 text) ≡ 16 = length-take-le 16 text (omega (arith, long)) in
      let second : length (take 16 (drop 16 text)) ≡ 16 = length-take-le 16 (drop 16 text) (omega (arith, long, length-drop 16 text)) in
      ap (bytes_eq text) (sixteen bytes) ∙ block_eq text front back (encode_upper (take 16 bytes)) (encode_upper (drop 16 bytes)) f b is
      ∙ sym (ap (λ (x : Bool). (x && is_unmarked (take 16 (drop 16 text)) back) && bytes_eq (drop 32 text) (encode_upper (drop 16 bytes)))
      (lanes_eq (take 16 text) front first f)
      ∙ ap (λ (y : Bool). (bytes_eq (take 16 text) front && y) && bytes_eq (drop 32 text) (encode_upper (drop 16 bytes)))
      (lanes_eq (take 16 (drop 16 text)) back second b))

  pub block_goes_on : marks (take 16 text) front ≡ 0 → bytes_eq text (encode_upper bytes)
      ≡ (is_unmarked (take 16 (drop 16 text)) back && bytes_eq (drop 32 text) (encode_upper (drop 16 bytes)))
  block_goes_on same = whole ∙ ap (λ (x : Bool). (x && is_unmarked (take 16 (drop 16 text)) back) && bytes_eq (drop 32 text) (encode_upper (drop 16 bytes)))
      (ap (λ (n : ℕ). nat_eq n 0) same)

  pub block_differs : (marks (take 16 text) front ≡ 0 → ⊥) → bytes_eq text (encode_upper bytes)
      ≡ (is_unmarked (take 16 text) front && bytes_eq (drop 32 text) (encode_upper (drop 16 bytes)))
  block_differs other =
      let differs = some_marked (marks (take 16 text) front) other in
      whole ∙ ap (λ (x : Bool). (x && is_unmarked (take 16 (drop 16 text)) back) && bytes_eq (drop 32 text) (encode_upper (drop 16 bytes))) differs
      ∙ sym (ap (λ (x : Bool). x && bytes_eq (drop 32 text) (encode_upper (drop 16 bytes))) differs)

-- behind a block that is the same
pub next_block : (text bytes : List ℕ) (i : ℕ) (is : Bool)
    → bytes_eq (drop (2 * i) text) (encode_upper (drop i bytes)) ≡ (is && bytes_eq (drop 32 (drop (2 * i) text)) (encode_upper (drop 16 (drop i bytes))))
    → is ≡ true → bytes_eq (drop (2 * i) text) (encode_upper (drop i bytes)) ≡ bytes_eq (drop (2 * (i + 16)) text) (encode_upper (drop (i + 16) bytes))
next_block text bytes i is begins same =
    begins ∙ ap (λ (b : Bool). b && bytes_eq (drop 32 (drop (2 * i) text)) (encode_upper (drop 16 (drop i bytes)))) same
    ∙ ap (λ (l : List ℕ). bytes_eq l (encode_upper (drop 16 (drop i bytes)))) (drop-drop 32 (2 * i) text ∙ ap (λ (n : ℕ). drop n text) (omega arith))
    ∙ ap (λ (l : List ℕ). bytes_eq (drop (2 * (i + 16)) text) (encode_upper l)) (drop-drop 16 i bytes ∙ ap (λ (n : ℕ). drop n bytes) (omega arith))

-- a text that is longer or shorter than the digits
differs_by : (b : Bool) → (b ≡ true → ⊥) → false ≡ b
differs_by false other = refl
differs_by true other = absurd (other refl)

pub length_differs : (text bytes : List ℕ) → (length text ≡ 2 * length bytes → ⊥) → false ≡ bytes_eq text (encode_upper bytes)
length_differs text bytes other = differs_by (bytes_eq text (encode_upper bytes)) (λ same.
    other (ap length ((bytes_eq-Decides text (encode_upper bytes)).0 same) ∙ length-encode_with upper_digits bytes))

-- a DATA line
data_text : (bytes : List ℕ) → text_of (Data bytes) ≡ codes "DATA " ++ encode_upper bytes
unfolding text_of
data_text bytes = ap (λ (l : List ℕ). codes "DATA " ++ l) (append-nil (encode_upper bytes))

data_by : (text bytes : List ℕ) (b : Bool) → bytes_eq (take 5 text) (codes "DATA ") ≡ b
    → bytes_eq text (text_of (Data bytes)) ≡ (b && bytes_eq (drop 5 text) (encode_upper bytes))
data_by text bytes b is = ap (bytes_eq text) (data_text bytes) ∙ front_eq (codes "DATA ") text (encode_upper bytes)
    ∙ ap (λ (x : Bool). x && bytes_eq (drop 5 text) (encode_upper bytes)) is

pub data_starts : (text bytes digits : List ℕ) → bytes_eq (take 5 text) (codes "DATA ") ≡ true → digits ≡ drop 5 text
    → bytes_eq digits (encode_upper bytes) ≡ bytes_eq text (text_of (Data bytes))
data_starts text bytes digits starts is = ap (λ (l : List ℕ). bytes_eq l (encode_upper bytes)) is ∙ sym (data_by text bytes true starts)

pub data_apart : (text bytes : List ℕ) → bytes_eq (take 5 text) (codes "DATA ") ≡ false → false ≡ bytes_eq text (text_of (Data bytes))
data_apart text bytes apart = sym (data_by text bytes false apart)

-- it ends behind its digits
data_front : (text digits bytes : List ℕ) (end : ℕ) → bytes_eq (take 5 text) (codes "DATA ") ≡ true → digits ≡ drop 5 text
    → take end digits ≡ encode_upper bytes → take (end + 5) text ≡ text_of (Data bytes)
data_front text digits bytes end starts is front =
    ap (λ (n : ℕ). take n text) (omega arith) ∙ take-add 5 end text
    ∙ ap (λ (l : List ℕ). take 5 text ++ l) (ap (take end) (sym is) ∙ front)
    ∙ ap (λ (l : List ℕ). l ++ encode_upper bytes) ((bytes_eq-Decides (take 5 text) (codes "DATA ")).0 starts)
    ∙ sym (data_text bytes)

data_whole : (bytes : List ℕ) → is_whole (text_of (Data bytes)) ≡ true
data_whole bytes = ap is_whole (data_text bytes) ∙ both_whole (codes "DATA ") (encode_upper bytes) refl (hex_whole bytes)

module _ (text digits bytes : List ℕ) (end : ℕ) (starts : bytes_eq (take 5 text) (codes "DATA ") ≡ true) (is : digits ≡ drop 5 text)
    (front : take end digits ≡ encode_upper bytes) where
  pub front_is : take (end + 5) text ≡ text_of (Data bytes)
  front_is = data_front text digits bytes end starts is front

  pub front_whole : (k : ℕ) → k < end + 5 → slice_index text k ≢ 10
  front_whole k lt =
      subst (λ (b : ℕ). b ≢ 10) (get_or-take (end + 5) text k 0 lt)
      (none_stands (take (end + 5) text) (ap is_whole front_is ∙ data_whole bytes) k)

  pub front_ends : (end < length digits) × (slice_index digits end ≡ 10) → (end + 5 < length text) × (slice_index text (end + 5) ≡ 10)
  front_ends at =
      let long : length digits ≡ length text - 5 = ap length is ∙ length-drop 5 text in (
        omega (arith, at.0, long),
        ap (λ (k : ℕ). get_or text k 0) (omega arith) ∙ sym (get_or-drop 5 text end 0) ∙ ap (λ (l : List ℕ). get_or l end 0) (sym is) ∙ at.1,
      )
