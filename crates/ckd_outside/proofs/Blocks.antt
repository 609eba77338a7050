-- The digits of sixteen bytes at once.
use Rattle.std.proofs.Common.{◌≡◌, ◌∷◌, [], ◌++◌, ◌+◌, ◌*◌, ◌/◌, ◌%◌, ◌^◌, ◌<◌, ◌≤◌, ℕ, List, map, length, take, drop, get_or, replicate, slice_index, bit_and, refl, sym, ap, subst, ◌∙◌, arith, w8, Fits}
use Rattle.std.proofs.Math.Path.{fun_ext}
use Rattle.std.proofs.lemmas.List.{append_assoc, drop-drop, ext_get_or, get_or-map, length-map, take-append-drop}
use Rattle.std.proofs.lemmas.Simd.{Each1-all, Each1-get_or, Each1-weaker, Each1-zip2, Each2-splat, SwzOk, SwzOk-from_below, below_from_Fits, get_or-swz_l_below, length-put_chunk, length-swz_l, length-zip2, pick_l_whole, swz_l, take_more_put_chunk, zip2_splat}
use Rattle.std.proofs.lemmas.Nat.{and_le_r, and_mask}
use lib.Lanes.{zip2, Each1, chunk, put_chunk, pick_l}
use Rattle.hex.specs.Hex.{encode_upper, encode_with, upper_digits}
use Rattle.ckd_outside.proofs.HexLemmas.{hex_both}

abbrev pub IsBlock : List ℕ → Type 0
IsBlock v = (length v ≡ 16) × Each1 (Fits w8) v

abbrev pub down : ℕ → ℕ → ℕ
down a b = a / 2 ^ b

upper_half : (v : List ℕ) → Each1 (Fits w8) v → Each1 (λ a. a / 16 < 16) v
upper_half v fits = Each1-weaker (λ a. a < 256) (λ a. a / 16 < 16) (λ a h. omega arith) v (below_from_Fits w8 v fits)

lower_half : (v : List ℕ) → Each1 (λ a. bit_and a 15 < 16) v
lower_half v = Each1-all (λ a. bit_and a 15 < 16) (λ a. omega (arith, and_le_r a 15)) v

-- a digit stands at each place
pub upper_ok : (v : List ℕ) → IsBlock v → SwzOk w8 16 16 0 (zip2 down v (replicate 16 4))
upper_ok v fits =
    SwzOk-from_below w8 16 1 16 0 (zip2 down v (replicate 16 4)) refl (omega (arith, length-zip2 down v (replicate 16 4) fits.0))
    (Each1-zip2 down (λ j. j < 16) v (replicate 16 4) (Each2-splat (λ a b. down a b < 16) v 16 4 (upper_half v fits.1)))

pub lower_ok : (v : List ℕ) → IsBlock v → SwzOk w8 16 16 0 (zip2 bit_and v (replicate 16 15))
lower_ok v fits =
    SwzOk-from_below w8 16 1 16 0 (zip2 bit_and v (replicate 16 15)) refl (omega (arith, length-zip2 bit_and v (replicate 16 15) fits.0))
    (Each1-zip2 bit_and (λ j. j < 16) v (replicate 16 15) (Each2-splat (λ a b. bit_and a b < 16) v 16 15 (lower_half v)))

-- the digit at g x of each x
looked_up : (g : ℕ → ℕ) (v js : List ℕ) → length v ≡ 16 → js ≡ map g v → Each1 (λ x. g x < 16) v →
    swz_l w8 16 upper_digits 0 js ≡ map (λ x. slice_index upper_digits (g x)) v
looked_up g v js long is below =
    let many : length js ≡ 16 = ap length is ∙ length-map v g ∙ long in
    ext_get_or 0 _ _ (length-swz_l w8 16 upper_digits 0 js ∙ many ∙ sym (length-map v (λ x. slice_index upper_digits (g x)) ∙ long)) (λ i h.
    let lt : i < 16 = omega (arith, length-swz_l w8 16 upper_digits 0 js) in
    let within : i < length v = omega (arith, long) in
    let at : get_or js i 0 ≡ g (get_or v i 0) = ap (λ l. get_or l i 0) is ∙ get_or-map g v i 0 0 within in
    let small : get_or js i 0 < 16 = omega (arith, Each1-get_or (λ x. g x < 16) v i 0 within below) in
    get_or-swz_l_below w8 16 upper_digits 0 js i (omega arith) small
    ∙ ap (λ k. get_or upper_digits k 0) (omega arith)
    ∙ sym (get_or-map (λ x. slice_index upper_digits (g x)) v i 0 0 within))

pub upper_looked_up : (v : List ℕ) → IsBlock v →
    swz_l w8 16 upper_digits 0 (zip2 down v (replicate 16 4)) ≡ map (λ b. slice_index upper_digits (b / 16)) v
upper_looked_up v fits = looked_up (λ b. b / 16) v _ fits.0 (zip2_splat down v 16 4 fits.0) (upper_half v fits.1)

pub lower_looked_up : (v : List ℕ) → IsBlock v →
    swz_l w8 16 upper_digits 0 (zip2 bit_and v (replicate 16 15)) ≡ map (λ b. slice_index upper_digits (b % 16)) v
lower_looked_up v fits =
    looked_up (λ b. bit_and b 15) v _ fits.0 (zip2_splat bit_and v 16 15 fits.0) (lower_half v)
    ∙ ap (λ g. map g v) (fun_ext (λ b. ap (slice_index upper_digits) (and_mask b 4)))

-- first and second digits in turn
abbrev front_places : List ℕ
front_places = 0 ∷ 16 ∷ 1 ∷ 17 ∷ 2 ∷ 18 ∷ 3 ∷ 19 ∷ 4 ∷ 20 ∷ 5 ∷ 21 ∷ 6 ∷ 22 ∷ 7 ∷ 23 ∷ []

abbrev back_places : List ℕ
back_places = 8 ∷ 24 ∷ 9 ∷ 25 ∷ 10 ∷ 26 ∷ 11 ∷ 27 ∷ 12 ∷ 28 ∷ 13 ∷ 29 ∷ 14 ∷ 30 ∷ 15 ∷ 31 ∷ []

abbrev both_digits : List ℕ → List ℕ
both_digits v = map (λ b. slice_index upper_digits (b / 16)) v ++ map (λ b. slice_index upper_digits (b % 16)) v

abbrev IsEncoded : List ℕ → Type 0
IsEncoded v = pick_l 0 (both_digits v) front_places ++ pick_l 0 (both_digits v) back_places ≡ encode_upper v

pub in_turn : (v : List ℕ) → length v ≡ 16 → IsEncoded v
unfolding encode_with
in_turn v long = subst IsEncoded (pick_l_whole 0 v 16 long) refl

-- sixteen bytes more are written
pub block_put : (out front back v : List ℕ) (i : ℕ) → length front ≡ 16 → length back ≡ 16 → i + 32 ≤ length out → front ++ back ≡ encode_upper v →
    take (i + 32) (put_chunk (i + 16) (put_chunk i out front) back) ≡ take i out ++ encode_upper v
block_put out front back v i f b fits is =
    take_more_put_chunk (i + 16) (put_chunk i out front) back (i + 32) (omega (arith, b)) (omega (arith, length-put_chunk i out front))
    ∙ ap (λ l. l ++ back) (take_more_put_chunk i out front (i + 16) (omega (arith, f)) (omega arith))
    ∙ append_assoc (take i out) front back ∙ ap (λ l. take i out ++ l) is

-- what is left, once a block is written
pub block_step : (bytes out out' : List ℕ) (i : ℕ) → take (2 * i + 32) out' ≡ take (2 * i) out ++ encode_upper (chunk i 16 bytes) →
    take (2 * i) out ++ encode_upper (drop i bytes) ≡ encode_upper bytes →
    take (2 * (i + 16)) out' ++ encode_upper (drop (i + 16) bytes) ≡ encode_upper bytes
block_step bytes out out' i is before =
    ap (λ n. take n out' ++ encode_upper (drop (i + 16) bytes)) (omega arith)
    ∙ ap (λ l. l ++ encode_upper (drop (i + 16) bytes)) is
    ∙ append_assoc (take (2 * i) out) (encode_upper (chunk i 16 bytes)) (encode_upper (drop (i + 16) bytes))
    ∙ ap (λ l. take (2 * i) out ++ l) (sym (hex_both (chunk i 16 bytes) (drop (i + 16) bytes))
    ∙ ap encode_upper (ap (λ l. chunk i 16 bytes ++ l) (sym (drop-drop 16 i bytes)) ∙ take-append-drop 16 (drop i bytes)))
    ∙ before
