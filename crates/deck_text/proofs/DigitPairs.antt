-- A word of hex digits, read pair by pair.
use Rattle.std.proofs.Common.{◌≡◌, ◌<◌, ◌≤◌, ◌+◌, ◌*◌, ◌%◌, ◌^◌, ◌-◌, ◌⊎◌, inl, inr, ℕ, List, Bool, true, false, cond, Option, Some, None, Result, Ok, Err, length, take, drop, unwrap_or, slice_index, slice_set, refl, sym, ap, ◌∙◌, arith}
use Rattle.std.specs.Prelude.{max, nat_lt, nat_le, if◌then◌else◌}
use Rattle.std.proofs.lemmas.Bool.{cases_lt}
use Rattle.std.proofs.lemmas.Bool.Decides.{nat_tests}
use Rattle.hex.specs.Hex.{decode_of, decode_pairs, digit_or_error, hex_digit_value, pair_value, value_at, ◌>>=◌}
use Rattle.hex.specs.declared.error.FromHexError.{FromHexError}
use Rattle.hex.specs.declared.error.FromHexError.TheVariants.{InvalidHexCharacter}
use Rattle.hex.proofs.HexLemmas.{decode_of-even}
use Rattle.hex.proofs.Pairs.{decode_done, decode_err, decode_start, decode_step, prepend}
use Rattle.deck_text.specs.declared.line.DeckWhy.{DeckWhy}
use Rattle.deck_text.specs.declared.line.DeckWhy.TheVariants.{Hex}
use Rattle.deck_text.specs.Forms.{decoded, word_bytes}

-- the greatest value so far tells whether all were digits: where they were, the bytes so far are read
pub record Read (greatest i : ℕ) (out word : List ℕ) : Type 0 where
  pub right : greatest < 16 → decode_pairs 0 word ≡ prepend (take i out) (decode_pairs (2 * i) (drop (2 * i) word))
  pub wrong : 16 ≤ greatest → decoded (decode_pairs 0 word) ≡ Err Hex

pub nothing_read : (out word : List ℕ) → Read 0 0 out word
nothing_read out word = record { right = λ lt. decode_start word out; wrong = λ le. absurd (omega (arith, le)) }

value_small : (c v : ℕ) → hex_digit_value c ≡ Some v → v < 16
value_small c v h = grind (arith)

digit_is : (o : Option ℕ) (v : ℕ) → v ≡ unwrap_or o 255 → v < 16 → o ≡ Some v
digit_is (Some w) v is lt = ap Some (sym is)
digit_is None v is lt = absurd (omega (arith, is, lt))

no_digit : (c v : ℕ) → v ≡ unwrap_or (hex_digit_value c) 255 → 16 ≤ v → hex_digit_value c ≡ None
no_digit c v is le = go (hex_digit_value c) refl is
  where
    go : (o : Option ℕ) → hex_digit_value c ≡ o → v ≡ unwrap_or o 255 → o ≡ None
    go (Some w) at e = absurd (omega (arith, value_small c w at, e, le))
    go None at e = refl

pair_is : (a b h l i : ℕ) → hex_digit_value a ≡ Some h → hex_digit_value b ≡ Some l → pair_value a b i ≡ Ok (h * 16 + l)
pair_is a b h l i ha hb =
    let first : value_at a i ≡ Ok h = ap (digit_or_error a i) ha in
    let second : value_at b (i + 1) ≡ Ok l = ap (digit_or_error b (i + 1)) hb in
    rw (first, second) refl

first_bad : (a b i : ℕ) → hex_digit_value a ≡ None → pair_value a b i ≡ Err (InvalidHexCharacter a i)
first_bad a b i ha =
    let first : value_at a i ≡ Err (InvalidHexCharacter a i) = ap (digit_or_error a i) ha in
    rw first refl

second_bad : (a b h i : ℕ) → hex_digit_value a ≡ Some h → hex_digit_value b ≡ None → pair_value a b i ≡ Err (InvalidHexCharacter b (i + 1))
second_bad a b h i ha hb =
    let first : value_at a i ≡ Ok h = ap (digit_or_error a i) ha in
    let second : value_at b (i + 1) ≡ Err (InvalidHexCharacter b (i + 1)) = ap (digit_or_error b (i + 1)) hb in
    rw (first, second) refl

refused_for : (r : Result (List ℕ) FromHexError) (e : FromHexError) → r ≡ Err e → decoded r ≡ Err Hex
refused_for r e h = ap decoded h

-- one pair more
module _ (word out : List ℕ) (i high low greatest : ℕ) (inside : 2 * i + 1 < length word) (room : i < length out)
    (first : high ≡ unwrap_or (hex_digit_value (slice_index word (2 * i))) 255)
    (second : low ≡ unwrap_or (hex_digit_value (slice_index word (2 * i + 1))) 255) (so : Read greatest i out word) where
  both_right : (byte : ℕ) → byte ≡ high * 16 + low → greatest < 16 → high < 16 → low < 16
      → decode_pairs 0 word ≡ prepend (take (i + 1) (slice_set out i byte)) (decode_pairs (2 * (i + 1)) (drop (2 * (i + 1)) word))
  both_right byte is g h l =
      rw is
      (decode_step word out i (high * 16 + low) inside room
      (pair_is (slice_index word (2 * i)) (slice_index word (2 * i + 1)) high low (2 * i)
      (digit_is (hex_digit_value (slice_index word (2 * i))) high first h) (digit_is (hex_digit_value (slice_index word (2 * i + 1))) low second l))
      (so.right g))

  second_wrong : greatest < 16 → high < 16 → 16 ≤ low → decoded (decode_pairs 0 word) ≡ Err Hex
  second_wrong g h l =
      refused_for (decode_pairs 0 word) _
      (decode_err word out i _ inside
      (second_bad (slice_index word (2 * i)) (slice_index word (2 * i + 1)) high (2 * i)
      (digit_is (hex_digit_value (slice_index word (2 * i))) high first h) (no_digit (slice_index word (2 * i + 1)) low second l)) (so.right g))

  first_wrong : greatest < 16 → 16 ≤ high → decoded (decode_pairs 0 word) ≡ Err Hex
  first_wrong g h =
      refused_for (decode_pairs 0 word) _
      (decode_err word out i _ inside
      (first_bad (slice_index word (2 * i)) (slice_index word (2 * i + 1)) (2 * i) (no_digit (slice_index word (2 * i)) high first h)) (so.right g))

  some_wrong : 16 ≤ max greatest (max high low) → decoded (decode_pairs 0 word) ≡ Err Hex
  some_wrong le = elim (cases_lt greatest 16) [
    | inl g ↦ elim (cases_lt high 16) [ inl h ↦ second_wrong g h (omega (arith, le, g, h)) | inr h ↦ first_wrong g h ]
    | inr g ↦ so.wrong g
  ]

  pub pair_read : (byte : ℕ) → (high < 16 → low < 16 → byte ≡ high * 16 + low) → Read (max greatest (max high low)) (i + 1) (slice_set out i byte) word
  pair_read byte is = record {
    right = λ lt. both_right byte (is (omega (arith, lt)) (omega (arith, lt))) (omega (arith, lt)) (omega (arith, lt)) (omega (arith, lt));
    wrong = some_wrong;
  }

-- all pairs
pub all_read : (word out : List ℕ) (i greatest : ℕ) (ok : Bool) → length word ≡ 2 * length out → length out ≤ i → Read greatest i out word → nat_lt greatest 16 ≡ ok
    → word_bytes word ≡ (if ok then Ok out else Err Hex)
all_read word out i greatest true long end so is =
    ap decoded (decode_of-even word (omega (arith, long)) ∙ decode_done word out i end (omega (arith, long, end)) (so.right (grind (arith, nat_tests))))
all_read word out i greatest false long end so is =
    ap decoded (decode_of-even word (omega (arith, long))) ∙ so.wrong (grind (arith, nat_tests))
