-- The words that a CCW line is written with say the word again, and numbers are words.
use Rattle.std.proofs.Common.{◌≡◌, ◌<◌, ◌^◌, ◌∷◌, [], ◌++◌, ℕ, zero, suc, List, true, length, Some, Result, Ok, Err, refl, sym, ap, ◌∙◌, arith}
use Rattle.std.specs.Prelude.{decimal, slice_index}
use Rattle.std.proofs.lemmas.Fmt.{decimal_nonempty, digits_decimal}
use Rattle.hex.specs.Hex.{encode_upper, decode_of, decode_sized, IsBytes}
use Rattle.hex.specs.declared.error.FromHexError.{FromHexError}
use Rattle.hex.proofs.HexLemmas.{decode_of-ok, decode_sized-ok, decode_sized-twice}
use Rattle.ckd_types.specs.declared.channel.Ccw.{Ccw}
use Rattle.deck_text.specs.declared.line.DeckWhy.TheVariants.{Number, Hex}
use Rattle.deck_text.specs.Numbers.{number_in}
use Rattle.deck_text.specs.Forms.{needed, then_read, byte_of, first_byte, decoded, word_bytes, bytes_of, program_head, ccw_line}
use Rattle.deck_text.proofs.ReadBack.{are_letters, digits_letters, own, byte_read, bytes_read, number_read}
use Rattle.deck_text.proofs.FormsAgain.{went, needed_is, if_ok, number_range}

pub record IsWord (w : List ℕ) : Type 0 where
  pub some : 0 < length w
  pub letters : are_letters w ≡ true

pub decimal_word : (n : ℕ) → n < 2 ^ 64 → IsWord (decimal n)
decimal_word n small = record { some = decimal_nonempty n small; letters = digits_letters (decimal n) (digits_decimal own n small) }

decoded_is : (r : Result (List ℕ) FromHexError) (bytes : List ℕ) → decoded r ≡ Ok bytes → r ≡ Ok bytes
decoded_is (Ok x) bytes h = cc
decoded_is (Err e) bytes h = absurd (cc)

word_bytes_are : (w bytes : List ℕ) → word_bytes w ≡ Ok bytes → IsBytes bytes
word_bytes_are w bytes h = (decode_of-ok w bytes (decoded_is (decode_of w) bytes h)).3

bytes_joined : (xs ys : List ℕ) → IsBytes xs → IsBytes ys → IsBytes (xs ++ ys)
bytes_joined [] ys hx hy i = hy i
bytes_joined (x ∷ xs) ys hx hy zero = hx 0
bytes_joined (x ∷ xs) ys hx hy (suc i) = bytes_joined xs ys (λ k. hx (suc k)) hy i

bytes_are : (sofar : List ℕ) (words : List (List ℕ)) (out : List ℕ) → IsBytes sofar → bytes_of sofar words ≡ Ok out → IsBytes out
bytes_are sofar [] out hs h = let e : sofar ≡ out = if_ok true sofar out Hex h in rw (← e) hs
bytes_are sofar (w ∷ words) out hs h =
    let a = went (word_bytes w) (λ bytes. bytes_of (sofar ++ bytes) words) out h in
    bytes_are (sofar ++ a.value) words out (bytes_joined sofar a.value hs (word_bytes_are w a.value a.first)) a.second

first_is : (r : Result (List ℕ) FromHexError) (b : ℕ) → first_byte r ≡ Some b → (bytes : List ℕ) × (r ≡ Ok bytes) × (slice_index bytes 0 ≡ b)
first_is (Ok bytes) b h = (bytes, refl, cc)
first_is (Err e) b h = absurd (cc)

pub byte_small : (w : List ℕ) (b : ℕ) → byte_of w ≡ Some b → b < 256
byte_small w b h =
    let f = first_is (decode_sized w 1) b h in
    let len = decode_sized-ok w 1 f.0 f.1 in
    let are = (decode_of-ok w f.0 (sym (decode_sized-twice w 1 len) ∙ f.1)).3 in
    rw (← f.2) (are 0)

-- the words of the bytes
unfoldable pub given_words : List ℕ → List (List ℕ)
given_words [] = []
given_words (b ∷ bytes) = encode_upper (b ∷ bytes) ∷ []

given_again : (bytes : List ℕ) → IsBytes bytes → bytes_of [] (given_words bytes) ≡ Ok bytes
unfolding given_words
given_again [] h = refl
given_again (b ∷ bytes) h = ap (λ r. then_read r (λ x. Ok x)) (bytes_read (b ∷ bytes) h)

unfoldable pub ccw_words : Ccw → List (List ℕ)
ccw_words c = encode_upper (c.command ∷ []) ∷ encode_upper (c.flags ∷ []) ∷ decimal c.count ∷ given_words c.given

pub record CcwFacts (c : Ccw) : Type 0 where
  pub command : c.command < 256
  pub flags : c.flags < 256
  pub count : c.count < 65536
  pub given : IsBytes c.given

pub ccw_facts : (words : List (List ℕ)) (c : Ccw) → ccw_line words ≡ Ok c → CcwFacts c
ccw_facts [] c h = absurd (cc)
ccw_facts (x ∷ []) c h = absurd (cc)
ccw_facts (x ∷ y ∷ []) c h = absurd (cc)
ccw_facts (x ∷ y ∷ z ∷ bytes) c h =
    let a = went (program_head x y z) (λ t. then_read (bytes_of [] bytes) (λ given. Ok (record { command = t.0; flags = t.1; count = t.2; given = given }))) c h in
    let b = went (bytes_of [] bytes) (λ given. Ok (record { command = a.value.0; flags = a.value.1; count = a.value.2; given = given })) c a.second in
    let same = if_ok true (record { command = a.value.0; flags = a.value.1; count = a.value.2; given = b.value }) c Hex b.second in
    let n = went (needed Number (number_in 0 65535 z)) (λ n. then_read (needed Hex (byte_of x)) (λ c. then_read (needed Hex (byte_of y)) (λ f. Ok (c, f, n))))
    a.value a.first in
    let p = went (needed Hex (byte_of x)) (λ c. then_read (needed Hex (byte_of y)) (λ f. Ok (c, f, n.value))) a.value n.second in
    let q = went (needed Hex (byte_of y)) (λ f. Ok (p.value, f, n.value)) a.value p.second in
    let head = if_ok true (p.value, q.value, n.value) a.value Hex q.second in
    let r = number_range 0 65535 z n.value (needed_is Number (number_in 0 65535 z) n.value n.first) in
    rw (← same)
    (record {
      command = rw (← head) (byte_small x p.value (needed_is Hex (byte_of x) p.value p.first));
      flags = rw (← head) (byte_small y q.value (needed_is Hex (byte_of y) q.value q.first));
      count = rw (← head) (omega (arith, r.high));
      given = bytes_are [] bytes b.value (λ i. omega arith) b.first;
    })

pub ccw_again : (c : Ccw) → CcwFacts c → ccw_line (ccw_words c) ≡ Ok c
unfolding ccw_words
ccw_again c f =
    let n : number_in 0 65535 (decimal c.count) ≡ Some c.count = number_read 0 65535 c.count (omega arith) (omega (arith, f.count)) (omega arith) in
    rw (n, byte_read c.command f.command, byte_read c.flags f.flags, given_again c.given f.given) refl
