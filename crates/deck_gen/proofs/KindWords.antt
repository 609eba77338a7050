-- The programs of each kind are programs, and their words are words of a deck.
use Rattle.std.proofs.Common.{◌<◌, ℕ, zero, suc, List, [], ◌∷◌, ◌++◌, refl, arith}
use Rattle.std.specs.Int.{byte_at, bytes_high_first, w64, to_be_bytes}
use Rattle.hex.specs.Hex.{IsBytes}
use Rattle.ckd_types.specs.Commands.{command_of}
use Rattle.ckd_types.specs.Program.{IsProgram}
use Rattle.deck_text.proofs.CcwAgain.{CcwFacts}
use Rattle.deck_text.proofs.DeckAgain.{Each}
use Rattle.deck_gen.specs.declared.choice.Kind.{Kind}
use Rattle.deck_gen.specs.declared.choice.Kind.TheVariants.{Format, Update, Read, ReadTracks}
use Rattle.deck_gen.specs.Programs.{place_bytes, extent_word, locate_word, format_word, update_word, read_word, program_of}

pub is_program : (k : Kind) (t x : ℕ) → IsProgram (program_of k t x)
unfolding command_of
is_program Format t x = refl
is_program Update t x = refl
is_program Read t x = refl
is_program ReadTracks t x = refl

no_bytes : IsBytes []
no_bytes i = omega arith

with_byte : (b : ℕ) (bytes : List ℕ) → b < 256 → IsBytes bytes → IsBytes (b ∷ bytes)
with_byte b bytes h rest zero = h
with_byte b bytes h rest (suc i) = rest i

joined_bytes : (xs ys : List ℕ) → IsBytes xs → IsBytes ys → IsBytes (xs ++ ys)
joined_bytes [] ys hx hy i = hy i
joined_bytes (x ∷ xs) ys hx hy zero = hx 0
joined_bytes (x ∷ xs) ys hx hy (suc i) = joined_bytes xs ys (λ k. hx (suc k)) hy i

byte_small : (k n : ℕ) → byte_at k n < 256
byte_small zero n = omega arith
byte_small (suc k) n = omega arith

number_bytes : (k n : ℕ) → IsBytes (bytes_high_first k n)
number_bytes zero n = no_bytes
number_bytes (suc k) n = with_byte (byte_at k n) (bytes_high_first k n) (byte_small k n) (number_bytes k n)

four_bytes : (a b c d : ℕ) → a < 256 → b < 256 → c < 256 → d < 256 → IsBytes (a ∷ b ∷ c ∷ d ∷ [])
four_bytes a b c d ha hb hc hd = with_byte a (b ∷ c ∷ d ∷ []) ha (with_byte b (c ∷ d ∷ []) hb (with_byte c (d ∷ []) hc (with_byte d [] hd no_bytes)))

place_is : (t : ℕ) → IsBytes (place_bytes t)
place_is t = four_bytes _ _ _ _ (omega arith) (omega arith) (omega arith) (omega arith)

extent_facts : (mask attributes : ℕ) → mask < 256 → attributes < 256 → CcwFacts (extent_word mask attributes)
extent_facts mask attributes m a = record {
  command = omega arith;
  flags = omega arith;
  count = omega arith;
  given =
      joined_bytes (mask ∷ attributes ∷ 0x10 ∷ 0 ∷ []) (0 ∷ 0 ∷ 0 ∷ 0 ∷ 0 ∷ 0 ∷ 0 ∷ 0 ∷ 0 ∷ 1 ∷ 0 ∷ 0x0e ∷ [])
      (four_bytes mask attributes 0x10 0 m a (omega arith) (omega arith))
      (joined_bytes (0 ∷ 0 ∷ 0 ∷ 0 ∷ []) (0 ∷ 0 ∷ 0 ∷ 0 ∷ 0 ∷ 1 ∷ 0 ∷ 0x0e ∷ []) (four_bytes 0 0 0 0 (omega arith) (omega arith) (omega arith) (omega arith))
      (joined_bytes (0 ∷ 0 ∷ 0 ∷ 0 ∷ []) (0 ∷ 1 ∷ 0 ∷ 0x0e ∷ [])
      (four_bytes 0 0 0 0 (omega arith) (omega arith) (omega arith) (omega arith))
      (four_bytes 0 1 0 0x0e (omega arith) (omega arith) (omega arith) (omega arith))));
}

locate_facts : (operation count t r : ℕ) → operation < 256 → count < 256 → r < 256 → CcwFacts (locate_word operation count t r)
locate_facts operation count t r o c s = record {
  command = omega arith;
  flags = omega arith;
  count = omega arith;
  given =
      joined_bytes (operation ∷ 0 ∷ 0 ∷ count ∷ []) (place_bytes t ++ place_bytes t ++ (r ∷ 0 ∷ 0 ∷ 0 ∷ []))
      (four_bytes operation 0 0 count o (omega arith) (omega arith) c)
      (joined_bytes (place_bytes t) (place_bytes t ++ (r ∷ 0 ∷ 0 ∷ 0 ∷ [])) (place_is t)
      (joined_bytes (place_bytes t) (r ∷ 0 ∷ 0 ∷ 0 ∷ []) (place_is t) (four_bytes r 0 0 0 s (omega arith) (omega arith) (omega arith))));
}

format_facts : (flags t r x : ℕ) → flags < 256 → r < 256 → CcwFacts (format_word flags t r x)
format_facts flags t r x f s = record {
  command = omega arith;
  flags = f;
  count = omega arith;
  given =
      joined_bytes (place_bytes t) ((r ∷ 0 ∷ 0x10 ∷ 0 ∷ []) ++ to_be_bytes w64 x) (place_is t)
      (joined_bytes (r ∷ 0 ∷ 0x10 ∷ 0 ∷ []) (to_be_bytes w64 x) (four_bytes r 0 0x10 0 s (omega arith) (omega arith) (omega arith)) (number_bytes 8 x));
}

update_facts : (x : ℕ) → CcwFacts (update_word x)
update_facts x = record { command = omega arith; flags = omega arith; count = omega arith; given = number_bytes 8 x }

read_facts : (command flags count : ℕ) → command < 256 → flags < 256 → count < 65536 → CcwFacts (read_word command flags count)
read_facts command flags count c f n = record { command = c; flags = f; count = n; given = no_bytes }

pub words_facts : (k : Kind) (t x : ℕ) → Each CcwFacts (program_of k t x)
words_facts Format t x = (
  extent_facts 0xc0 0xc0 (omega arith) (omega arith),
  (
    locate_facts 0x03 4 t 0 (omega arith) (omega arith) (omega arith),
    (
      format_facts 0x40 t 1 x (omega arith) (omega arith),
      (
        format_facts 0x40 t 2 x (omega arith) (omega arith),
        (
          format_facts 0x40 t 3 x (omega arith) (omega arith),
          (
            format_facts 0x00 t 4 x (omega arith)
                (omega arith),
            tt,
          ),
        ),
      ),
    ),
  ),
)
words_facts Update t x = (
  extent_facts 0x80 0xc0 (omega arith) (omega arith),
  (locate_facts 0x01 1 t 1 (omega arith) (omega arith) (omega arith), (update_facts x, tt)),
)
words_facts Read t x = (
  extent_facts 0x40 0xc0 (omega arith) (omega arith),
  (
    locate_facts 0x06 2 t 1 (omega arith) (omega arith) (omega arith),
    (
      read_facts 0x86 0x60 4096 (omega arith) (omega arith) (omega arith),
      (read_facts 0x86 0x20 4096 (omega arith) (omega arith) (omega arith), tt),
    ),
  ),
)
words_facts ReadTracks t x = (
  extent_facts 0x40 0xcc (omega arith) (omega arith),
  (
    locate_facts 0x0c 2 t 0 (omega arith) (omega arith) (omega arith),
    (
      read_facts 0xde 0x60 65535 (omega arith) (omega arith) (omega arith),
      (read_facts 0xde 0x20 65535 (omega arith) (omega arith) (omega arith), tt),
    ),
  ),
)
