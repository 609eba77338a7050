-- What the words behind the first one say, for each line up to the events.
use Rattle.std.specs.Prelude.{ℕ, ◌==◌, nat_lt, Bool, true, false, List, [], ◌∷◌, ◌++◌, codes, slice_index, Option, Some, None, Result, Ok, Err, if◌then◌else◌}
use Rattle.std.specs.Str.{bytes_eq}
use Rattle.std.specs.List.{list_all, list_any}
use Rattle.hex.specs.Hex.{decode_of, decode_sized}
use Rattle.hex.specs.declared.error.FromHexError.{FromHexError}
use Rattle.ckd_types.specs.declared.channel.Ccw.{Ccw}
use Rattle.ckd_types.specs.declared.paths.Side.{Side}
use Rattle.ckd_types.specs.declared.paths.Side.TheVariants.{A, B}
use Rattle.deck_text.specs.declared.line.DeckWhy.{DeckWhy}
use Rattle.deck_text.specs.declared.line.DeckWhy.TheVariants.{Words, Number, Hex}
use Rattle.deck_text.specs.declared.line.DeviceLine.{DeviceLine}
use Rattle.deck_text.specs.declared.line.FaultLine.{FaultLine}
use Rattle.deck_text.specs.Numbers.{number_in, geometry_of}
use Rattle.deck_text.specs.Words.{one_word, two_words, three_words}

-- what is there, or the reason
abbrev pub needed : {T : Type 0} → DeckWhy → Option T → Result T DeckWhy
needed why None = Err why
needed why (Some x) = Ok x

abbrev pub then_read : {S T : Type 0} → Result S DeckWhy → (S → Result T DeckWhy) → Result T DeckWhy
then_read (Err why) go = Err why
then_read (Ok x) go = go x

abbrev pub no_words : List (List ℕ) → Result (Unit {0}) DeckWhy
no_words [] = Ok tt
no_words (word ∷ words) = Err Words

-- DECK 1
unfoldable pub is_one : List ℕ → Bool
is_one word = bytes_eq word (codes "1")

abbrev pub deck_line : List (List ℕ) → Result (Unit {0}) DeckWhy
deck_line words = then_read (needed Words (one_word words)) (λ w. if is_one w then Ok tt else Err Words)

-- CACHE n and STORE n
abbrev pub count_line : ℕ → ℕ → List (List ℕ) → Result ℕ DeckWhy
count_line least most words = then_read (needed Words (one_word words)) (λ w. needed Number (number_in least most w))

-- DEVICE d g c, behind these lines, whose numbers are all less
abbrev pub rises : List DeviceLine → ℕ → Bool
rises devices d = list_all (λ line. nat_lt line.number d) devices

abbrev pub rising : List DeviceLine → DeviceLine → Result DeviceLine DeckWhy
rising devices line = if rises devices line.number then Ok line else Err Number

abbrev pub device_line : List DeviceLine → List (List ℕ) → Result DeviceLine DeckWhy
device_line devices words =
    then_read (needed Words (three_words words)) (λ w.
    then_read (needed Number (number_in 0 15 w.0)) (λ d.
    then_read (needed Number (geometry_of w.1)) (λ g.
    then_read (needed Number (number_in 1 64 w.2)) (λ c. rising devices (record { number = d; geometry = g; cylinders = c })))))

-- a declared device
abbrev pub is_declared : List DeviceLine → ℕ → Bool
is_declared devices d = list_any (λ line. line.number == d) devices

abbrev pub declared : List DeviceLine → ℕ → Result ℕ DeckWhy
declared devices d = if is_declared devices d then Ok d else Err Number

abbrev pub device_of : List DeviceLine → List ℕ → Result ℕ DeckWhy
device_of devices word = then_read (needed Number (number_in 0 15 word)) (declared devices)

abbrev pub path_of : List ℕ → Result ℕ DeckWhy
path_of word = needed Number (number_in 1 4 word)

-- READ, or WRITE
unfoldable pub is_write_word : List ℕ → Option Bool
is_write_word word = if bytes_eq word (codes "READ") then Some false else if bytes_eq word (codes "WRITE") then Some true else None

unfoldable pub side_by_word : List ℕ → Option Side
side_by_word word = if bytes_eq word (codes "A") then Some A else if bytes_eq word (codes "B") then Some B else None

-- FAULT d READ n, or WRITE
abbrev pub fault_line : List DeviceLine → List (List ℕ) → Result FaultLine DeckWhy
fault_line devices words =
    then_read (needed Words (three_words words)) (λ w.
    then_read (needed Words (is_write_word w.1)) (λ write.
    then_read (device_of devices w.0) (λ d.
    then_read (needed Number (number_in 1 4294967295 w.2)) (λ n. Ok (record { device = d; write = write; call = n })))))

-- a path and a device
abbrev pub path_and_device : List DeviceLine → List (List ℕ) → Result (ℕ × ℕ) DeckWhy
path_and_device devices words =
    then_read (needed Words (two_words words)) (λ w.
    then_read (path_of w.0) (λ p. then_read (device_of devices w.1) (λ d. Ok (p, d))))

-- two hex digits of either case
abbrev pub first_byte : Result (List ℕ) FromHexError → Option ℕ
first_byte (Ok bytes) = Some (slice_index bytes 0)
first_byte (Err e) = None

abbrev pub byte_of : List ℕ → Option ℕ
byte_of word = first_byte (decode_sized word 1)

-- whole bytes
abbrev pub decoded : Result (List ℕ) FromHexError → Result (List ℕ) DeckWhy
decoded (Ok bytes) = Ok bytes
decoded (Err e) = Err Hex

abbrev pub word_bytes : List ℕ → Result (List ℕ) DeckWhy
word_bytes word = decoded (decode_of word)

-- the bytes of words of digits, behind others
abbrev pub bytes_of : List ℕ → List (List ℕ) → Result (List ℕ) DeckWhy
bytes_of sofar [] = Ok sofar
bytes_of sofar (word ∷ words) = then_read (word_bytes word) (λ bytes. bytes_of (sofar ++ bytes) words)

-- the command, the flags and the count: the count is looked at before any digits
abbrev pub program_head : List ℕ → List ℕ → List ℕ → Result (ℕ × ℕ × ℕ) DeckWhy
program_head code flags count =
    then_read (needed Number (number_in 0 65535 count)) (λ n.
    then_read (needed Hex (byte_of code)) (λ c. then_read (needed Hex (byte_of flags)) (λ f. Ok (c, f, n))))

-- CCW cc ff n and its bytes
abbrev pub ccw_line : List (List ℕ) → Result Ccw DeckWhy
ccw_line [] = Err Words
ccw_line (code ∷ []) = Err Words
ccw_line (code ∷ flags ∷ []) = Err Words
ccw_line (code ∷ flags ∷ count ∷ bytes) =
    then_read (program_head code flags count) (λ h.
    then_read (bytes_of [] bytes) (λ given. Ok (record { command = h.0; flags = h.1; count = h.2; given = given })))
