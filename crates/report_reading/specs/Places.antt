-- What stands at a place of a line: its words are cut at each space, and counted from 0.
use Rattle.std.specs.Prelude.{ℕ, ◌==◌, Bool, true, false, List, [], Option, Some, None, Result, Ok, Err, slice_get, slice_index, if◌then◌else◌}
use Rattle.std.specs.List.{slice_split}
use Rattle.std.specs.Str.{bytes_eq}
use Rattle.hex.specs.Hex.{decode_of, decode_sized}
use Rattle.hex.specs.declared.error.FromHexError.{FromHexError}
use Rattle.ckd_types.specs.declared.channel.Note.{Note}
use Rattle.ckd_types.specs.declared.channel.Note.TheVariants.{Plain, IncorrectLength, Limit}
use Rattle.ckd_types.specs.declared.paths.Side.{Side}
use Rattle.ckd_types.specs.declared.paths.Side.TheVariants.{A, B}
use Rattle.report_reading.specs.declared.fault.LineFault.{LineFault}
use Rattle.report_reading.specs.declared.fault.LineFault.TheVariants.{Words, Word, Number, Digits}
use Rattle.report_text.specs.declared.keyword.Keyword.{Keyword}
use Rattle.report_text.specs.declared.keyword.Keyword.TheVariants as words
use Rattle.report_text.specs.Keywords.{keyword_text}
use Rattle.report_text.specs.Numbers.{number_in}

infixl 10 ◌>>=◌
abbrev pub ◌>>=◌ : {S T : Type 0} → Result S LineFault → (S → Result T LineFault) → Result T LineFault
(Ok x) >>= go = go x
(Err fault) >>= go = Err fault

-- what is there, or the fault
abbrev pub needed : {T : Type 0} → LineFault → Option T → Result T LineFault
needed fault None = Err fault
needed fault (Some x) = Ok x

unfoldable pub cut_words : List ℕ → List (List ℕ)
cut_words text = slice_split (λ b. b == 32) text

-- the words behind a space, if there is one
abbrev pub words_left : Option (List ℕ) → List (List ℕ)
words_left None = []
words_left (Some text) = cut_words text

abbrev pub word_at : List (List ℕ) → ℕ → Result (List ℕ) LineFault
word_at ws i = needed Words (slice_get ws i)

-- a word is this keyword, letter by letter
unfoldable pub is_key : List ℕ → Keyword → Bool
is_key word key = bytes_eq word (keyword_text key)

abbrev pub number_at : ℕ → ℕ → List (List ℕ) → ℕ → Result ℕ LineFault
number_at least most ws i = word_at ws i >>= (λ w. needed Number (number_in least most w))

abbrev pub path_at : List (List ℕ) → ℕ → Result ℕ LineFault
path_at ws i = number_at 1 4 ws i

abbrev pub device_at : List (List ℕ) → ℕ → Result ℕ LineFault
device_at ws i = number_at 0 15 ws i

abbrev pub track_at : List (List ℕ) → ℕ → Result ℕ LineFault
track_at ws i = number_at 0 959 ws i

-- numbers of 16, 32 and 64 bits
abbrev pub short_at : List (List ℕ) → ℕ → Result ℕ LineFault
short_at ws i = number_at 0 65535 ws i

abbrev pub count_at : List (List ℕ) → ℕ → Result ℕ LineFault
count_at ws i = number_at 0 4294967295 ws i

abbrev pub long_at : List (List ℕ) → ℕ → Result ℕ LineFault
long_at ws i = number_at 0 18446744073709551615 ws i

abbrev pub decoded : Result (List ℕ) FromHexError → Result (List ℕ) LineFault
decoded (Ok bytes) = Ok bytes
decoded (Err e) = Err Digits

-- so many bytes in digits, and any number of them
abbrev pub sized_at : ℕ → List (List ℕ) → ℕ → Result (List ℕ) LineFault
sized_at n ws i = word_at ws i >>= (λ w. decoded (decode_sized w n))

abbrev pub bytes_at : List (List ℕ) → ℕ → Result (List ℕ) LineFault
bytes_at ws i = word_at ws i >>= (λ w. decoded (decode_of w))

abbrev pub byte_at : List (List ℕ) → ℕ → Result ℕ LineFault
byte_at ws i = sized_at 1 ws i >>= (λ bytes. Ok (slice_index bytes 0))

abbrev pub side_of : List ℕ → Option Side
side_of w = if is_key w words.SideA then Some A else if is_key w words.SideB then Some B else None

abbrev pub side_at : List (List ℕ) → ℕ → Result Side LineFault
side_at ws i = word_at ws i >>= (λ w. needed Word (side_of w))

abbrev pub note_of : List ℕ → Option Note
note_of w =
    if is_key w words.Plain then Some Plain
    else if is_key w words.Incorrect then Some IncorrectLength
    else if is_key w words.Limit then Some Limit
    else None

abbrev pub note_at : List (List ℕ) → ℕ → Result Note LineFault
note_at ws i = word_at ws i >>= (λ w. needed Word (note_of w))

-- whether a frame is modified
abbrev pub mark_of : List ℕ → Option Bool
mark_of w = if is_key w words.Modified then Some true else if is_key w words.Clean then Some false else None

abbrev pub mark_at : List (List ℕ) → ℕ → Result Bool LineFault
mark_at ws i = word_at ws i >>= (λ w. needed Word (mark_of w))

-- exactly this keyword
abbrev pub key_at : Keyword → List (List ℕ) → ℕ → Result (Unit {0}) LineFault
key_at key ws i = word_at ws i >>= (λ w. if is_key w key then Ok tt else Err Word)
