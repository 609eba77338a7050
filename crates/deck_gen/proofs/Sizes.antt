-- The text of each generated deck isn't too long.
use Rattle.std.proofs.Common.{◌≡◌, ◌<◌, ◌≤◌, ◌+◌, ◌*◌, ℕ, zero, suc, List, [], ◌∷◌, ◌++◌, length, Bool, true, false, arith, length-append}
use Rattle.std.specs.Prelude.{◌==◌, ◌%◌, decimal, codes, if◌then◌else◌}
use Rattle.std.specs.List.{flat_map}
use Rattle.std.proofs.lemmas.Fmt.{length-decimal-le}
use Rattle.hex.specs.Hex.{encode_upper, upper_digits}
use Rattle.hex.proofs.HexLemmas.{length-encode_with}
use Rattle.ckd_types.specs.declared.channel.Ccw.{Ccw}
use Rattle.deck_plan.specs.declared.event.EventLine.{EventLine}
use Rattle.deck_plan.specs.declared.event.EventLine.TheVariants.{Back, Settle, Pair}
use Rattle.deck_text.specs.Canonical.{
  head_text,
  device_text,
  program_text,
  word_text,
  line_end,
  bytes_text,
  ccw_text,
  end_text,
  planned_text,
  events_text,
  with_one,
  with_two,
  event_text,
  canonical,
}
use Rattle.deck_text.proofs.DeckAgain.{Each}
use Rattle.deck_gen.specs.declared.choice.Kind.{Kind}
use Rattle.deck_gen.specs.declared.choice.Kind.TheVariants.{Format, Update, Read, ReadTracks}
use Rattle.deck_gen.specs.declared.choice.Choice.{Choice}
use Rattle.deck_gen.specs.Choices.{choices, choice_behind}
use Rattle.deck_gen.specs.Programs.{program_of}
use Rattle.deck_gen.specs.Generated.{device_line, path_of, planned, programs_from, lines_of, events_from, deck_of_seed}
use Rattle.deck_gen.proofs.Good.{path_most, device_declared, three}

digit_size : (n : ℕ) → n < 10 → length (decimal n) ≤ 1
digit_size n h = length-decimal-le 1 n (omega arith) (omega arith) (omega arith)

pub record IsSmall (c : Ccw) : Type 0 where
  pub count : c.count < 65536
  pub given : length c.given ≤ 16

bytes_size : (bytes : List ℕ) → length bytes ≤ 16 → length (bytes_text bytes) ≤ 33
bytes_size [] h = omega arith
bytes_size (b ∷ bytes) h = omega (arith, length-encode_with upper_digits (b ∷ bytes))

-- CCW, two digits, two digits, and the count
word_size : (c : Ccw) → c.count < 65536 → length (word_text c) ≤ 15
unfolding word_text
word_size c h =
    let n = length-decimal-le 5 c.count (omega arith) (omega arith) (omega arith) in
    let one = length-encode_with upper_digits (c.command ∷ []) in
    let two = length-encode_with upper_digits (c.flags ∷ []) in
    let d = decimal c.count in
    let f = encode_upper (c.flags ∷ []) in
    omega (arith, n, one, two, length-append (encode_upper (c.command ∷ [])) (codes " " ++ (f ++ (codes " " ++ d))), length-append f (codes " " ++ d))

ccw_size : (c : Ccw) → IsSmall c → length (ccw_text c) ≤ 49
unfolding line_end
ccw_size c h = omega (
  arith,
  length-append (word_text c) (bytes_text c.given ++ line_end),
  length-append
      (bytes_text c.given) line_end,
  word_size c h.count,
  bytes_size c.given h.given,
)

words_size : (ccws : List Ccw) → Each IsSmall ccws → length (flat_map ccw_text ccws) ≤ 49 * length ccws
words_size [] h = omega arith
words_size (c ∷ ccws) h = omega (arith, length-append (ccw_text c) (flat_map ccw_text ccws), ccw_size c h.0, words_size ccws h.1)

all_small : (k : Kind) (t x : ℕ) → Each IsSmall (program_of k t x)
all_small Format t x = (
  record { count = omega arith; given = omega arith },
  (
    record { count = omega arith; given = omega arith },
    (
      record { count = omega arith; given = omega arith },
      (
        record { count = omega arith; given = omega arith },
        (
          record { count = omega arith; given = omega arith },
          (
            record {
              count = omega arith;
              given =
                  omega arith;
            },
            tt,
          ),
        ),
      ),
    ),
  ),
)
all_small Update t x = (
  record { count = omega arith; given = omega arith },
  (record { count = omega arith; given = omega arith }, (record { count = omega arith; given = omega arith }, tt)),
)
all_small Read t x = (
  record { count = omega arith; given = omega arith },
  (
    record { count = omega arith; given = omega arith },
    (
      record { count = omega arith; given = omega arith },
      (record { count = omega arith; given = omega arith }, tt),
    ),
  ),
)
all_small ReadTracks t x = (
  record { count = omega arith; given = omega arith },
  (
    record { count = omega arith; given = omega arith },
    (
      record { count = omega arith; given = omega arith },
      (record { count = omega arith; given = omega arith }, tt),
    ),
  ),
)

few_words : (k : Kind) (t x : ℕ) → length (program_of k t x) ≤ 6
few_words Format t x = omega arith
few_words Update t x = omega arith
few_words Read t x = omega arith
few_words ReadTracks t x = omega arith

line_size : (text : List ℕ) (a b : ℕ) → a < 10 → b < 10 → length (with_two text a b) ≤ length text + 4
unfolding with_two
line_size text a b ha hb =
    omega (
      arith,
      digit_size a ha,
      digit_size b hb,
      length-append text (decimal a
          ++ (codes " " ++ (decimal b ++ codes "\n"))),
      length-append (decimal a) (codes " "
          ++ (decimal b ++ codes "\n")),
      length-append (decimal b) (codes "\n"),
    )

short_size : (text : List ℕ) (a : ℕ) → a < 10 → length (with_one text a) ≤ length text + 2
unfolding with_one
short_size text a ha = omega (arith, digit_size a ha, length-append text (decimal a ++ codes "\n"), length-append (decimal a) (codes "\n"))

opening_size : (path device : ℕ) → path < 10 → device < 10 → length (program_text path device) ≤ 12
unfolding program_text
opening_size path device hp hd =
    omega (
      arith,
      digit_size path hp,
      digit_size device hd,
      length-append (decimal path) (codes " "
          ++ (decimal device ++ codes "\n")),
      length-append (decimal device) (codes "\n"),
    )

planned_size : (i : ℕ) (c : Choice) → c.device < 10 → length (planned_text (planned i c)) ≤ 320
unfolding end_text
planned_size i c h =
    let words = program_of c.kind c.track c.last in
    omega (
      arith,
      path_most i,
      opening_size (path_of i) c.device (omega (arith, path_most i)) h,
      length-append
          (program_text (path_of i) c.device) (flat_map ccw_text words ++ end_text),
      length-append
          (flat_map ccw_text words) end_text,
      words_size words (all_small c.kind c.track c.last),
      few_words c.kind
          c.track c.last,
    )

programs_size : (n i x : ℕ) → length (flat_map planned_text (programs_from i (choices n x))) ≤ 320 * n
programs_size zero i x = omega arith
programs_size (suc n) i x =
    let c = choice_behind x in
    omega (
      arith,
      planned_size i c (omega (arith, (device_declared x).small)),
      programs_size n
          (i + 1) c.last,
      length-append (planned_text (planned i c))
          (flat_map planned_text (programs_from (i + 1) (choices n c.last))),
    )

events_size_joined : (xs ys : List EventLine) → length (flat_map event_text (xs ++ ys)) ≡ length (flat_map event_text xs) + length (flat_map event_text ys)
events_size_joined [] ys = omega arith
events_size_joined (x ∷ xs) ys = omega (
  arith,
  length-append (event_text x)
      (flat_map event_text (xs ++ ys)),
  length-append (event_text x) (flat_map event_text xs),
  events_size_joined xs ys,
)

third_size : (d : ℕ) (third : Bool) → d < 10 → length (flat_map event_text (if third then Back d ∷ [] else [])) ≤ 8
unfolding event_text
third_size d true h = omega (arith, short_size (codes "BACK ") d h, length-append (with_one (codes "BACK ") d) [])
third_size d false h = omega arith

lines_size : (i : ℕ) (c : Choice) → c.device < 10 → length (flat_map event_text (lines_of i c)) ≤ 30
unfolding event_text
lines_size i c h =
    let d = c.device in
    let third = if i % 3 == 0 then Back d ∷ [] else [] in
    omega (
      arith,
      path_most i,
      line_size (codes "START ") (path_of i) d (omega (arith, path_most i)) h,
      short_size
          (codes "RUN ") d h,
      third_size d (i % 3 == 0) h,
      length-append (with_two (codes "START ") (path_of i) d)
          (with_one (codes "RUN ") d ++ flat_map event_text third),
      length-append (with_one (codes "RUN ") d)
          (flat_map event_text third),
    )

events_size : (n i x : ℕ) → length (flat_map event_text (events_from i (choices n x))) ≤ 30 * n
events_size zero i x = omega arith
events_size (suc n) i x =
    let c = choice_behind x in
    omega (
      arith,
      events_size_joined (lines_of i c) (events_from (i + 1) (choices n c.last)),
      lines_size i c
          (omega (arith, (device_declared x).small)),
      events_size n (i + 1) c.last,
    )

first_size : length (flat_map event_text (Pair 0 1 ∷ Settle 0 ∷ [])) ≤ 40
unfolding event_text
first_size = omega (
  arith,
  line_size (codes "PAIR ") 0 1 (omega arith) (omega arith),
  short_size (codes "SETTLE ") 0
      (omega arith),
  length-append (with_two (codes "PAIR ") 0 1) (with_one (codes "SETTLE ") 0 ++ []),
  length-append
      (with_one (codes "SETTLE ") 0) [],
)

last_size : length (flat_map event_text (Settle 0 ∷ Settle 2 ∷ [])) ≤ 40
unfolding event_text
last_size = omega (
  arith,
  short_size (codes "SETTLE ") 0 (omega arith),
  short_size (codes "SETTLE ") 2
      (omega arith),
  length-append (with_one (codes "SETTLE ") 0) (with_one (codes "SETTLE ") 2 ++ []),
  length-append
      (with_one (codes "SETTLE ") 2) [],
)

head_size : length (head_text 64 16) ≤ 60
unfolding head_text
head_size =
    omega (
      arith,
      length-decimal-le 2 64 (omega arith) (omega arith) (omega arith),
      length-decimal-le 2 16
          (omega arith) (omega arith) (omega arith),
      length-append (decimal 64) (codes "\nSTORE "
          ++ (decimal 16 ++ codes "\n")),
      length-append (decimal 16) (codes "\n"),
    )

device_size : (d : ℕ) → d < 10 → length (device_text (device_line d)) ≤ 40
unfolding device_text
device_size d h =
    omega (
      arith,
      digit_size d h,
      digit_size 2 (omega arith),
      length-decimal-le 4 3390 (omega arith) (omega arith)
          (omega arith),
      length-append (decimal d) (codes " " ++ (decimal 3390
          ++ (codes " " ++ (decimal 2 ++ codes "\n")))),
      length-append (decimal 3390) (codes " "
          ++ (decimal 2 ++ codes "\n")),
      length-append (decimal 2) (codes "\n"),
    )

devices_size : length (flat_map device_text three) ≤ 120
devices_size =
    omega (
      arith,
      device_size 0 (omega arith),
      device_size 1 (omega arith),
      device_size 2
          (omega arith),
      length-append (device_text (device_line 0)) (device_text (device_line 1)
          ++ (device_text (device_line 2) ++ [])),
      length-append (device_text (device_line 1))
          (device_text (device_line 2) ++ []),
      length-append (device_text (device_line 2)) [],
    )

pub is_short : (seed count : ℕ) → count ≤ 512 → length (canonical (deck_of_seed seed count)) ≤ 16777216
unfolding events_text
is_short seed count h =
    let programs = flat_map planned_text (programs_from 1 (choices count seed)) in
    let middle = events_from 1 (choices count seed) in
    let last = Settle 0 ∷ Settle 2 ∷ [] in
    let events = flat_map event_text ((Pair 0 1 ∷ Settle 0 ∷ []) ++ middle ++ last) in
    omega (
      arith,
      head_size,
      devices_size,
      first_size,
      last_size,
      programs_size count 1 seed,
      events_size count 1
          seed,
      events_size_joined (Pair 0 1 ∷ Settle 0 ∷ []) (middle
          ++ last),
      events_size_joined middle last,
      length-append (head_text 64 16) (flat_map device_text three
          ++ (programs ++ (events_text ++ events))),
      length-append (flat_map device_text three) (programs
          ++ (events_text ++ events)),
      length-append programs (events_text ++ events),
      length-append events_text events,
    )
