-- Each generated deck keeps to what holds of each deck that a text is.
use Rattle.std.proofs.Common.{◌≡◌, ◌<◌, ◌≤◌, ◌+◌, ◌*◌, ℕ, zero, suc, List, [], ◌∷◌, ◌++◌, length, Bool, true, false, Some, Ok, refl, ap, arith, length-append}
use Rattle.std.specs.Prelude.{◌==◌, ◌%◌, decimal, if◌then◌else◌}
use Rattle.ckd_types.specs.declared.geometry.Geometry.TheVariants.{D3390}
use Rattle.deck_plan.specs.declared.event.EventLine.{EventLine}
use Rattle.deck_plan.specs.declared.event.EventLine.TheVariants.{Start, Run, Back, Settle, Pair}
use Rattle.deck_text.specs.declared.line.DeviceLine.{DeviceLine}
use Rattle.deck_text.specs.Numbers.{geometry_from, geometry_of}
use Rattle.deck_text.specs.Forms.{device_line as read_line, rises, is_declared, device_of, path_and_device}
use Rattle.deck_text.proofs.ReadBack.{number_read, decimal_read}
use Rattle.deck_text.proofs.EventsAgain.{behind_of, Again}
use Rattle.deck_text.proofs.Bounds.{line_are, path_words, event_are}
use Rattle.deck_text.proofs.DeckAgain.{Each, device_words, DeviceOk, ProgramOk, EventOk, IsDeck}
use Rattle.deck_gen.specs.Draws.{next_number, choice_of}
use Rattle.deck_gen.specs.declared.choice.Choice.{Choice}
use Rattle.deck_gen.specs.Choices.{choices, choice_behind}
use Rattle.deck_gen.specs.Generated.{device_line, path_of, planned, programs_from, lines_of, events_from, deck_of_seed}
use Rattle.deck_gen.proofs.Lists.{few_lines}
use Rattle.deck_gen.proofs.KindWords.{is_program, words_facts}

abbrev pub three : List DeviceLine
three = device_line 0 ∷ device_line 1 ∷ device_line 2 ∷ []

pub record Declared (d : ℕ) : Type 0 where
  pub small : d ≤ 2
  pub is : is_declared three d ≡ true

-- a device of the deck
device_again : (d : ℕ) → Declared d → device_of three (decimal d) ≡ Ok d
device_again d h = rw (number_read 0 15 d (omega arith) (omega (arith, h.small)) (omega arith), h.is) refl

place_again : (path d : ℕ) → 1 ≤ path → path ≤ 4 → Declared d → path_and_device three (decimal path ∷ decimal d ∷ []) ≡ Ok (path, d)
place_again path d least most h = rw (number_read 1 4 path least most (omega arith), device_again d h) refl

line_ok : (before : List DeviceLine) (d : ℕ) → d ≤ 2 → rises before d ≡ true → DeviceOk before (device_line d)
line_ok before d small rising =
    let geometry : geometry_of (decimal 3390) ≡ Some D3390 = ap geometry_from (decimal_read 3390 (omega arith)) in
    let again : read_line before (device_words (device_line d)) ≡ Ok (device_line d) =
    rw (number_read 0 15 d (omega arith) (omega arith) (omega arith), geometry, number_read 1 64 2 (omega arith) (omega arith) (omega arith), rising) refl in
    record { again = again; are = line_are before (device_words (device_line d)) (device_line d) again }

event_ok : (e : EventLine) → Again three e → EventOk three e
event_ok e again = record { again = again; are = event_are three e again }

start_ok : (path d : ℕ) → 1 ≤ path → path ≤ 4 → Declared d → EventOk three (Start path d)
unfolding behind_of
start_ok path d least most h = event_ok (Start path d) (rw (place_again path d least most h) refl)

run_ok : (d : ℕ) → Declared d → EventOk three (Run d)
unfolding behind_of
run_ok d h = event_ok (Run d) (rw (device_again d h) refl)

back_ok : (d : ℕ) → Declared d → EventOk three (Back d)
unfolding behind_of
back_ok d h = event_ok (Back d) (rw (device_again d h) refl)

settle_ok : (d : ℕ) → Declared d → EventOk three (Settle d)
unfolding behind_of
settle_ok d h = event_ok (Settle d) (rw (device_again d h) refl)

pair_ok : (a b : ℕ) → Declared a → Declared b → EventOk three (Pair a b)
unfolding behind_of
pair_ok a b ha hb = event_ok (Pair a b) (rw (device_again a ha, device_again b hb) refl)

-- the device of a choice is 0 or 2
two_cases : (n : ℕ) → n < 2 → Declared (2 * n)
two_cases zero h = record { small = omega arith; is = refl }
two_cases (suc zero) h = record { small = omega arith; is = refl }
two_cases (suc (suc n)) h = absurd (omega arith)

choice_small : (x : ℕ) → choice_of 2 x < 2
unfolding choice_of
choice_small x = omega arith

pub device_declared : (x : ℕ) → Declared (choice_behind x).device
device_declared x = two_cases (choice_of 2 (next_number x)) (choice_small (next_number x))

path_least : (i : ℕ) → 1 ≤ path_of i
path_least i = omega arith

pub path_most : (i : ℕ) → path_of i ≤ 4
path_most i = omega arith

program_ok : (i : ℕ) (c : Choice) → Declared c.device → ProgramOk three (planned i c)
program_ok i c h =
    let again = place_again (path_of i) c.device (path_least i) (path_most i) h in
    record {
      again = again;
      are = path_words three (decimal (path_of i) ∷ decimal c.device ∷ []) (path_of i, c.device) again;
      program = is_program c.kind c.track c.last;
      ccws = words_facts c.kind c.track c.last;
    }

programs_ok : (n i x : ℕ) → Each (ProgramOk three) (programs_from i (choices n x))
programs_ok zero i x = tt
programs_ok (suc n) i x = (program_ok i (choice_behind x) (device_declared x), programs_ok n (i + 1) (choice_behind x).last)

programs_count : (n i x : ℕ) → length (programs_from i (choices n x)) ≡ n
programs_count zero i x = refl
programs_count (suc n) i x = ap suc (programs_count n (i + 1) (choice_behind x).last)

each_joined : {X : Type 0} (P : X → Type 0) (xs ys : List X) → Each P xs → Each P ys → Each P (xs ++ ys)
each_joined P [] ys hx hy = hy
each_joined P (x ∷ xs) ys hx hy = (hx.0, each_joined P xs ys hx.1 hy)

third_ok : (d : ℕ) (third : Bool) → Declared d → Each (EventOk three) (if third then Back d ∷ [] else [])
third_ok d true h = (back_ok d h, tt)
third_ok d false h = tt

lines_ok : (i : ℕ) (c : Choice) → Declared c.device → Each (EventOk three) (lines_of i c)
lines_ok i c h = (start_ok (path_of i) c.device (path_least i) (path_most i) h, (run_ok c.device h, third_ok c.device (i % 3 == 0) h))

events_ok : (n i x : ℕ) → Each (EventOk three) (events_from i (choices n x))
events_ok zero i x = tt
events_ok (suc n) i x =
    each_joined (EventOk three) (lines_of i (choice_behind x)) (events_from (i + 1)
    (choices n (choice_behind x).last)) (lines_ok i (choice_behind x) (device_declared x))
    (events_ok n (i + 1) (choice_behind x).last)

pub events_count : (n i x : ℕ) → length (events_from i (choices n x)) ≤ 3 * n
events_count zero i x = omega arith
events_count (suc n) i x =
    let rest = events_from (i + 1) (choices n (choice_behind x).last) in
    omega (arith, length-append (lines_of i (choice_behind x)) rest, few_lines i (choice_behind x), events_count n (i + 1) (choice_behind x).last)

zero_is : Declared 0
zero_is = record { small = omega arith; is = refl }

one_is : Declared 1
one_is = record { small = omega arith; is = refl }

two_is : Declared 2
two_is = record { small = omega arith; is = refl }

all_events_ok : (n x : ℕ) → Each (EventOk three) (deck_of_seed x n).events
all_events_ok n x =
    let last : Each (EventOk three) (Settle 0 ∷ Settle 2 ∷ []) = (settle_ok 0 zero_is, (settle_ok 2 two_is, tt)) in
    let rest = each_joined (EventOk three) (events_from 1 (choices n x)) (Settle 0 ∷ Settle 2 ∷ []) (events_ok n 1 x) last in
    (pair_ok 0 1 zero_is one_is, (settle_ok 0 zero_is, rest))

all_events_count : (n x : ℕ) → n ≤ 512 → length (deck_of_seed x n).events ≤ 65536
all_events_count n x h = omega (arith, length-append (events_from 1 (choices n x)) (Settle 0 ∷ Settle 2 ∷ []), events_count n 1 x)

pub is_deck : (seed count : ℕ) → count ≤ 512 → IsDeck (deck_of_seed seed count)
is_deck seed count h = record {
  least = omega arith;
  frames = omega arith;
  slots = omega arith;
  some = omega arith;
  devices = (
    line_ok [] 0 (omega arith) refl,
    (
      line_ok (device_line 0 ∷ []) 1 (omega arith) refl,
      (line_ok (device_line 0 ∷ device_line 1 ∷ []) 2 (omega arith) refl, tt),
    ),
  );
  faults = tt;
  fault_count = omega arith;
  programs = programs_ok count 1 seed;
  program_count = omega (arith, programs_count count 1 seed);
  events = all_events_ok count seed;
  event_count = all_events_count count seed h;
}
