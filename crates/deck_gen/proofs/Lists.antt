-- A deck that is made program by program.
use Rattle.std.proofs.Common.{[], ◌≡◌, ◌<◌, ◌≤◌, ◌+◌, ◌-◌, ◌*◌, ℕ, suc, List, ◌∷◌, ◌++◌, length, refl, ◌∙◌, arith, append_assoc, length-append}
use Rattle.std.specs.Prelude.{◌==◌, ◌%◌, Bool, true, false, if◌then◌else◌}
use Rattle.deck_plan.specs.declared.event.EventLine.{EventLine}
use Rattle.deck_plan.specs.declared.event.EventLine.TheVariants.{Settle, Pair, Back}
use Rattle.deck_text.specs.DeckLines.{DeckLines}
use Rattle.deck_gen.specs.declared.choice.Choice.{Choice}
use Rattle.deck_gen.specs.Choices.{choices, choice_behind}
use Rattle.deck_gen.specs.Generated.{device_line, planned, programs_from, lines_of, events_from}

one_more : (left count x : ℕ) → left ≡ suc count → choices left x ≡ choice_behind x ∷ choices count (choice_behind x).last
one_more left count x e = rw e refl

-- the choices that are left, where one is made
choices_left : (n count x : ℕ) → n < count → choices (count - n) x ≡ choice_behind x ∷ choices (count - (n + 1)) (choice_behind x).last
choices_left n count x h = one_more (count - n) (count - (n + 1)) x (omega arith)

abbrev pub first_events : List EventLine
first_events = Pair 0 1 ∷ Settle 0 ∷ []

-- the deck of a seed and a count, where n of its programs are made and x was drawn last
pub record IsMade (seed count n x : ℕ) (deck : DeckLines) : Type 0 where
  pub within : n ≤ count
  pub frames : deck.frames ≡ 64
  pub slots : deck.slots ≡ 16
  pub devices : deck.devices ≡ device_line 0 ∷ device_line 1 ∷ device_line 2 ∷ []
  pub faults : deck.faults ≡ []
  pub programs : deck.programs ++ programs_from (n + 1) (choices (count - n) x) ≡ programs_from 1 (choices count seed)
  pub events : deck.events ++ events_from (n + 1) (choices (count - n) x) ≡ first_events ++ events_from 1 (choices count seed)
  pub program_count : length deck.programs ≡ n
  pub event_count : length deck.events ≤ 2 + 3 * n

third_few : (d : ℕ) (third : Bool) → length (if third then Back d ∷ [] else []) ≤ 1
third_few d true = omega arith
third_few d false = omega arith

pub few_lines : (i : ℕ) (c : Choice) → length (lines_of i c) ≤ 3
few_lines i c = omega (arith, third_few c.device (i % 3 == 0))

pub one_made : (seed count n x : ℕ) (deck : DeckLines) → n < count → IsMade seed count n x deck
    → IsMade seed count (n + 1) (choice_behind x).last (record deck {
      programs = deck.programs
          ++ planned (n + 1) (choice_behind x) ∷ [];
      events = deck.events ++ lines_of (n + 1) (choice_behind x);
    })
one_made seed count n x deck h made =
    let c = choice_behind x in
    let left = choices_left n count x h in
    let rest = choices (count - (n + 1)) c.last in
    record {
      within = omega arith;
      frames = made.frames;
      slots = made.slots;
      devices = made.devices;
      faults = made.faults;
      programs = append_assoc deck.programs (planned (n + 1) c ∷ []) (programs_from (n + 1 + 1) rest) ∙ (rw left at made.programs);
      events = append_assoc deck.events (lines_of (n + 1) c) (events_from (n + 1 + 1) rest) ∙ (rw left at made.events);
      program_count = omega (arith, length-append deck.programs (planned (n + 1) c ∷ []), made.program_count);
      event_count = omega (arith, length-append deck.events (lines_of (n + 1) c), few_lines (n + 1) c, made.event_count);
    }
