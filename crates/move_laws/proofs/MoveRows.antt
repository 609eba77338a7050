-- What the steps of small runs make by the rules of transfers, computed from the definitions alone.
use Rattle.std.proofs.Common.{◌≡◌, ℕ, false, List, [], ◌∷◌, ◌++◌, map, Option, Some, refl}
use Rattle.ckd_types.specs.declared.channel.Ccw.{Ccw}
use Rattle.ckd_types.specs.Commands.{command_of}
use Rattle.deck_plan.specs.declared.event.EventLine.TheVariants as lines
use Rattle.ckd_rules.specs.Walk.{walk}
use Rattle.track_table.specs.Tracks.{least, count_below}
use Rattle.plain_defs.specs.Program.{part_of}
use Rattle.device_outside.specs.Lists.{is_in, with_number, less_one}
use Rattle.device_outside.specs.Pool.{answer, after}
use Rattle.device_outside.specs.Volume.{counted}
use Rattle.device_outside.specs.Told.{hold}
use Rattle.device_defs.specs.Background.{work}
use Rattle.device_defs.specs.Choosing.{choose}
use Rattle.device_defs.specs.Command.{look, follow, command}
use Rattle.device_defs.specs.Cutting.{reset, power}
use Rattle.device_defs.specs.Editing.{through, write}
use Rattle.device_defs.specs.Events.{second, background, lose}
use Rattle.device_defs.specs.Image.{level_bytes, image}
use Rattle.device_defs.specs.Losses.{over, settled, side_lost, cache_lost, store_lost, all_firm_told}
use Rattle.device_defs.specs.Orders.{lend}
use Rattle.device_defs.specs.Owed.{waits, hear, all_told}
use Rattle.device_defs.specs.Second.{second_part}
use Rattle.device_defs.specs.Start.{start_fault, start}
use Rattle.device_defs.specs.Writing.{write_first, write_second, write_done}
use Rattle.device_defs.proofs.Stand.{read_zero}
use Rattle.subsystem_defs.specs.declared.event.Event.{Event}
use Rattle.subsystem_defs.specs.declared.event.Event.TheVariants as events
use Rattle.subsystem_defs.specs.Decks.{run_asked, run_asked_on}
use Rattle.subsystem_defs.specs.Deeds.{deed}
use Rattle.subsystem_defs.specs.Happening.{EventHappened, sweep, happens, replaced, unpaired}
use Rattle.subsystem_defs.specs.Lines.{Logged, steps, backs, line_logged, run_lines}
use Rattle.subsystem_defs.specs.Refusals.{pair_fault, unpair_fault, suspend_fault, resume_fault, fail_fault, replace_fault}
use Rattle.subsystem_defs.proofs.Runs.{
  cache_is_repaired,
  end_of_the_cylinder,
  fast_write_is_destaged,
  one_frame,
  one_slot,
  pair_is_written,
  provisional_write_is_lost,
  read_fails,
  track_is_lost,
}
use Rattle.subsystem_defs.proofs.Stand.{Sample, deck, deck_with, device, first, go, line, settle, two}
use Rattle.promise_laws.specs.Origins.{event_of}
use Rattle.move_laws.specs.Exactly.{Transfers, walk_tracks, step_transfers, back_transfers}

-- the reads and the writes of each step

abbrev pair_of : Transfers → ℕ × ℕ
pair_of x = (x.reads, x.writes)

abbrev step_numbers : Option Event → EventHappened → List (ℕ × ℕ)
step_numbers (Some (events.Step n)) h = pair_of (step_transfers h.before n h.end) ∷ []
step_numbers _ h = []

abbrev moved_in : List Logged → List (ℕ × ℕ)
moved_in [] = []
moved_in (x ∷ xs) = step_numbers (event_of x.asked) x.happened ++ moved_in xs

abbrev moved_by : Sample → List (ℕ × ℕ)
moved_by x = moved_in (run_asked x.deck x.asked).events

-- of a program of three words, by its last two
abbrev words : ℕ × ℕ → ℕ × ℕ → List (ℕ × ℕ)
words one two = (0, 0) ∷ one ∷ two ∷ []

-- misses, and one hit in the second program; a fast write, and one through without a slot; a provisional write, and two misses while the cache is
-- down; a fast write, and a lost track; a miss whose only side fails; two tracks, one behind the other
pub steps_make : map moved_by (one_frame ∷ one_slot ∷ provisional_write_is_lost ∷ track_is_lost ∷ read_fails ∷ end_of_the_cylinder ∷ [])
    ≡ (words (1, 0) (0, 0) ++ words (0, 0) (0, 0) ++ words (1, 0) (0, 0) ++ words (1, 0) (0, 0))
    ∷ (words (1, 0) (0, 0) ++ words (1, 0) (0, 1))
    ∷ (words (1, 0) (0, 0) ++ words (1, 0) (1, 0) ++ (0, 0) ∷ [])
    ∷ (words (1, 0) (0, 0) ++ (0, 0) ∷ (0, 0) ∷ [])
    ∷ ((0, 0) ∷ (1, 0) ∷ [])
    ∷ ((0, 0) ∷ (2, 0) ∷ (0, 0) ∷ (0, 0) ∷ (0, 0) ∷ [])
    ∷ []
unfolding command_of least count_below is_in with_number less_one answer after counted hold work choose look follow
    command reset power second background lose level_bytes image over settled side_lost cache_lost store_lost
    all_firm_told waits hear all_told lend second_part start_fault start write_first write_second write_done through
    write pair_fault unpair_fault suspend_fault resume_fault fail_fault replace_fault deed sweep happens replaced
    unpaired steps backs line_logged run_lines run_asked_on part_of walk walk_tracks
steps_make = refl

-- a write through to a pair: side A's write, and then side B's
pub pair_makes : moved_by pair_is_written ≡ words (1, 0) (0, 1) ++ (0, 1) ∷ []
unfolding command_of least count_below is_in with_number less_one answer after counted hold work choose look follow
    command reset power second background lose level_bytes image over settled side_lost cache_lost store_lost
    all_firm_told waits hear all_told lend second_part start_fault start write_first write_second write_done through
    write pair_fault unpair_fault suspend_fault resume_fault fail_fault replace_fault deed sweep happens replaced
    unpaired steps backs line_logged run_lines run_asked_on part_of walk walk_tracks
pair_makes = refl

-- the sixteenth read of side A of a pair fails, behind the fifteen of the copy: the track is read from side B
abbrev side_a_fails : List Logged
side_a_fails =
    (run_asked (deck_with 4 2 (device 0 ∷ device 1 ∷ []) (record { device = 0; write = false; call = 16 } ∷ []) (first (read_zero 0xc0 0) ∷ []))
    (line (lines.Pair 0 1) ++ settle ++ go)).events

pub failed_side_makes : moved_in side_a_fails ≡ words (2, 0) (0, 0)
unfolding command_of least count_below is_in with_number less_one answer after counted hold work choose look follow
    command reset power second background lose level_bytes image over settled side_lost cache_lost store_lost
    all_firm_told waits hear all_told lend second_part start_fault start write_first write_second write_done through
    write pair_fault unpair_fault suspend_fault resume_fault fail_fault replace_fault deed sweep happens replaced
    unpaired steps backs line_logged run_lines run_asked_on part_of walk walk_tracks
failed_side_makes = refl

-- a search that isn't met on its track goes on to the next one: a hit, and then a miss
abbrev search : ℕ → Ccw
search flags = record { command = 0xb1; flags = flags; count = 5; given = 0 ∷ 0 ∷ 0 ∷ 0 ∷ 9 ∷ [] }

abbrev searched : List Logged
searched =
    (run_asked (deck 4 2 ((record { command = 0x07; flags = 0x40; count = 6; given = 0 ∷ 0 ∷ 0 ∷ 0 ∷ 0 ∷ 0x0c ∷ [] }
    ∷ search 0x40 ∷ search 0x40 ∷ search 0 ∷ []) ∷ [])) go).events

pub search_makes : moved_in searched ≡ (0, 0) ∷ (1, 0) ∷ (1, 0) ∷ (1, 0) ∷ []
unfolding command_of least count_below is_in with_number less_one answer after counted hold work choose look follow
    command reset power second background lose level_bytes image over settled side_lost cache_lost store_lost
    all_firm_told waits hear all_told lend second_part start_fault start write_first write_second write_done through
    write pair_fault unpair_fault suspend_fault resume_fault fail_fault replace_fault deed sweep happens replaced
    unpaired steps backs line_logged run_lines run_asked_on part_of walk walk_tracks
search_makes = refl

-- And by itself: a track is destaged, and then there is nothing to do; one is recovered that has no frame

abbrev work_numbers : Option Event → EventHappened → List (ℕ × ℕ)
work_numbers (Some (events.Back n)) h = pair_of (back_transfers h.before n) ∷ []
work_numbers _ h = []

abbrev works_in : List Logged → List (ℕ × ℕ)
works_in [] = []
works_in (x ∷ xs) = work_numbers (event_of x.asked) x.happened ++ works_in xs

abbrev works_by : Sample → List (ℕ × ℕ)
works_by x = works_in (run_asked x.deck x.asked).events

pub works_make : map works_by (fast_write_is_destaged ∷ cache_is_repaired ∷ []) ≡ ((0, 1) ∷ (0, 0) ∷ []) ∷ ((1, 1) ∷ []) ∷ []
unfolding command_of least count_below is_in with_number less_one answer after counted hold work choose look follow
    command reset power second background lose level_bytes image over settled side_lost cache_lost store_lost
    all_firm_told waits hear all_told lend second_part start_fault start write_first write_second write_done through
    write pair_fault unpair_fault suspend_fault resume_fault fail_fault replace_fault deed sweep happens replaced
    unpaired steps backs line_logged run_lines run_asked_on part_of walk walk_tracks
works_make = refl
