-- The firm writes of small runs, and what is told in them, computed from the definitions alone.
use Rattle.std.proofs.Common.{◌≡◌, ℕ, List, [], ◌∷◌, ◌++◌, map, refl}
use Rattle.std.specs.Prelude.{replicate}
use Rattle.ckd_types.specs.Commands.{command_of}
use Rattle.ckd_rules.specs.Walk.{walk}
use Rattle.track_table.specs.Tracks.{least, count_below}
use Rattle.plain_defs.specs.Program.{part_of}
use Rattle.device_outside.specs.Hears.{messages}
use Rattle.device_outside.specs.Lists.{is_in, with_number, less_one}
use Rattle.device_outside.specs.Pool.{answer, after}
use Rattle.device_outside.specs.Told.{hold}
use Rattle.device_outside.specs.Volume.{counted}
use Rattle.device_defs.specs.Background.{work}
use Rattle.device_defs.specs.Choosing.{choose}
use Rattle.device_defs.specs.Command.{look, follow, command}
use Rattle.device_defs.specs.Cutting.{reset, power}
use Rattle.device_defs.specs.Editing.{through, write}
use Rattle.device_defs.specs.Events.{second, background, lose}
use Rattle.device_defs.specs.Image.{level_bytes, image}
use Rattle.device_defs.specs.Losses.{over, settled, side_lost, cache_lost, store_lost, all_firm_told}
use Rattle.device_defs.specs.Owed.{waits, hear, all_told}
use Rattle.device_defs.specs.Second.{second_part}
use Rattle.device_defs.specs.Start.{start_fault, start}
use Rattle.device_defs.specs.Writing.{write_first, write_second, write_done}
use Rattle.device_defs.proofs.Stand.{
  Event as Moves,
  Suspend,
  Resume,
  Stand,
  all_happen,
  body_of,
  go,
  new_data,
  pair,
  stand,
  steps_of,
  works,
  write_of,
  write_zero,
}
use Rattle.subsystem_defs.specs.declared.event.Event.{Event}
use Rattle.subsystem_defs.specs.declared.event.Event.TheVariants as events
use Rattle.subsystem_defs.specs.Deeds.{deed}
use Rattle.subsystem_defs.specs.Happening.{sweep, happens}
use Rattle.subsystem_defs.specs.Subsystem.{Mounted, Subsystem}
use Rattle.keeper_laws.specs.Messages.{swept_messages, event_messages}
use Rattle.firm_laws.specs.FirmWrites.{FirmWrite, part_writes, firm_writes_of, firms_in}

-- the track, and the data of its record 0
abbrev Shown : Type 0
Shown = ℕ × List ℕ

abbrev shown : FirmWrite → Shown
shown w = (w.0, body_of w.1.records)

abbrev alone : Stand → Subsystem
alone s = record { pool = s.told.pool; mounted = record { device = s.device; a = s.told.a; b = s.told.b } ∷ [] }

abbrev all_writes : List Mounted → List FirmWrite
all_writes [] = []
all_writes (m ∷ ms) = firm_writes_of m.device ++ all_writes ms

-- the firm writes before an event and behind it, and those that it tells
abbrev write_row : Stand → Event → List (List Shown)
write_row s e =
    map shown (firm_writes_of s.device) ∷ map shown (all_writes (happens (alone s) e).behind.mounted)
    ∷ map shown (firms_in 0 (event_messages (alone s) e)) ∷ []

abbrev other_data : List ℕ
other_data = replicate 8 0x55

-- two writes of track 3, one after another
abbrev two_writes : List Moves → Stand
two_writes events = all_happen (stand 4 2 [] [] (write_zero 0xc0 3 ∷ write_of 0xc0 0 3 (replicate 8 0x55) ∷ [])) events

both_are_written : write_row (two_writes (go 3 ++ go 2)) (events.Step 0)
    ≡ ((3, new_data) ∷ []) ∷ ((3, new_data) ∷ (3, other_data) ∷ []) ∷ ((3, other_data) ∷ []) ∷ []
unfolding command_of walk least count_below part_of messages is_in with_number less_one answer after hold counted work choose look follow command reset power
    through write second background lose level_bytes image over settled side_lost cache_lost store_lost all_firm_told waits hear all_told second_part
    start_fault start write_first write_second write_done all_happen steps_of works deed sweep happens swept_messages event_messages part_writes
both_are_written = refl

-- data of cache fast write are none until they are destaged, and where they are lost they are none
abbrev loose_write : List Moves → Stand
loose_write events = all_happen (stand 4 2 [] [] (write_zero 0xc2 3 ∷ [])) events

loose_ones_are_not : write_row (loose_write (go 2)) (events.Step 0) ∷ write_row (loose_write (go 3)) (events.Back 0)
    ∷ write_row (loose_write (go 3)) events.FailCache ∷ []
    ≡ ([] ∷ [] ∷ [] ∷ []) ∷ ([] ∷ ((3, new_data) ∷ []) ∷ ((3, new_data) ∷ []) ∷ []) ∷ ([] ∷ [] ∷ [] ∷ []) ∷ []
unfolding command_of walk least count_below part_of messages is_in with_number less_one answer after hold counted work choose look follow command reset power
    through write second background lose level_bytes image over settled side_lost cache_lost store_lost all_firm_told waits hear all_told second_part
    start_fault start write_first write_second write_done all_happen steps_of works deed sweep happens swept_messages event_messages part_writes
loose_ones_are_not = refl

-- a write in two parts that is cut between them, by a reset of its path and by a loss of power
abbrev half_write : Stand
half_write = all_happen (pair [] [] (write_zero 0xc1 3 ∷ [])) (go 3)

cut_ones_are : write_row half_write (events.Reset 1 0) ∷ write_row half_write events.Power ∷ []
    ≡ ([] ∷ ((3, new_data) ∷ []) ∷ ((3, new_data) ∷ []) ∷ []) ∷ ([] ∷ ((3, new_data) ∷ []) ∷ ((3, new_data) ∷ []) ∷ []) ∷ []
unfolding command_of walk least count_below part_of messages is_in with_number less_one answer after hold counted work choose look follow command reset power
    through write second background lose level_bytes image over settled side_lost cache_lost store_lost all_firm_told waits hear all_told second_part
    start_fault start write_first write_second write_done all_happen steps_of works deed sweep happens swept_messages event_messages part_writes
cut_ones_are = refl

-- track 3 is stale on side B, and loose: where side A fails in the write of track 5 it becomes firm, before that write is done on side B
abbrev on_one_side : Stand
on_one_side =
    all_happen (pair (2 ∷ []) [] (write_zero 0xc1 3 ∷ write_of 0xc2 0 3 (replicate 8 0x55) ∷ write_zero 0xc1 5 ∷ []))
    (Suspend ∷ go 3 ++ Resume ∷ go 3 ++ go 2)

one_by_a_failed_call : write_row on_one_side (events.Step 0)
    ≡ ((3, new_data) ∷ []) ∷ ((3, new_data) ∷ (3, other_data) ∷ (5, new_data) ∷ []) ∷ ((3, other_data) ∷ (5, new_data) ∷ []) ∷ []
unfolding command_of walk least count_below part_of messages is_in with_number less_one answer after hold counted work choose look follow command reset power
    through write second background lose level_bytes image over settled side_lost cache_lost store_lost all_firm_told waits hear all_told second_part
    start_fault start write_first write_second write_done all_happen steps_of works deed sweep happens swept_messages event_messages part_writes
one_by_a_failed_call = refl
