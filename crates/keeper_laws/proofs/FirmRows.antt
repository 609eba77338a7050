-- What the Firm messages of events of small subsystems make of a volume, computed from the definitions alone.
use Rattle.std.proofs.Common.{◌≡◌, ℕ, List, [], ◌∷◌, refl}
use Rattle.ckd_types.specs.declared.record.Track.{Track}
use Rattle.ckd_types.specs.Commands.{command_of}
use Rattle.ckd_types.specs.Volume.{track_in}
use Rattle.track_table.specs.Tracks.{least, count_below}
use Rattle.device_outside.specs.Hears.{messages}
use Rattle.device_outside.specs.Lists.{is_in, with_number, less_one}
use Rattle.device_outside.specs.Pool.{answer, after}
use Rattle.device_outside.specs.Told.{hold}
use Rattle.device_outside.specs.Volume.{counted}
use Rattle.device_defs.specs.Background.{work}
use Rattle.device_defs.specs.Choosing.{choose}
use Rattle.device_defs.specs.Command.{look, follow, command}
use Rattle.device_defs.specs.Editing.{through, write}
use Rattle.device_defs.specs.Events.{second, background, lose}
use Rattle.device_defs.specs.Image.{level_bytes, image}
use Rattle.device_defs.specs.Losses.{over, settled, side_lost, cache_lost, store_lost, all_firm_told}
use Rattle.device_defs.specs.Owed.{waits, hear, all_told}
use Rattle.device_defs.specs.Second.{second_part}
use Rattle.device_defs.specs.Start.{start_fault, start}
use Rattle.device_defs.specs.Writing.{write_first, write_second, write_done}
use Rattle.device_defs.proofs.Stand.{Stand, all_happen, body_of, go, new_data, old_data, steps_of, works}
use Rattle.subsystem_defs.specs.declared.event.Event.{Event}
use Rattle.subsystem_defs.specs.declared.event.Event.TheVariants as events
use Rattle.subsystem_defs.specs.Deeds.{deed}
use Rattle.subsystem_defs.specs.Happening.{happens}
use Rattle.subsystem_defs.specs.Subsystem.{Mounted, Subsystem}
use Rattle.keeper_laws.specs.Firmness.{told_firm}
use Rattle.keeper_laws.specs.Messages.{event_messages}
use Rattle.keeper_laws.proofs.MessageRows.{volume, both_sides}

abbrev alone : Stand → Subsystem
alone s = record { pool = s.told.pool; mounted = record { device = s.device; a = s.told.a; b = s.told.b } ∷ [] }

abbrev first_firm : List Mounted → List Track
first_firm [] = []
first_firm (m ∷ ms) = m.device.store.firm

abbrev first_plain : List Mounted → List Track
first_plain [] = []
first_plain (m ∷ ms) = m.device.store.plain

-- the data of record 0 of track 3 that were told as firm, those that are firm behind the event, and those that are plain
abbrev third : List Track → List ℕ
third v = body_of (track_in v 3).records

abbrev pub firm_row : Stand → Event → List (List ℕ)
firm_row s e =
    third (told_firm 0 (event_messages (alone s) e) s.device.store.firm) ∷ third (first_firm (happens (alone s) e).behind.mounted)
    ∷ third (first_plain (happens (alone s) e).behind.mounted) ∷ []

pub fast_write : firm_row (volume 0xc0 (go 2)) (events.Step 0) ≡ new_data ∷ new_data ∷ new_data ∷ []
unfolding event_messages deed messages all_happen steps_of works hold answer after is_in with_number less_one counted least count_below command_of
    over settled side_lost cache_lost store_lost all_firm_told waits hear all_told level_bytes image choose write_first write_second write_done through write
    second_part work look follow command second background lose start_fault start happens
fast_write = refl

-- a write in two parts is firm, and plain, once it is done
pub in_two_parts :
    firm_row (both_sides (go 2)) (events.Step 0) ∷ firm_row (both_sides (go 3)) (events.Step 0) ∷ []
    ≡ (old_data ∷ old_data ∷ old_data ∷ []) ∷ (new_data ∷ new_data ∷ new_data ∷ []) ∷ []
unfolding event_messages deed messages all_happen steps_of works hold answer after is_in with_number less_one counted least count_below command_of
    over settled side_lost cache_lost store_lost all_firm_told waits hear all_told level_bytes image choose write_first write_second write_done through write
    second_part work look follow command second background lose start_fault start happens
in_two_parts = refl

-- data of cache fast write are plain at once, and firm once they are destaged
pub destaged :
    firm_row (volume 0xc2 (go 2)) (events.Step 0) ∷ firm_row (volume 0xc2 (go 3)) (events.Back 0) ∷ []
    ≡ (old_data ∷ old_data ∷ new_data ∷ []) ∷ (new_data ∷ new_data ∷ new_data ∷ []) ∷ []
unfolding event_messages deed messages all_happen steps_of works hold answer after is_in with_number less_one counted least count_below command_of
    over settled side_lost cache_lost store_lost all_firm_told waits hear all_told level_bytes image choose write_first write_second write_done through write
    second_part work look follow command second background lose start_fault start happens
destaged = refl
