-- What a keeper is told in events of small subsystems, computed from the definitions alone.
use Rattle.std.proofs.Common.{◌≡◌, ℕ, List, [], ◌∷◌, map, refl}
use Rattle.ckd_types.specs.Commands.{command_of}
use Rattle.track_image.specs.Image.{Image}
use Rattle.track_table.specs.Tracks.{least, count_below}
use Rattle.device_outside.specs.Hears.{messages}
use Rattle.device_outside.specs.Keeper.{Message, BeforeEdit, Firm}
use Rattle.device_outside.specs.Lists.{is_in, with_number, less_one}
use Rattle.device_outside.specs.Pool.{answer, after}
use Rattle.device_outside.specs.Told.{hold}
use Rattle.device_outside.specs.Volume.{counted}
use Rattle.device_defs.specs.Background.{work}
use Rattle.device_defs.specs.Choosing.{choose}
use Rattle.device_defs.specs.Command.{look, follow, command}
use Rattle.device_defs.specs.Editing.{through, write}
use Rattle.device_defs.specs.Events.{second, background, lose}
use Rattle.device_defs.specs.Image.{level_bytes, image}
use Rattle.device_defs.specs.Losses.{over, settled, side_lost, cache_lost, store_lost, all_firm_told}
use Rattle.device_defs.specs.Owed.{waits, hear, all_told}
use Rattle.device_defs.specs.Second.{second_part}
use Rattle.device_defs.specs.Start.{start_fault, start}
use Rattle.device_defs.specs.Writing.{write_first, write_second, write_done}
use Rattle.device_defs.proofs.Stand.{Event as Moves, Stand, all_happen, body_of, go, new_data, old_data, pair, stand, steps_of, works, write_zero}
use Rattle.subsystem_defs.specs.declared.event.Event.{Event}
use Rattle.subsystem_defs.specs.declared.event.Event.TheVariants as events
use Rattle.subsystem_defs.specs.Deeds.{deed}
use Rattle.keeper_laws.specs.Messages.{swept_messages, event_messages}

-- which message, the device, the track, and the data of its record 0
pub data Shown : Type 0 where
  Before : ℕ → ℕ → List ℕ → Shown
  IsFirm : ℕ → ℕ → List ℕ → Shown

abbrev pub shown : Message Image → Shown
shown (BeforeEdit d t i) = Before d t (body_of i.track.records)
shown (Firm d t i) = IsFirm d t (body_of i.track.records)

abbrev pub told : Stand → Event → List Shown
told s e = map shown (event_messages (record { pool = s.told.pool; mounted = record { device = s.device; a = s.told.a; b = s.told.b } ∷ [] }) e)

-- the third command writes record 0 of track 3: of a volume, with these attributes, and of a pair in two parts
abbrev pub volume : ℕ → List Moves → Stand
volume attributes events = all_happen (stand 4 2 [] [] (write_zero attributes 3 ∷ [])) events

abbrev pub both_sides : List Moves → Stand
both_sides events = all_happen (pair [] [] (write_zero 0xc1 3 ∷ [])) events

pub one_write :
    told (volume 0xc0 (go 1)) (events.Step 0) ∷ told (volume 0xc0 (go 2)) (events.Step 0) ∷ told (volume 0xc0 (go 3)) (events.Back 0) ∷ []
    ≡ [] ∷ (Before 0 3 old_data ∷ IsFirm 0 3 new_data ∷ []) ∷ [] ∷ []
unfolding event_messages deed messages all_happen steps_of works hold answer after is_in with_number less_one counted least count_below command_of
    over settled side_lost cache_lost store_lost all_firm_told waits hear all_told level_bytes image choose write_first write_second write_done through write
    second_part work look follow command second background lose start_fault start
one_write = refl

-- a write in two parts is firm once it is done
pub two_parts :
    told (both_sides (go 2)) (events.Step 0) ∷ told (both_sides (go 3)) (events.Step 0) ∷ []
    ≡ (Before 0 3 old_data ∷ []) ∷ (IsFirm 0 3 new_data ∷ []) ∷ []
unfolding event_messages deed messages all_happen steps_of works hold answer after is_in with_number less_one counted least count_below command_of
    over settled side_lost cache_lost store_lost all_firm_told waits hear all_told level_bytes image choose write_first write_second write_done through write
    second_part work look follow command second background lose start_fault start
two_parts = refl

-- data of cache fast write are firm once they are destaged, and where the cache is lost nothing is told
pub loose_write :
    told (volume 0xc2 (go 2)) (events.Step 0) ∷ told (volume 0xc2 (go 3)) (events.Back 0) ∷ told (volume 0xc2 (go 3)) events.FailCache ∷ []
    ≡ (Before 0 3 old_data ∷ []) ∷ (IsFirm 0 3 new_data ∷ []) ∷ [] ∷ []
unfolding event_messages swept_messages deed messages all_happen steps_of works hold answer after is_in with_number less_one counted least count_below
    command_of over settled side_lost cache_lost store_lost all_firm_told waits hear all_told level_bytes image choose write_first write_second write_done
    through write second_part work look follow command second background lose start_fault start
loose_write = refl
