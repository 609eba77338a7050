-- Over the bytes of its volume a known device is sound, and one of which a frame, a patch, the side or a mark is wrong isn't.
use Rattle.std.proofs.Common.{true, false, [], ◌∷◌, ◌++◌, None, refl, replicate}
use Rattle.ckd_types.specs.Commands.{command_of}
use Rattle.ckd_types.specs.declared.paths.Side.TheVariants.{A}
use Rattle.ckd_rules.specs.Walk.{walk}
use Rattle.plain_defs.specs.Program.{part_of}
use Rattle.track_image.specs.Reading.{areas_at, zero_at, next_at, records_at, reading}
use Rattle.track_table.specs.Tracks.{least, count_below}
use Rattle.device_outside.specs.Disk.{empty_bytes}
use Rattle.device_outside.specs.Lists.{is_in, with_number, less_one}
use Rattle.device_outside.specs.Pool.{answer, after}
use Rattle.device_outside.specs.Told.{hold}
use Rattle.device_outside.specs.Volume.{counted}
use Rattle.device_defs.specs.Background.{work}
use Rattle.device_defs.specs.Choosing.{choose}
use Rattle.device_defs.specs.Command.{look, follow, command}
use Rattle.device_defs.specs.Cutting.{reset, power}
use Rattle.device_defs.specs.Editing.{through, write}
use Rattle.device_defs.specs.Events.{second, background, lose}
use Rattle.device_defs.specs.Image.{level_bytes, image}
use Rattle.device_defs.specs.Losses.{over, settled, side_lost, cache_lost, store_lost, all_firm_told}
use Rattle.device_defs.specs.Owed.{waits, hear, all_told}
use Rattle.device_defs.specs.Second.{second_part}
use Rattle.device_defs.specs.Start.{start_fault, start}
use Rattle.device_defs.specs.Store.{with_frame, with_patch, with_loose}
use Rattle.device_defs.specs.Writing.{write_first, write_second, write_done}
use Rattle.device_defs.proofs.Held.{
  SoundAt,
  bad_frame,
  bad_loose,
  bad_side,
  behind,
  fives_image,
  first_patch,
  frame_of,
  image_of,
  new_bytes,
  new_image,
  old_bytes,
  old_image,
  sound_by,
  via,
  with_bytes,
  with_own,
}
use Rattle.device_defs.proofs.Own.{Own, all_do, play}
use Rattle.device_defs.proofs.Stand.{
  FailCache,
  FailSide,
  Work,
  all_happen,
  copies,
  go,
  read_zero,
  stand,
  steps_of,
  works,
  write_of,
  write_zero,
}

-- A track that was read has a clean frame

abbrev read_track : Own
read_track = behind (stand 4 2 [] [] (read_zero 0xc0 0 ∷ [])) (go 3)

clean_frame : SoundAt read_track 0
unfolding all_do play all_happen steps_of works copies hold answer after is_in with_number less_one counted
    least count_below command_of empty_bytes areas_at zero_at next_at records_at reading over settled side_lost
    cache_lost store_lost all_firm_told waits hear all_told level_bytes image choose write_first write_second
    write_done through write second_part work look follow command second background lose start_fault start reset
    power part_of walk
clean_frame = sound_by read_track 0 false old_image old_image refl refl

-- and so is a track that was never looked at
untouched_track : SoundAt read_track 1
unfolding all_do play all_happen steps_of works copies hold answer after is_in with_number less_one counted
    least count_below command_of empty_bytes areas_at zero_at next_at records_at reading over settled side_lost
    cache_lost store_lost all_firm_told waits hear all_told level_bytes image choose write_first write_second
    write_done through write second_part work look follow command second background lose start_fault start reset
    power part_of walk
untouched_track = sound_by read_track 1 false (image_of 1) (image_of 1) refl refl

-- a frame other than the plain track
other_frame : SoundAt (with_own read_track (with_frame read_track.device.store 0 (frame_of new_image false))) 0 → ⊥
unfolding all_do play all_happen steps_of works copies hold answer after is_in with_number less_one counted
    least count_below command_of empty_bytes areas_at zero_at next_at records_at reading over settled side_lost
    cache_lost store_lost all_firm_told waits hear all_told level_bytes image choose write_first write_second
    write_done through write second_part work look follow command second background lose start_fault start reset
    power part_of walk
other_frame = bad_frame (with_own read_track (with_frame read_track.device.store 0 (frame_of new_image false))) 0 refl refl refl

-- a side that holds another track
other_side : SoundAt (with_bytes read_track A new_bytes) 0 → ⊥
unfolding all_do play all_happen steps_of works copies hold answer after is_in with_number less_one counted
    least count_below command_of empty_bytes areas_at zero_at next_at records_at reading over settled side_lost
    cache_lost store_lost all_firm_told waits hear all_told level_bytes image choose write_first write_second
    write_done through write second_part work look follow command second background lose start_fault start reset
    power part_of walk
other_side = bad_side (with_bytes read_track A new_bytes) 0 A refl refl refl

-- or no track at all
no_track : SoundAt (with_bytes read_track A []) 0 → ⊥
unfolding all_do play all_happen steps_of works copies hold answer after is_in with_number less_one counted
    least count_below command_of empty_bytes areas_at zero_at next_at records_at reading over settled side_lost
    cache_lost store_lost all_firm_told waits hear all_told level_bytes image choose write_first write_second
    write_done through write second_part work look follow command second background lose start_fault start reset
    power part_of walk
no_track = bad_side (with_bytes read_track A []) 0 A refl refl refl

-- A fast write is in frame and patch, and not on the side

abbrev fast_track : Own
fast_track = behind (stand 4 2 [] [] (write_zero 0xc0 0 ∷ [])) (go 3)

fast_write : SoundAt fast_track 0
unfolding all_do play all_happen steps_of works copies hold answer after is_in with_number less_one counted
    least count_below command_of empty_bytes areas_at zero_at next_at records_at reading over settled side_lost
    cache_lost store_lost all_firm_told waits hear all_told level_bytes image choose write_first write_second
    write_done through write second_part work look follow command second background lose start_fault start reset
    power part_of walk
fast_write = sound_by fast_track 0 false new_image new_image refl refl

-- in the frame alone
fast_write_without_patch : SoundAt (with_own fast_track (with_patch fast_track.device.store 0 None)) 0 → ⊥
unfolding all_do play all_happen steps_of works copies hold answer after is_in with_number less_one counted
    least count_below command_of empty_bytes areas_at zero_at next_at records_at reading over settled side_lost
    cache_lost store_lost all_firm_told waits hear all_told level_bytes image choose write_first write_second
    write_done through write second_part work look follow command second background lose start_fault start reset
    power part_of walk
fast_write_without_patch = bad_side (with_own fast_track (with_patch fast_track.device.store 0 None)) 0 A refl refl refl

-- in the patch alone
fast_write_without_frame : SoundAt (with_own fast_track (with_frame fast_track.device.store 0 (frame_of old_image true))) 0 → ⊥
unfolding all_do play all_happen steps_of works copies hold answer after is_in with_number less_one counted
    least count_below command_of empty_bytes areas_at zero_at next_at records_at reading over settled side_lost
    cache_lost store_lost all_firm_told waits hear all_told level_bytes image choose write_first write_second
    write_done through write second_part work look follow command second background lose start_fault start reset
    power part_of walk
fast_write_without_frame = bad_frame (with_own fast_track (with_frame fast_track.device.store 0 (frame_of old_image true))) 0 refl refl refl

-- Behind a loss of the cache a patch has all edits

abbrev patched_track : Own
patched_track = behind (stand 4 2 [] [] (write_zero 0xc0 0 ∷ write_of 0xc0 0 0 (replicate 8 0x55) ∷ [])) (go 3 ++ go 3 ++ FailCache ∷ [])

patch_alone : SoundAt patched_track 0
unfolding all_do play all_happen steps_of works copies hold answer after is_in with_number less_one counted
    least count_below command_of empty_bytes areas_at zero_at next_at records_at reading over settled side_lost
    cache_lost store_lost all_firm_told waits hear all_told level_bytes image choose write_first write_second
    write_done through write second_part work look follow command second background lose start_fault start reset
    power part_of walk
patch_alone = sound_by patched_track 0 false fives_image fives_image refl refl

-- a patch that misses an edit
patch_without_an_edit : SoundAt (with_own patched_track (with_patch patched_track.device.store 0 first_patch)) 0 → ⊥
unfolding all_do play all_happen steps_of works copies hold answer after is_in with_number less_one counted
    least count_below command_of empty_bytes areas_at zero_at next_at records_at reading over settled side_lost
    cache_lost store_lost all_firm_told waits hear all_told level_bytes image choose write_first write_second
    write_done through write second_part work look follow command second background lose start_fault start reset
    power part_of walk
patch_without_an_edit = bad_side (with_own patched_track (with_patch patched_track.device.store 0 first_patch)) 0 A refl refl refl

-- Behind a write that goes through the side has it, and the frame is the new track

abbrev written_track : Own
written_track = behind (stand 4 2 [] [] (write_zero 0xc1 0 ∷ [])) (go 3)

write_through : SoundAt written_track 0
unfolding all_do play all_happen steps_of works copies hold answer after is_in with_number less_one counted
    least count_below command_of empty_bytes areas_at zero_at next_at records_at reading over settled side_lost
    cache_lost store_lost all_firm_told waits hear all_told level_bytes image choose write_first write_second
    write_done through write second_part work look follow command second background lose start_fault start reset
    power part_of walk
write_through = sound_by written_track 0 false new_image new_image refl refl

-- the frame is the old one
old_frame_behind_a_write : SoundAt (with_own written_track (with_frame written_track.device.store 0 (frame_of old_image false))) 0 → ⊥
unfolding all_do play all_happen steps_of works copies hold answer after is_in with_number less_one counted
    least count_below command_of empty_bytes areas_at zero_at next_at records_at reading over settled side_lost
    cache_lost store_lost all_firm_told waits hear all_told level_bytes image choose write_first write_second
    write_done through write second_part work look follow command second background lose start_fault start reset
    power part_of walk
old_frame_behind_a_write = bad_frame (with_own written_track (with_frame written_track.device.store 0 (frame_of old_image false))) 0 refl refl refl

-- the side has the old bytes
write_that_never_came : SoundAt (with_bytes written_track A old_bytes) 0 → ⊥
unfolding all_do play all_happen steps_of works copies hold answer after is_in with_number less_one counted
    least count_below command_of empty_bytes areas_at zero_at next_at records_at reading over settled side_lost
    cache_lost store_lost all_firm_told waits hear all_told level_bytes image choose write_first write_second
    write_done through write second_part work look follow command second background lose start_fault start reset
    power part_of walk
write_that_never_came = bad_side (with_bytes written_track A old_bytes) 0 A refl refl refl

-- Data of cache fast write are in the frame alone, and the side has what the track goes back to

abbrev loose_track : Own
loose_track = behind (stand 4 2 [] [] (write_zero 0xc2 0 ∷ [])) (go 3)

provisional_write : SoundAt loose_track 0
unfolding all_do play all_happen steps_of works copies hold answer after is_in with_number less_one counted
    least count_below command_of empty_bytes areas_at zero_at next_at records_at reading over settled side_lost
    cache_lost store_lost all_firm_told waits hear all_told level_bytes image choose write_first write_second
    write_done through write second_part work look follow command second background lose start_fault start reset
    power part_of walk
provisional_write = sound_by loose_track 0 true new_image old_image refl refl

-- it isn't marked loose
provisional_write_without_its_mark : SoundAt (with_own loose_track (with_loose loose_track.device.store 0 false)) 0 → ⊥
unfolding all_do play all_happen steps_of works copies hold answer after is_in with_number less_one counted
    least count_below command_of empty_bytes areas_at zero_at next_at records_at reading over settled side_lost
    cache_lost store_lost all_firm_told waits hear all_told level_bytes image choose write_first write_second
    write_done through write second_part work look follow command second background lose start_fault start reset
    power part_of walk
provisional_write_without_its_mark = bad_loose (with_own loose_track (with_loose loose_track.device.store 0 false)) 0 refl

-- the side has the data already
provisional_write_on_its_side : SoundAt (with_bytes loose_track A new_bytes) 0 → ⊥
unfolding all_do play all_happen steps_of works copies hold answer after is_in with_number less_one counted
    least count_below command_of empty_bytes areas_at zero_at next_at records_at reading over settled side_lost
    cache_lost store_lost all_firm_told waits hear all_told level_bytes image choose write_first write_second
    write_done through write second_part work look follow command second background lose start_fault start reset
    power part_of walk
provisional_write_on_its_side = bad_side (with_bytes loose_track A new_bytes) 0 A refl refl refl

-- They are lost with the cache

abbrev lost_data : Own
lost_data = behind (stand 4 2 [] [] (write_zero 0xc2 0 ∷ [])) (go 3 ++ FailCache ∷ [])

provisional_write_is_lost : SoundAt lost_data 0
unfolding all_do play all_happen steps_of works copies hold answer after is_in with_number less_one counted
    least count_below command_of empty_bytes areas_at zero_at next_at records_at reading over settled side_lost
    cache_lost store_lost all_firm_told waits hear all_told level_bytes image choose write_first write_second
    write_done through write second_part work look follow command second background lose start_fault start reset
    power part_of walk
provisional_write_is_lost = sound_by lost_data 0 false old_image old_image refl refl

-- a frame that still has them
lost_data_are_answered : SoundAt (with_own lost_data (with_frame lost_data.device.store 0 (frame_of new_image false))) 0 → ⊥
unfolding all_do play all_happen steps_of works copies hold answer after is_in with_number less_one counted
    least count_below command_of empty_bytes areas_at zero_at next_at records_at reading over settled side_lost
    cache_lost store_lost all_firm_told waits hear all_told level_bytes image choose write_first write_second
    write_done through write second_part work look follow command second background lose start_fault start reset
    power part_of walk
lost_data_are_answered = bad_frame (with_own lost_data (with_frame lost_data.device.store 0 (frame_of new_image false))) 0 refl refl refl

-- a side that has them
lost_data_are_on_the_side : SoundAt (with_bytes lost_data A new_bytes) 0 → ⊥
unfolding all_do play all_happen steps_of works copies hold answer after is_in with_number less_one counted
    least count_below command_of empty_bytes areas_at zero_at next_at records_at reading over settled side_lost
    cache_lost store_lost all_firm_told waits hear all_told level_bytes image choose write_first write_second
    write_done through write second_part work look follow command second background lose start_fault start reset
    power part_of walk
lost_data_are_on_the_side = bad_side (with_bytes lost_data A new_bytes) 0 A refl refl refl

-- Destaged, they stay

abbrev firm_data : Own
firm_data = behind (stand 4 2 [] [] (write_zero 0xc2 0 ∷ [])) (go 3 ++ Work ∷ [])

provisional_write_is_destaged : SoundAt firm_data 0
unfolding all_do play all_happen steps_of works copies hold answer after is_in with_number less_one counted
    least count_below command_of empty_bytes areas_at zero_at next_at records_at reading over settled side_lost
    cache_lost store_lost all_firm_told waits hear all_told level_bytes image choose write_first write_second
    write_done through write second_part work look follow command second background lose start_fault start reset
    power part_of walk
provisional_write_is_destaged = sound_by firm_data 0 false new_image new_image refl refl

-- and then the side has them
destaged_without_a_write : SoundAt (with_bytes firm_data A old_bytes) 0 → ⊥
unfolding all_do play all_happen steps_of works copies hold answer after is_in with_number less_one counted
    least count_below command_of empty_bytes areas_at zero_at next_at records_at reading over settled side_lost
    cache_lost store_lost all_firm_told waits hear all_told level_bytes image choose write_first write_second
    write_done through write second_part work look follow command second background lose start_fault start reset
    power part_of walk
destaged_without_a_write = bad_side (with_bytes firm_data A old_bytes) 0 A refl refl refl

-- A lost track is nowhere, and nothing is said of what it holds

abbrev lost_track : Own
lost_track = behind (stand 4 2 [] [] []) (FailSide A ∷ [])

lost_track_is_sound : SoundAt lost_track 0
unfolding all_do play all_happen steps_of works copies hold answer after is_in with_number less_one counted
    least count_below command_of empty_bytes areas_at zero_at next_at records_at reading over settled side_lost
    cache_lost store_lost all_firm_told waits hear all_told level_bytes image choose write_first write_second
    write_done through write second_part work look follow command second background lose start_fault start reset
    power part_of walk
lost_track_is_sound = record { marks = refl; loose = via _ _ false refl refl; held = tt }
