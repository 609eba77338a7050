-- Over the bytes of both sides a known pair is sound, also between the two parts of a write; and one of which a side, a frame or what is being
-- written is wrong isn't.
use Rattle.std.proofs.Common.{true, false, [], ◌∷◌, ◌++◌, None, refl}
use Rattle.ckd_types.specs.Commands.{command_of}
use Rattle.ckd_types.specs.declared.paths.Side.TheVariants.{A, B}
use Rattle.ckd_rules.specs.Walk.{walk}
use Rattle.plain_defs.specs.Program.{part_of}
use Rattle.track_image.specs.Reading.{areas_at, zero_at, next_at, records_at, reading}
use Rattle.track_table.specs.Tracks.{least, count_below}
use Rattle.device_outside.specs.Disk.{empty_bytes}
use Rattle.device_outside.specs.Lists.{is_in, with_number, less_one}
use Rattle.device_outside.specs.Pool.{answer, after}
use Rattle.device_outside.specs.Told.{hold}
use Rattle.device_outside.specs.Volume.{counted}
use Rattle.device_defs.specs.Background.{work}
use Rattle.device_defs.specs.Choosing.{choose}
use Rattle.device_defs.specs.Command.{look, follow, command}
use Rattle.device_defs.specs.Cutting.{reset, power}
use Rattle.device_defs.specs.Editing.{through, write}
use Rattle.device_defs.specs.Events.{second, background, lose}
use Rattle.device_defs.specs.Image.{level_bytes, image}
use Rattle.device_defs.specs.Losses.{over, settled, side_lost, cache_lost, store_lost, all_firm_told}
use Rattle.device_defs.specs.Owed.{waits, hear, all_told}
use Rattle.device_defs.specs.Second.{second_part}
use Rattle.device_defs.specs.Start.{start_fault, start}
use Rattle.device_defs.specs.Store.{with_frame, with_patch, with_stale}
use Rattle.device_defs.specs.Writing.{write_first, write_second, write_done}
use Rattle.device_defs.proofs.Held.{
  SoundAt,
  bad_frame,
  bad_half_frame,
  bad_half_image,
  bad_half_side,
  bad_side,
  behind,
  frame_of,
  half_sound_by,
  new_bytes,
  new_image,
  old_bytes,
  old_image,
  sound_by,
  with_bytes,
  with_half_image,
  with_own,
}
use Rattle.device_defs.proofs.Own.{Own, all_do, play}
use Rattle.device_defs.proofs.Stand.{
  FailSide,
  Reset,
  Second,
  Suspend,
  Work,
  all_happen,
  copies,
  go,
  pair,
  steps_of,
  works,
  write_zero,
}

-- A fast write leaves both sides as they were

abbrev fast_track : Own
fast_track = behind (pair [] [] (write_zero 0xc0 0 ∷ [])) (go 3)

fast_write : SoundAt fast_track 0
unfolding all_do play all_happen steps_of works copies hold answer after is_in with_number less_one counted
    least count_below command_of empty_bytes areas_at zero_at next_at records_at reading over settled side_lost
    cache_lost store_lost all_firm_told waits hear all_told level_bytes image choose write_first write_second
    write_done through write second_part work look follow command second background lose start_fault start reset
    power part_of walk
fast_write = sound_by fast_track 0 false new_image new_image refl refl

-- a modified frame without a patch, while both sides count
modified_frame_alone : SoundAt (with_own fast_track (with_patch fast_track.device.store 0 None)) 0 → ⊥
unfolding all_do play all_happen steps_of works copies hold answer after is_in with_number less_one counted
    least count_below command_of empty_bytes areas_at zero_at next_at records_at reading over settled side_lost
    cache_lost store_lost all_firm_told waits hear all_told level_bytes image choose write_first write_second
    write_done through write second_part work look follow command second background lose start_fault start reset
    power part_of walk
modified_frame_alone = bad_side (with_own fast_track (with_patch fast_track.device.store 0 None)) 0 B refl refl refl

-- A held side doesn't have what was written

abbrev held_track : Own
held_track = behind (pair [] [] (write_zero 0xc1 0 ∷ [])) (Suspend ∷ go 3)

write_beside_a_held_side : SoundAt held_track 0
unfolding all_do play all_happen steps_of works copies hold answer after is_in with_number less_one counted
    least count_below command_of empty_bytes areas_at zero_at next_at records_at reading over settled side_lost
    cache_lost store_lost all_firm_told waits hear all_told level_bytes image choose write_first write_second
    write_done through write second_part work look follow command second background lose start_fault start reset
    power part_of walk
write_beside_a_held_side = sound_by held_track 0 false new_image new_image refl refl

-- its stale track counts
stale_track_counts : SoundAt (with_own held_track (with_stale held_track.device.store B 0 false)) 0 → ⊥
unfolding all_do play all_happen steps_of works copies hold answer after is_in with_number less_one counted
    least count_below command_of empty_bytes areas_at zero_at next_at records_at reading over settled side_lost
    cache_lost store_lost all_firm_told waits hear all_told level_bytes image choose write_first write_second
    write_done through write second_part work look follow command second background lose start_fault start reset
    power part_of walk
stale_track_counts = bad_side (with_own held_track (with_stale held_track.device.store B 0 false)) 0 B refl refl refl

-- Between the two parts of a command's write side A has the new track, and the frame is the old one

abbrev half_track : Own
half_track = behind (pair [] [] (write_zero 0xc1 0 ∷ [])) (go 3)

half_write_of_a_command : SoundAt half_track 0
unfolding all_do play all_happen steps_of works copies hold answer after is_in with_number less_one counted
    least count_below command_of empty_bytes areas_at zero_at next_at records_at reading over settled side_lost
    cache_lost store_lost all_firm_told waits hear all_told level_bytes image choose write_first write_second
    write_done through write second_part work look follow command second background lose start_fault start reset
    power part_of walk
half_write_of_a_command = half_sound_by half_track 0 old_image new_image new_bytes refl refl

-- side A has the old one
first_part_that_never_came : SoundAt (with_bytes half_track A old_bytes) 0 → ⊥
unfolding all_do play all_happen steps_of works copies hold answer after is_in with_number less_one counted
    least count_below command_of empty_bytes areas_at zero_at next_at records_at reading over settled side_lost
    cache_lost store_lost all_firm_told waits hear all_told level_bytes image choose write_first write_second
    write_done through write second_part work look follow command second background lose start_fault start reset
    power part_of walk
first_part_that_never_came = bad_half_side (with_bytes half_track A old_bytes) 0 A refl refl refl

-- side B counts already
second_part_that_never_came : SoundAt (with_own half_track (with_stale half_track.device.store B 0 false)) 0 → ⊥
unfolding all_do play all_happen steps_of works copies hold answer after is_in with_number less_one counted
    least count_below command_of empty_bytes areas_at zero_at next_at records_at reading over settled side_lost
    cache_lost store_lost all_firm_told waits hear all_told level_bytes image choose write_first write_second
    write_done through write second_part work look follow command second background lose start_fault start reset
    power part_of walk
second_part_that_never_came = bad_half_side (with_own half_track (with_stale half_track.device.store B 0 false)) 0 B refl refl refl

-- what is kept of the write is the old track
half_write_of_the_old_track : SoundAt (with_half_image half_track old_image) 0 → ⊥
unfolding all_do play all_happen steps_of works copies hold answer after is_in with_number less_one counted
    least count_below command_of empty_bytes areas_at zero_at next_at records_at reading over settled side_lost
    cache_lost store_lost all_firm_told waits hear all_told level_bytes image choose write_first write_second
    write_done through write second_part work look follow command second background lose start_fault start reset
    power part_of walk
half_write_of_the_old_track = bad_half_image (with_half_image half_track old_image) 0 refl refl refl

-- the frame is the new one before the command ends
frame_before_its_end : SoundAt (with_own half_track (with_frame half_track.device.store 0 (frame_of new_image false))) 0 → ⊥
unfolding all_do play all_happen steps_of works copies hold answer after is_in with_number less_one counted
    least count_below command_of empty_bytes areas_at zero_at next_at records_at reading over settled side_lost
    cache_lost store_lost all_firm_told waits hear all_told level_bytes image choose write_first write_second
    write_done through write second_part work look follow command second background lose start_fault start reset
    power part_of walk
frame_before_its_end = bad_half_frame (with_own half_track (with_frame half_track.device.store 0 (frame_of new_image false))) 0 refl refl refl

-- Once the command is cut, its write is done on the plain volume, and the frame counts for nothing

abbrev cut_track : Own
cut_track = behind (pair [] [] (write_zero 0xc1 0 ∷ [])) (go 3 ++ Reset 1 ∷ [])

half_write_of_a_cut_command : SoundAt cut_track 0
unfolding all_do play all_happen steps_of works copies hold answer after is_in with_number less_one counted
    least count_below command_of empty_bytes areas_at zero_at next_at records_at reading over settled side_lost
    cache_lost store_lost all_firm_told waits hear all_told level_bytes image choose write_first write_second
    write_done through write second_part work look follow command second background lose start_fault start reset
    power part_of walk
half_write_of_a_cut_command = half_sound_by cut_track 0 new_image new_image new_bytes refl refl

abbrev beside_an_old_frame : Own
beside_an_old_frame = with_own cut_track (with_frame cut_track.device.store 0 (frame_of old_image true))

-- even one of the old track
any_frame_of_a_cut_command : SoundAt beside_an_old_frame 0
unfolding all_do play all_happen steps_of works copies hold answer after is_in with_number less_one counted
    least count_below command_of empty_bytes areas_at zero_at next_at records_at reading over settled side_lost
    cache_lost store_lost all_firm_told waits hear all_told level_bytes image choose write_first write_second
    write_done through write second_part work look follow command second background lose start_fault start reset
    power part_of walk
any_frame_of_a_cut_command = half_sound_by beside_an_old_frame 0 new_image new_image new_bytes refl refl

-- what is kept of it is the old track
cut_write_of_the_old_track : SoundAt (with_half_image cut_track old_image) 0 → ⊥
unfolding all_do play all_happen steps_of works copies hold answer after is_in with_number less_one counted
    least count_below command_of empty_bytes areas_at zero_at next_at records_at reading over settled side_lost
    cache_lost store_lost all_firm_told waits hear all_told level_bytes image choose write_first write_second
    write_done through write second_part work look follow command second background lose start_fault start reset
    power part_of walk
cut_write_of_the_old_track = bad_half_image (with_half_image cut_track old_image) 0 refl refl refl

-- side A has the old one
cut_write_that_never_came : SoundAt (with_bytes cut_track A old_bytes) 0 → ⊥
unfolding all_do play all_happen steps_of works copies hold answer after is_in with_number less_one counted
    least count_below command_of empty_bytes areas_at zero_at next_at records_at reading over settled side_lost
    cache_lost store_lost all_firm_told waits hear all_told level_bytes image choose write_first write_second
    write_done through write second_part work look follow command second background lose start_fault start reset
    power part_of walk
cut_write_that_never_came = bad_half_side (with_bytes cut_track A old_bytes) 0 A refl refl refl

-- A destaging writes the plain track, which is the frame's

abbrev destaged_track : Own
destaged_track = behind (pair [] [] (write_zero 0xc0 0 ∷ [])) (go 3 ++ Work ∷ [])

half_write_of_a_destaging : SoundAt destaged_track 0
unfolding all_do play all_happen steps_of works copies hold answer after is_in with_number less_one counted
    least count_below command_of empty_bytes areas_at zero_at next_at records_at reading over settled side_lost
    cache_lost store_lost all_firm_told waits hear all_told level_bytes image choose write_first write_second
    write_done through write second_part work look follow command second background lose start_fault start reset
    power part_of walk
half_write_of_a_destaging = half_sound_by destaged_track 0 new_image new_image new_bytes refl refl

-- the frame is another
other_frame_beside_a_destaging : SoundAt (with_own destaged_track (with_frame destaged_track.device.store 0 (frame_of old_image true))) 0 → ⊥
unfolding all_do play all_happen steps_of works copies hold answer after is_in with_number less_one counted
    least count_below command_of empty_bytes areas_at zero_at next_at records_at reading over settled side_lost
    cache_lost store_lost all_firm_told waits hear all_told level_bytes image choose write_first write_second
    write_done through write second_part work look follow command second background lose start_fault start reset
    power part_of walk
other_frame_beside_a_destaging = bad_half_frame (with_own destaged_track (with_frame destaged_track.device.store 0 (frame_of old_image true))) 0 refl refl refl

-- The side that took the first part is lost: no side has the track, and the second part may still write it

abbrev half_without_a_side : Own
half_without_a_side = behind (pair [] [] (write_zero 0xc1 0 ∷ [])) (go 3 ++ FailSide A ∷ [])

half_write_without_a_side : SoundAt half_without_a_side 0
unfolding all_do play all_happen steps_of works copies hold answer after is_in with_number less_one counted
    least count_below command_of empty_bytes areas_at zero_at next_at records_at reading over settled side_lost
    cache_lost store_lost all_firm_told waits hear all_told level_bytes image choose write_first write_second
    write_done through write second_part work look follow command second background lose start_fault start reset
    power part_of walk
half_write_without_a_side = half_sound_by half_without_a_side 0 old_image new_image new_bytes refl refl

-- Then the other side has it

abbrev written_by_b : Own
written_by_b = behind (pair [] [] (write_zero 0xc1 0 ∷ [])) (go 3 ++ FailSide A ∷ Second ∷ [])

write_of_the_other_side : SoundAt written_by_b 0
unfolding all_do play all_happen steps_of works copies hold answer after is_in with_number less_one counted
    least count_below command_of empty_bytes areas_at zero_at next_at records_at reading over settled side_lost
    cache_lost store_lost all_firm_told waits hear all_told level_bytes image choose write_first write_second
    write_done through write second_part work look follow command second background lose start_fault start reset
    power part_of walk
write_of_the_other_side = sound_by written_by_b 0 false new_image new_image refl refl

-- a second part that no side took
second_part_without_a_write : SoundAt (with_bytes written_by_b B old_bytes) 0 → ⊥
unfolding all_do play all_happen steps_of works copies hold answer after is_in with_number less_one counted
    least count_below command_of empty_bytes areas_at zero_at next_at records_at reading over settled side_lost
    cache_lost store_lost all_firm_told waits hear all_told level_bytes image choose write_first write_second
    write_done through write second_part work look follow command second background lose start_fault start reset
    power part_of walk
second_part_without_a_write = bad_side (with_bytes written_by_b B old_bytes) 0 B refl refl refl

-- the frame is the old one behind it
old_frame_behind_both_parts : SoundAt (with_own written_by_b (with_frame written_by_b.device.store 0 (frame_of old_image false))) 0 → ⊥
unfolding all_do play all_happen steps_of works copies hold answer after is_in with_number less_one counted
    least count_below command_of empty_bytes areas_at zero_at next_at records_at reading over settled side_lost
    cache_lost store_lost all_firm_told waits hear all_told level_bytes image choose write_first write_second
    write_done through write second_part work look follow command second background lose start_fault start reset
    power part_of walk
old_frame_behind_both_parts = bad_frame (with_own written_by_b (with_frame written_by_b.device.store 0 (frame_of old_image false))) 0 refl refl refl
