-- By its own events a device shows the same as the step over marks; and what its keeper hears.
use Rattle.std.proofs.Common.{◌≡◌, ℕ, List, [], ◌∷◌, ◌++◌, refl}
use Rattle.std.specs.Prelude.{replicate}
use Rattle.ckd_types.specs.Commands.{command_of}
use Rattle.track_image.specs.Reading.{areas_at, zero_at, next_at, records_at, reading}
use Rattle.track_table.specs.Tracks.{least, count_below}
use Rattle.device_outside.specs.Disk.{empty_bytes}
use Rattle.device_outside.specs.Lists.{is_in, with_number, less_one}
use Rattle.device_outside.specs.Pool.{answer, after}
use Rattle.device_outside.specs.Told.{hold}
use Rattle.device_outside.specs.Volume.{counted}
use Rattle.device_defs.specs.declared.answers.Did.TheVariants.{Destaged}
use Rattle.device_defs.specs.Background.{work}
use Rattle.device_defs.specs.Choosing.{choose}
use Rattle.device_defs.specs.Command.{look, follow, command}
use Rattle.device_defs.specs.Cutting.{reset, power}
use Rattle.device_defs.specs.Events.{second, background, lose}
use Rattle.device_defs.specs.Image.{level_bytes, image}
use Rattle.device_defs.specs.Losses.{over, settled, side_lost, cache_lost, store_lost, all_firm_told}
use Rattle.device_defs.specs.Orders.{lend}
use Rattle.device_defs.specs.Peek.{peek}
use Rattle.device_defs.specs.Owed.{waits, hear, all_told}
use Rattle.device_defs.specs.Second.{second_part}
use Rattle.device_defs.specs.Start.{start_fault, start}
use Rattle.device_defs.specs.Editing.{through, write}
use Rattle.device_defs.specs.Writing.{write_first, write_second, write_done}
use Rattle.device_defs.proofs.Stand.{
  Back,
  End,
  Lacking,
  Line,
  Start,
  Started,
  Work,
  all_happen,
  copies,
  formats_from,
  new_data,
  old_data,
  quiet,
  quiet_ends,
  stand,
  steps_of,
  track_marks,
  works,
  write_zero,
}
use Rattle.device_defs.proofs.SecondRuns.{
  second_part_is_absent,
  absent_without_a_frame,
  absent_behind_a_reset,
  absent_behind_a_reset_without_a_frame,
  absent_by_itself,
  second_side_fails,
  second_part_without_a_side,
  bypass_drops_the_frame,
  through_frees_the_slot,
  failed_write_of_one_volume,
  failed_write_without_a_frame,
  loose_track_loses_its_side,
}
use Rattle.device_defs.proofs.MarkRuns.{
  marks_of_a_fast_write,
  marks_of_a_loose_track,
  marks_of_a_half_write,
  marks_of_a_side_that_is_lost,
  marks_of_a_loose_half_write,
  marks_of_a_held_side,
  marks_of_a_loss_of_the_store,
  marks_of_a_loss_of_the_store_in_a_half_write,
  marks_of_a_sequential_miss,
  marks_of_a_hardened_track,
}
use Rattle.device_defs.proofs.Runs.{
  twelve_fast_formats,
  twelve_formats_go_through,
  large_patch_is_read,
  clean_frames_are_hits,
  fast_write_keeps_its_frame,
  cache_loss_leaves_the_patch,
  store_loss_then_cache_loss,
  both_losses_lose_the_track,
  destaging_fails_and_goes_again,
  sequential_reads_stage_ahead,
  bypass_loads_nothing,
  no_slot_writes_through,
  fast_write_is_destaged,
  provisional_write_is_lost_with_the_cache,
  provisional_write_is_destaged,
  loss_in_its_own_program,
  other_write_hardens,
  power_loss_leaves_the_patch,
  power_loss_takes_loose_data,
  side_lost_between_two_parts,
  reset_between_two_parts,
  power_lost_between_two_parts,
  loose_track_is_destaged_to_the_other_side,
  no_half_write_beside_a_loose_track,
  failed_read_and_write_of_the_other_side,
  power_lost_in_a_background_half_write,
  power_lost_in_a_cut_half_write,
  looks_past_the_channel,
  look_fails,
  look_at_a_half_write,
  lent_and_restored,
  split_pair_writes_once,
  look_at_a_loose_track,
  frame_of_a_failed_read_goes_last,
  slot_of_a_failed_read_comes_late,
  half_writes_frame_waits,
  half_writes_patch_waits,
  old_note_of_its_own_event,
  held_side_still_has_the_track,
  copies_from_a_held_side,
  copy_hardens_nothing,
  denied_frames_are_queued_too,
  failed_miss_queues_nothing,
  lent_device_keeps_its_loose_data,
  no_side_is_up,
  joined_volume_is_copied,
  pair_is_written_in_two_events,
  held_side_is_copied_later,
  reset_leaves_a_background_half_write,
  both_sides_fail,
  loose_track_is_destaged_to_both_sides,
  a_track_is_queued_twice,
  seek_and_read,
  another_path_waits_its_turn,
  group_holds_the_device,
  no_path_can_go_on,
  power_loss_frees_the_device,
  note_of_a_foreign_track,
  old_note_drops_a_new_frame,
  past_the_extent,
  another_group_is_kept_out,
}
use Rattle.device_defs.proofs.Own.{Before, IsFirm, play, all_do, OwnShow, heard_in, lacking_at}

-- one volume
own_volume_runs : OwnShow (
    clean_frames_are_hits ∷ fast_write_keeps_its_frame ∷ cache_loss_leaves_the_patch ∷ store_loss_then_cache_loss
    ∷ both_losses_lose_the_track ∷ destaging_fails_and_goes_again ∷ sequential_reads_stage_ahead ∷
    bypass_loads_nothing ∷ no_slot_writes_through ∷ fast_write_is_destaged ∷ [])
unfolding all_do play all_happen steps_of works copies hold answer after is_in with_number less_one counted
    least count_below command_of empty_bytes areas_at zero_at next_at records_at reading over settled side_lost
    cache_lost store_lost all_firm_told waits hear all_told level_bytes image choose write_first write_second
    write_done through write second_part work look follow command second background lose start_fault start reset
    power
own_volume_runs = refl

-- data of cache fast write, and power
own_loose_runs : OwnShow (
    provisional_write_is_lost_with_the_cache ∷ provisional_write_is_destaged ∷ loss_in_its_own_program ∷
    other_write_hardens ∷ power_loss_leaves_the_patch ∷ power_loss_takes_loose_data ∷ [])
unfolding all_do play all_happen steps_of works copies hold answer after is_in with_number less_one counted
    least count_below command_of empty_bytes areas_at zero_at next_at records_at reading over settled side_lost
    cache_lost store_lost all_firm_told waits hear all_told level_bytes image choose write_first write_second
    write_done through write second_part work look follow command second background lose start_fault start reset
    power
own_loose_runs = refl

-- pairs
own_pair_runs : OwnShow (
    side_lost_between_two_parts ∷ reset_between_two_parts ∷ power_lost_between_two_parts ∷
    loose_track_is_destaged_to_the_other_side ∷ no_half_write_beside_a_loose_track ∷
    failed_read_and_write_of_the_other_side ∷ power_lost_in_a_background_half_write ∷
    power_lost_in_a_cut_half_write ∷ [])
unfolding all_do play all_happen steps_of works copies hold answer after is_in with_number less_one counted
    least count_below command_of empty_bytes areas_at zero_at next_at records_at reading over settled side_lost
    cache_lost store_lost all_firm_told waits hear all_told level_bytes image choose write_first write_second
    write_done through write second_part work look follow command second background lose start_fault start reset
    power
own_pair_runs = refl

-- looks past the channel, and orders
own_look_runs : OwnShow (
    looks_past_the_channel ∷ look_fails ∷ look_at_a_half_write ∷ lent_and_restored ∷ split_pair_writes_once ∷ look_at_a_loose_track ∷ [])
unfolding all_do play all_happen steps_of works copies hold answer after is_in with_number less_one counted
    least count_below command_of empty_bytes areas_at zero_at next_at records_at reading over settled side_lost
    cache_lost store_lost all_firm_told waits hear all_told level_bytes image choose write_first write_second
    write_done through write second_part work look follow command second background lose start_fault start reset
    power lend peek
own_look_runs = refl

-- in which order things are told, and what is left where
own_order_runs : OwnShow (
    frame_of_a_failed_read_goes_last ∷ slot_of_a_failed_read_comes_late ∷ half_writes_frame_waits ∷
    half_writes_patch_waits ∷ old_note_of_its_own_event ∷ held_side_still_has_the_track ∷ copies_from_a_held_side
    ∷ copy_hardens_nothing ∷ denied_frames_are_queued_too ∷ failed_miss_queues_nothing ∷
    lent_device_keeps_its_loose_data ∷ no_side_is_up ∷ [])
unfolding all_do play all_happen steps_of works copies hold answer after is_in with_number less_one counted
    least count_below command_of empty_bytes areas_at zero_at next_at records_at reading over settled side_lost
    cache_lost store_lost all_firm_told waits hear all_told level_bytes image choose write_first write_second
    write_done through write second_part work look follow command second background lose start_fault start reset
    power lend peek
own_order_runs = refl

-- second parts, and what writes leave
own_second_runs : OwnShow (
    second_part_is_absent ∷ absent_without_a_frame ∷ absent_behind_a_reset ∷ absent_behind_a_reset_without_a_frame
    ∷ absent_by_itself ∷ second_side_fails ∷ second_part_without_a_side ∷ bypass_drops_the_frame ∷
    through_frees_the_slot ∷ failed_write_of_one_volume ∷ failed_write_without_a_frame ∷
    loose_track_loses_its_side ∷ [])
unfolding all_do play all_happen steps_of works copies hold answer after is_in with_number less_one counted
    least count_below command_of empty_bytes areas_at zero_at next_at records_at reading over settled side_lost
    cache_lost store_lost all_firm_told waits hear all_told level_bytes image choose write_first write_second
    write_done through write second_part work look follow command second background lose start_fault start reset
    power lend peek
own_second_runs = refl

-- marks
own_mark_runs : OwnShow (
    marks_of_a_fast_write ∷ marks_of_a_loose_track ∷ marks_of_a_half_write ∷ marks_of_a_side_that_is_lost ∷
    marks_of_a_loose_half_write ∷ marks_of_a_held_side ∷ marks_of_a_loss_of_the_store ∷
    marks_of_a_loss_of_the_store_in_a_half_write ∷ marks_of_a_sequential_miss ∷ marks_of_a_hardened_track ∷ [])
unfolding all_do play all_happen steps_of works copies hold answer after is_in with_number less_one counted
    least count_below command_of empty_bytes areas_at zero_at next_at records_at reading over settled side_lost
    cache_lost store_lost all_firm_told waits hear all_told level_bytes image choose write_first write_second
    write_done through write second_part work look follow command second background lose start_fault start reset
    power track_marks
own_mark_runs = refl

-- large records, and back from the volume
own_large_runs : OwnShow (twelve_fast_formats ∷ twelve_formats_go_through ∷ large_patch_is_read ∷ [])
unfolding all_do play all_happen steps_of works copies hold answer after is_in with_number less_one counted
    least count_below command_of empty_bytes areas_at zero_at next_at records_at reading over settled side_lost
    cache_lost store_lost all_firm_told waits hear all_told level_bytes image choose write_first write_second
    write_done through write second_part work look follow command second background lose start_fault start reset
    power formats_from quiet_ends
own_large_runs = refl

-- the other ones
own_other_runs : OwnShow (
    joined_volume_is_copied ∷ pair_is_written_in_two_events ∷ held_side_is_copied_later ∷
    reset_leaves_a_background_half_write ∷ both_sides_fail ∷ loose_track_is_destaged_to_both_sides ∷
    a_track_is_queued_twice ∷ seek_and_read ∷ another_path_waits_its_turn ∷ group_holds_the_device ∷
    no_path_can_go_on ∷ power_loss_frees_the_device ∷ note_of_a_foreign_track ∷ old_note_drops_a_new_frame ∷ past_the_extent ∷
    another_group_is_kept_out ∷ [])
unfolding all_do play all_happen steps_of works copies hold answer after is_in with_number less_one counted
    least count_below command_of empty_bytes areas_at zero_at next_at records_at reading over settled side_lost
    cache_lost store_lost all_firm_told waits hear all_told level_bytes image choose write_first write_second
    write_done through write second_part work look follow command second background lose start_fault start reset
    power lend peek
own_other_runs = refl

-- What a keeper hears

-- of a fast write the keeper hears the track before it, and the new one; destaging changes nothing
fast_write_is_heard : heard_in fast_write_is_destaged ≡ Before 0 old_data ∷ IsFirm 0 new_data ∷ []
unfolding all_do play all_happen steps_of works copies hold answer after is_in with_number less_one counted
    least count_below command_of empty_bytes areas_at zero_at next_at records_at reading over settled side_lost
    cache_lost store_lost all_firm_told waits hear all_told level_bytes image choose write_first write_second
    write_done through write second_part work look follow command second background lose start_fault start reset
    power lend peek
fast_write_is_heard = refl

-- of data of cache fast write it hears the new track once that is firm
provisional_write_is_heard : heard_in provisional_write_is_destaged ≡ Before 0 old_data ∷ IsFirm 0 new_data ∷ []
unfolding all_do play all_happen steps_of works copies hold answer after is_in with_number less_one counted
    least count_below command_of empty_bytes areas_at zero_at next_at records_at reading over settled side_lost
    cache_lost store_lost all_firm_told waits hear all_told level_bytes image choose write_first write_second
    write_done through write second_part work look follow command second background lose start_fault start reset
    power lend peek
provisional_write_is_heard = refl

-- and never where they are lost
lost_data_are_not_heard : heard_in power_loss_takes_loose_data ≡ Before 0 old_data ∷ []
unfolding all_do play all_happen steps_of works copies hold answer after is_in with_number less_one counted
    least count_below command_of empty_bytes areas_at zero_at next_at records_at reading over settled side_lost
    cache_lost store_lost all_firm_told waits hear all_told level_bytes image choose write_first write_second
    write_done through write second_part work look follow command second background lose start_fault start reset
    power lend peek
lost_data_are_not_heard = refl

-- a write that goes through makes a loose track firm first
loose_track_is_heard_twice : heard_in other_write_hardens
    ≡ Before 0 old_data ∷ Before 0 new_data ∷ IsFirm 0 new_data ∷ IsFirm 0 (replicate 8 0x55) ∷ []
unfolding all_do play all_happen steps_of works copies hold answer after is_in with_number less_one counted
    least count_below command_of empty_bytes areas_at zero_at next_at records_at reading over settled side_lost
    cache_lost store_lost all_firm_told waits hear all_told level_bytes image choose write_first write_second
    write_done through write second_part work look follow command second background lose start_fault start reset
    power lend peek
loose_track_is_heard_twice = refl

-- a write in two parts that was cut is firm from the reset on
cut_write_is_heard : heard_in reset_between_two_parts ≡ Before 0 old_data ∷ IsFirm 0 new_data ∷ []
unfolding all_do play all_happen steps_of works copies hold answer after is_in with_number less_one counted
    least count_below command_of empty_bytes areas_at zero_at next_at records_at reading over settled side_lost
    cache_lost store_lost all_firm_told waits hear all_told level_bytes image choose write_first write_second
    write_done through write second_part work look follow command second background lose start_fault start reset
    power lend peek
cut_write_is_heard = refl

-- a write that is given to nothing isn't heard
write_to_nothing_is_not_heard : heard_in no_side_is_up ≡ []
unfolding all_do play all_happen steps_of works copies hold answer after is_in with_number less_one counted
    least count_below command_of empty_bytes areas_at zero_at next_at records_at reading over settled side_lost
    cache_lost store_lost all_firm_told waits hear all_told level_bytes image choose write_first write_second
    write_done through write second_part work look follow command second background lose start_fault start reset
    power lend peek
write_to_nothing_is_not_heard = refl

-- one that fails is heard before it
failed_write_is_heard : heard_in held_side_still_has_the_track ≡ Before 0 old_data ∷ []
unfolding all_do play all_happen steps_of works copies hold answer after is_in with_number less_one counted
    least count_below command_of empty_bytes areas_at zero_at next_at records_at reading over settled side_lost
    cache_lost store_lost all_firm_told waits hear all_told level_bytes image choose write_first write_second
    write_done through write second_part work look follow command second background lose start_fault start reset
    power lend peek
failed_write_is_heard = refl

-- a write in two parts that a power loss cuts is firm
power_loss_is_heard : heard_in power_lost_between_two_parts ≡ Before 0 old_data ∷ IsFirm 0 new_data ∷ []
unfolding all_do play all_happen steps_of works copies hold answer after is_in with_number less_one counted
    least count_below command_of empty_bytes areas_at zero_at next_at records_at reading over settled side_lost
    cache_lost store_lost all_firm_told waits hear all_told level_bytes image choose write_first write_second
    write_done through write second_part work look follow command second background lose start_fault start reset
    power lend peek
power_loss_is_heard = refl

-- Where memory is lacking once in a fast write's program, on a device of one frame and one slot: the command that lacked it is done
-- again, and what it took is given back

abbrev lacking : ℕ → List Line
lacking n = lacking_at n (stand 1 1 [] [] (write_zero 0xc0 0 ∷ [])) (Start 1 ∷ steps_of 4 ++ Work ∷ [])

-- before the first command
first_command_is_done_again : lacking 1 ≡ Started 1 ∷ Lacking ∷ quiet 0 0 ∷ quiet 1 1 ∷ End 2 0x0c [] 0 0 ∷ Back (Destaged 0) 0 1 ∷ []
unfolding all_do play all_happen steps_of works copies hold answer after is_in with_number less_one counted
    least count_below command_of empty_bytes areas_at zero_at next_at records_at reading over settled side_lost
    cache_lost store_lost all_firm_told waits hear all_told level_bytes image choose write_first write_second
    write_done through write second_part work look follow command second background lose start_fault start reset
    power lend peek
first_command_is_done_again = refl

-- for its end
answer_is_made_again : lacking 2 ≡ Started 1 ∷ Lacking ∷ quiet 0 0 ∷ quiet 1 1 ∷ End 2 0x0c [] 0 0 ∷ Back (Destaged 0) 0 1 ∷ []
unfolding all_do play all_happen steps_of works copies hold answer after is_in with_number less_one counted
    least count_below command_of empty_bytes areas_at zero_at next_at records_at reading over settled side_lost
    cache_lost store_lost all_firm_told waits hear all_told level_bytes image choose write_first write_second
    write_done through write second_part work look follow command second background lose start_fault start reset
    power lend peek
answer_is_made_again = refl

-- for the image of the track that was read
track_is_read_again : lacking 4 ≡ Started 1 ∷ quiet 0 0 ∷ Lacking ∷ quiet 1 1 ∷ End 2 0x0c [] 0 0 ∷ Back (Destaged 0) 0 1 ∷ []
unfolding all_do play all_happen steps_of works copies hold answer after is_in with_number less_one counted
    least count_below command_of empty_bytes areas_at zero_at next_at records_at reading over settled side_lost
    cache_lost store_lost all_firm_told waits hear all_told level_bytes image choose write_first write_second
    write_done through write second_part work look follow command second background lose start_fault start reset
    power lend peek
track_is_read_again = refl

-- for its frame
frame_is_wanted_again : lacking 5 ≡ Started 1 ∷ quiet 0 0 ∷ Lacking ∷ quiet 1 1 ∷ End 2 0x0c [] 0 0 ∷ Back (Destaged 0) 0 1 ∷ []
unfolding all_do play all_happen steps_of works copies hold answer after is_in with_number less_one counted
    least count_below command_of empty_bytes areas_at zero_at next_at records_at reading over settled side_lost
    cache_lost store_lost all_firm_told waits hear all_told level_bytes image choose write_first write_second
    write_done through write second_part work look follow command second background lose start_fault start reset
    power lend peek
frame_is_wanted_again = refl

-- for the step behind it: its frame stays
loaded_track_is_a_hit_then : lacking 6 ≡ Started 1 ∷ quiet 0 0 ∷ Lacking ∷ quiet 1 0 ∷ End 2 0x0c [] 0 0 ∷ Back (Destaged 0) 0 1 ∷ []
unfolding all_do play all_happen steps_of works copies hold answer after is_in with_number less_one counted
    least count_below command_of empty_bytes areas_at zero_at next_at records_at reading over settled side_lost
    cache_lost store_lost all_firm_told waits hear all_told level_bytes image choose write_first write_second
    write_done through write second_part work look follow command second background lose start_fault start reset
    power lend peek
loaded_track_is_a_hit_then = refl

-- for the edit
edit_is_made_again : lacking 9 ≡ Started 1 ∷ quiet 0 0 ∷ quiet 1 1 ∷ Lacking ∷ End 2 0x0c [] 0 0 ∷ Back (Destaged 0) 0 1 ∷ []
unfolding all_do play all_happen steps_of works copies hold answer after is_in with_number less_one counted
    least count_below command_of empty_bytes areas_at zero_at next_at records_at reading over settled side_lost
    cache_lost store_lost all_firm_told waits hear all_told level_bytes image choose write_first write_second
    write_done through write second_part work look follow command second background lose start_fault start reset
    power lend peek
edit_is_made_again = refl

-- by the keeper: the slot that the write had is given back
slot_is_given_back : lacking 10 ≡ Started 1 ∷ quiet 0 0 ∷ quiet 1 1 ∷ Lacking ∷ End 2 0x0c [] 0 0 ∷ Back (Destaged 0) 0 1 ∷ []
unfolding all_do play all_happen steps_of works copies hold answer after is_in with_number less_one counted
    least count_below command_of empty_bytes areas_at zero_at next_at records_at reading over settled side_lost
    cache_lost store_lost all_firm_told waits hear all_told level_bytes image choose write_first write_second
    write_done through write second_part work look follow command second background lose start_fault start reset
    power lend peek
slot_is_given_back = refl
