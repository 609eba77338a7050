-- What is computed of these runs, from the definitions alone.
use Rattle.std.proofs.Common.{◌≡◌, true, false, [], ◌∷◌, ◌++◌, refl}
use Rattle.ckd_types.specs.Commands.{command_of}
use Rattle.plain_defs.specs.declared.journal.Act.TheVariants.{Loosen, CfwLost}
use Rattle.plain_defs.specs.declared.journal.How.TheVariants.{Full, Cut}
use Rattle.track_table.specs.Tracks.{least, count_below}
use Rattle.device_outside.specs.Lists.{is_in, with_number, less_one}
use Rattle.device_outside.specs.Pool.{answer, after}
use Rattle.device_outside.specs.Volume.{counted}
use Rattle.device_outside.specs.Told.{hold}
use Rattle.device_defs.specs.Background.{work}
use Rattle.device_defs.specs.Choosing.{choose}
use Rattle.device_defs.specs.Command.{look, follow, command}
use Rattle.device_defs.specs.Cutting.{reset, power}
use Rattle.device_defs.specs.Events.{second, background, lose}
use Rattle.device_defs.specs.Image.{level_bytes, image}
use Rattle.device_defs.specs.Losses.{over, settled, side_lost, cache_lost, store_lost, all_firm_told}
use Rattle.device_defs.specs.Orders.{lend}
use Rattle.device_defs.specs.Peek.{peek}
use Rattle.device_defs.specs.Owed.{waits, hear, all_told}
use Rattle.device_defs.specs.Second.{second_part}
use Rattle.device_defs.specs.Start.{start_fault, start}
use Rattle.device_defs.specs.Editing.{through, write}
use Rattle.device_defs.specs.Writing.{write_first, write_second, write_done}
use Rattle.device_defs.proofs.Stand.{
  FailCache,
  Program,
  Reset,
  ResetOf,
  Second,
  Show,
  Start,
  Suspend,
  Work,
  acts_of,
  all_happen,
  alone,
  copies,
  format_one,
  go,
  go_on,
  items_of,
  left_by,
  pair,
  pair_with,
  read_zero,
  stand,
  stand_with,
  steps_of,
  waiting_of,
  works,
  write_one,
  write_onward,
  write_zero,
  track_marks,
  formats_from,
  quiet_ends,
}
use Rattle.device_defs.proofs.SecondRuns.{
  second_part_is_absent,
  absent_without_a_frame,
  absent_behind_a_reset,
  absent_behind_a_reset_without_a_frame,
  absent_by_itself,
  second_side_fails,
  second_part_without_a_side,
  bypass_drops_the_frame,
  through_frees_the_slot,
  failed_write_of_one_volume,
  failed_write_without_a_frame,
  loose_track_loses_its_side,
}
use Rattle.device_defs.proofs.MarkRuns.{
  marks_of_a_fast_write,
  marks_of_a_loose_track,
  marks_of_a_half_write,
  marks_of_a_side_that_is_lost,
  marks_of_a_loose_half_write,
  marks_of_a_held_side,
  marks_of_a_loss_of_the_store,
  marks_of_a_loss_of_the_store_in_a_half_write,
  marks_of_a_sequential_miss,
  marks_of_a_hardened_track,
}
use Rattle.device_defs.proofs.Runs.{
  twelve_fast_formats,
  twelve_formats_go_through,
  large_patch_is_read,
  clean_frames_are_hits,
  fast_write_keeps_its_frame,
  cache_loss_leaves_the_patch,
  store_loss_then_cache_loss,
  both_losses_lose_the_track,
  destaging_fails_and_goes_again,
  sequential_reads_stage_ahead,
  bypass_loads_nothing,
  no_slot_writes_through,
  fast_write_is_destaged,
  provisional_write_is_lost_with_the_cache,
  provisional_write_is_destaged,
  loss_in_its_own_program,
  other_write_hardens,
  power_loss_leaves_the_patch,
  power_loss_takes_loose_data,
  joined_volume_is_copied,
  pair_is_written_in_two_events,
  side_lost_between_two_parts,
  held_side_is_copied_later,
  reset_between_two_parts,
  power_lost_between_two_parts,
  reset_leaves_a_background_half_write,
  both_sides_fail,
  loose_track_is_destaged_to_the_other_side,
  loose_track_is_destaged_to_both_sides,
  a_track_is_queued_twice,
  seek_and_read,
  another_path_waits_its_turn,
  group_holds_the_device,
  no_path_can_go_on,
  power_loss_frees_the_device,
  note_of_a_foreign_track,
  old_note_drops_a_new_frame,
  no_half_write_beside_a_loose_track,
  failed_read_and_write_of_the_other_side,
  power_lost_in_a_background_half_write,
  power_lost_in_a_cut_half_write,
  looks_past_the_channel,
  look_fails,
  look_at_a_half_write,
  lent_and_restored,
  split_pair_writes_once,
  look_at_a_loose_track,
  frame_of_a_failed_read_goes_last,
  slot_of_a_failed_read_comes_late,
  half_writes_frame_waits,
  half_writes_patch_waits,
  old_note_of_its_own_event,
  held_side_still_has_the_track,
  copies_from_a_held_side,
  copy_hardens_nothing,
  denied_frames_are_queued_too,
  failed_miss_queues_nothing,
  lent_device_keeps_its_loose_data,
  no_side_is_up,
  past_the_extent,
  another_group_is_kept_out,
}

-- one volume
volume_runs : Show (
    clean_frames_are_hits ∷ fast_write_keeps_its_frame ∷ cache_loss_leaves_the_patch ∷ store_loss_then_cache_loss
    ∷ both_losses_lose_the_track ∷ destaging_fails_and_goes_again ∷ sequential_reads_stage_ahead ∷
    bypass_loads_nothing ∷ no_slot_writes_through ∷ fast_write_is_destaged ∷ [])
unfolding all_happen steps_of works hold answer after is_in with_number less_one counted least count_below
    command_of over settled side_lost cache_lost store_lost all_firm_told waits hear all_told level_bytes image
    choose write_first write_second write_done through write second_part work look follow command second background
    lose start_fault start reset power copies
volume_runs = refl

-- data of cache fast write, and power
loose_runs : Show (
    provisional_write_is_lost_with_the_cache ∷ provisional_write_is_destaged ∷ loss_in_its_own_program ∷
    other_write_hardens ∷ power_loss_leaves_the_patch ∷ power_loss_takes_loose_data ∷ [])
unfolding all_happen steps_of works hold answer after is_in with_number less_one counted least count_below
    command_of over settled side_lost cache_lost store_lost all_firm_told waits hear all_told level_bytes image
    choose write_first write_second write_done through write second_part work look follow command second background
    lose start_fault start reset power copies
loose_runs = refl

-- pairs
pair_runs : Show (
    joined_volume_is_copied ∷ pair_is_written_in_two_events ∷ side_lost_between_two_parts ∷
    held_side_is_copied_later ∷ reset_between_two_parts ∷ power_lost_between_two_parts ∷
    reset_leaves_a_background_half_write ∷ both_sides_fail ∷ loose_track_is_destaged_to_the_other_side ∷
    loose_track_is_destaged_to_both_sides ∷ a_track_is_queued_twice ∷ [])
unfolding all_happen steps_of works hold answer after is_in with_number less_one counted least count_below
    command_of over settled side_lost cache_lost store_lost all_firm_told waits hear all_told level_bytes image
    choose write_first write_second write_done through write second_part work look follow command second background
    lose start_fault start reset power copies
pair_runs = refl

-- paths, notes, and what a failed call owes
path_runs : Show (
    seek_and_read ∷ another_path_waits_its_turn ∷ group_holds_the_device ∷ no_path_can_go_on ∷
    power_loss_frees_the_device ∷ note_of_a_foreign_track ∷ old_note_drops_a_new_frame ∷
    no_half_write_beside_a_loose_track ∷ failed_read_and_write_of_the_other_side ∷
    power_lost_in_a_background_half_write ∷ power_lost_in_a_cut_half_write ∷ past_the_extent ∷
    another_group_is_kept_out ∷ [])
unfolding all_happen steps_of works hold answer after is_in with_number less_one counted least count_below
    command_of over settled side_lost cache_lost store_lost all_firm_told waits hear all_told level_bytes image
    choose write_first write_second write_done through write second_part work look follow command second background
    lose start_fault start reset power copies
path_runs = refl

-- looks past the channel, and orders
look_runs : Show (
    looks_past_the_channel ∷ look_fails ∷ look_at_a_half_write ∷ lent_and_restored ∷ split_pair_writes_once ∷ look_at_a_loose_track ∷ [])
unfolding all_happen steps_of works hold answer after is_in with_number less_one counted least count_below
    command_of over settled side_lost cache_lost store_lost all_firm_told waits hear all_told level_bytes image
    choose write_first write_second write_done through write second_part work look follow command second background
    lose start_fault start reset power copies lend peek
look_runs = refl

-- in which order things are told, and what is left where
order_runs : Show (
    frame_of_a_failed_read_goes_last ∷ slot_of_a_failed_read_comes_late ∷ half_writes_frame_waits ∷
    half_writes_patch_waits ∷ old_note_of_its_own_event ∷ held_side_still_has_the_track ∷ copies_from_a_held_side
    ∷ copy_hardens_nothing ∷ denied_frames_are_queued_too ∷ failed_miss_queues_nothing ∷
    lent_device_keeps_its_loose_data ∷ no_side_is_up ∷ [])
unfolding all_happen steps_of works hold answer after is_in with_number less_one counted least count_below
    command_of over settled side_lost cache_lost store_lost all_firm_told waits hear all_told level_bytes image
    choose write_first write_second write_done through write second_part work look follow command second background
    lose start_fault start reset power copies lend peek
order_runs = refl

-- second parts, and what writes leave
second_runs : Show (
    second_part_is_absent ∷ absent_without_a_frame ∷ absent_behind_a_reset ∷ absent_behind_a_reset_without_a_frame
    ∷ absent_by_itself ∷ second_side_fails ∷ second_part_without_a_side ∷ bypass_drops_the_frame ∷
    through_frees_the_slot ∷ failed_write_of_one_volume ∷ failed_write_without_a_frame ∷
    loose_track_loses_its_side ∷ [])
unfolding all_happen steps_of works hold answer after is_in with_number less_one counted least count_below
    command_of over settled side_lost cache_lost store_lost all_firm_told waits hear all_told level_bytes image
    choose write_first write_second write_done through write second_part work look follow command second background
    lose start_fault start reset power copies lend peek
second_runs = refl

-- marks
mark_runs : Show (
    marks_of_a_fast_write ∷ marks_of_a_loose_track ∷ marks_of_a_half_write ∷ marks_of_a_side_that_is_lost ∷
    marks_of_a_loose_half_write ∷ marks_of_a_held_side ∷ marks_of_a_loss_of_the_store ∷
    marks_of_a_loss_of_the_store_in_a_half_write ∷ marks_of_a_sequential_miss ∷ marks_of_a_hardened_track ∷ [])
unfolding all_happen steps_of works hold answer after is_in with_number less_one counted least count_below
    command_of over settled side_lost cache_lost store_lost all_firm_told waits hear all_told level_bytes image
    choose write_first write_second write_done through write second_part work look follow command second background
    lose start_fault start reset power copies track_marks
mark_runs = refl

-- large records
large_runs : Show (twelve_fast_formats ∷ twelve_formats_go_through ∷ large_patch_is_read ∷ [])
unfolding all_happen steps_of works hold answer after is_in with_number less_one counted least count_below
    command_of over settled side_lost cache_lost store_lost all_firm_told waits hear all_told level_bytes image
    choose write_first write_second write_done through write second_part work look follow command second background
    lose start_fault start reset power copies formats_from quiet_ends
large_runs = refl

-- What some of them leave

-- behind a loss of the cache a patched track waits until it is recovered
patched_track_waits :
    waiting_of (stand 4 2 [] [] (write_zero 0xc0 0 ∷ [])) (go 3 ++ FailCache ∷ [])
    ∷ waiting_of (stand 4 2 [] [] (write_zero 0xc0 0 ∷ [])) (go 3 ++ FailCache ∷ Work ∷ []) ∷ []
    ≡ 1 ∷ 0 ∷ []
unfolding all_happen steps_of works hold answer after is_in with_number less_one counted least count_below
    command_of over settled side_lost cache_lost store_lost all_firm_told waits hear all_told level_bytes image
    choose write_first write_second write_done through write second_part work look follow command second background
    lose start_fault start reset power copies
patched_track_waits = refl

-- data of cache fast write became loose in their program, and were lost behind it
its_acts_are_in_the_journal :
    acts_of (stand 4 2 [] [] (write_zero 0xc2 0 ∷ [])) (go 3 ++ FailCache ∷ [])
    ≡ record { after = 2; act = Loosen 0 } ∷ record { after = 0; act = CfwLost } ∷ []
unfolding all_happen steps_of works hold answer after is_in with_number less_one counted least count_below
    command_of over settled side_lost cache_lost store_lost all_firm_told waits hear all_told level_bytes image
    choose write_first write_second write_done through write second_part work look follow command second background
    lose start_fault start reset power copies
its_acts_are_in_the_journal = refl

-- where both sides fail, the track is kept by its frame, which the pool has as modified, and all others are lost
what_both_failures_leave :
    left_by (all_happen (pair (1 ∷ []) (16 ∷ []) (write_zero 0xc1 0 ∷ [])) (go 3))
    ≡ record { lost = 14; frames = ((0, 0), true) ∷ []; waiting = 1 }
unfolding all_happen steps_of works hold answer after is_in with_number less_one counted least count_below
    command_of over settled side_lost cache_lost store_lost all_firm_told waits hear all_told level_bytes image
    choose write_first write_second write_done through write second_part work look follow command second background
    lose start_fault start reset power copies
what_both_failures_leave = refl

-- a loose track that side A took is clean, and doesn't wait
its_frame_is_clean_then :
    left_by (all_happen (pair [] [] (write_zero 0xc2 0 ∷ [])) (go 3 ++ Work ∷ []))
    ≡ record { lost = 0; frames = ((0, 0), false) ∷ []; waiting = 0 }
unfolding all_happen steps_of works hold answer after is_in with_number less_one counted least count_below
    command_of over settled side_lost cache_lost store_lost all_firm_told waits hear all_told level_bytes image
    choose write_first write_second write_done through write second_part work look follow command second background
    lose start_fault start reset power copies
its_frame_is_clean_then = refl

-- a reset cuts the program of its path behind one command
reset_cuts_its_program :
    items_of (stand 4 2 [] [] (read_zero 0xc0 0 ∷ [])) (go 1 ++ Reset 1 ∷ [])
    ≡ Program 1 (Cut 1) ∷ ResetOf 1 ∷ []
unfolding all_happen steps_of works hold answer after is_in with_number less_one counted least count_below
    command_of over settled side_lost cache_lost store_lost all_firm_told waits hear all_told level_bytes image
    choose write_first write_second write_done through write second_part work look follow command second background
    lose start_fault start reset power copies
reset_cuts_its_program = refl

-- a reset of another path that was used waits for the end of the program; one of a path that wasn't is none
reset_of_another_path_waits :
    items_of (stand_with 4 2 [] [] ((alone 0x03 1 [] ∷ []) ∷ (read_zero 0xc0 0 ∷ []) ∷ [] ∷ [] ∷ []))
    (go_on 1 1 ++ Start 2 ∷ Reset 1 ∷ Reset 4 ∷ steps_of 3)
    ≡ Program 1 Full ∷ Program 2 Full ∷ ResetOf 1 ∷ []
unfolding all_happen steps_of works hold answer after is_in with_number less_one counted least count_below
    command_of over settled side_lost cache_lost store_lost all_firm_told waits hear all_told level_bytes image
    choose write_first write_second write_done through write second_part work look follow command second background
    lose start_fault start reset power copies
reset_of_another_path_waits = refl

-- a half write of the command that is cut counts as done
reset_counts_a_half_write_as_done :
    items_of (pair [] [] (write_zero 0xc1 0 ∷ [])) (go 3 ++ Reset 1 ∷ [])
    ≡ Program 1 (Cut 3) ∷ ResetOf 1 ∷ []
unfolding all_happen steps_of works hold answer after is_in with_number less_one counted least count_below
    command_of over settled side_lost cache_lost store_lost all_firm_told waits hear all_told level_bytes image
    choose write_first write_second write_done through write second_part work look follow command second background
    lose start_fault start reset power copies
reset_counts_a_half_write_as_done = refl

-- a failed read leaves track 1 to its frame, and the same command writes it to the other side: the pool isn't told that it is modified
debt_of_a_frame_that_is_clean_again :
    left_by (all_happen (pair_with (17 ∷ []) [] [] (format_one 0xc1 1 ∷ write_one ∷ write_onward 0xc1 ∷ []))
    (go 3 ++ Second ∷ Suspend ∷ [] ++ go 3 ++ go 3))
    ≡ record { lost = 0; frames = ((0, 0), false) ∷ ((0, 1), false) ∷ []; waiting = 0 }
unfolding all_happen steps_of works hold answer after is_in with_number less_one counted least count_below
    command_of over settled side_lost cache_lost store_lost all_firm_told waits hear all_told level_bytes image
    choose write_first write_second write_done through write second_part work look follow command second background
    lose start_fault start reset power copies
debt_of_a_frame_that_is_clean_again = refl
