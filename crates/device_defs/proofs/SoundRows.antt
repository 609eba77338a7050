-- Known runs leave sound marks behind each of their events, and marks that are broken aren't sound.
use Rattle.std.proofs.Common.{◌≡◌, Bool, true, false, List, [], ◌∷◌, Some, None, refl}
use Rattle.std.specs.Prelude.{◌&&◌, ◌||◌, is_some}
use Rattle.std.specs.List.{list_all, range_with_len}
use Rattle.ckd_types.specs.Commands.{command_of}
use Rattle.ckd_types.specs.declared.paths.Side.TheVariants.{A}
use Rattle.track_table.specs.Tracks.{least, count_below}
use Rattle.device_outside.specs.Lists.{is_in, with_number, less_one}
use Rattle.device_outside.specs.Pool.{answer, after}
use Rattle.device_outside.specs.Volume.{counted}
use Rattle.device_outside.specs.Told.{hold}
use Rattle.device_defs.specs.Background.{work}
use Rattle.device_defs.specs.Choosing.{choose}
use Rattle.device_defs.specs.Command.{look, follow, command}
use Rattle.device_defs.specs.Contents.{by_plain}
use Rattle.device_defs.specs.Cutting.{reset, power}
use Rattle.device_defs.specs.Editing.{through, write}
use Rattle.device_defs.specs.Events.{second, background, lose}
use Rattle.device_defs.specs.Image.{level_bytes, image}
use Rattle.device_defs.specs.Losses.{over, settled, side_lost, cache_lost, store_lost, all_firm_told}
use Rattle.device_defs.specs.Marks.{MarksStore}
use Rattle.device_defs.specs.Orders.{lend}
use Rattle.device_defs.specs.Owed.{waits, hear, all_told}
use Rattle.device_defs.specs.Peek.{peek}
use Rattle.device_defs.specs.Second.{second_part}
use Rattle.device_defs.specs.Sound.{has_sound_marks}
use Rattle.device_defs.specs.Start.{start_fault, start}
use Rattle.device_defs.specs.Store.{with_frame, with_patch, with_stale, with_loose}
use Rattle.device_defs.specs.Writing.{write_first, write_second, write_done}
use Rattle.device_defs.proofs.Stand.{
  Event,
  FailSide,
  Run,
  Stand,
  all_happen,
  copies,
  go,
  happens,
  pair,
  read_zero,
  stand,
  steps_of,
  track_marks,
  works,
  write_zero,
}
use Rattle.device_defs.proofs.SecondRuns as Q
use Rattle.device_defs.proofs.MarkRuns as M
use Rattle.device_defs.proofs.Runs as R

-- all tracks of the device have sound marks, unless it is lent
abbrev is_sound : MarksStore → Bool
is_sound s = is_some s.lent || list_all (has_sound_marks by_plain s) (range_with_len 0 15)

-- before and behind each event
abbrev stays_sound : Stand → List Event → Bool
stays_sound s [] = is_sound s.device.store
stays_sound s (e ∷ es) = is_sound s.device.store && stays_sound (happens s e) es

abbrev run_sound : Run → Bool
run_sound r = stays_sound r.on r.events

runs_with_marks : list_all run_sound (
    M.marks_of_a_fast_write ∷ M.marks_of_a_loose_track ∷ M.marks_of_a_half_write ∷ M.marks_of_a_side_that_is_lost ∷
    M.marks_of_a_loose_half_write ∷ M.marks_of_a_held_side ∷ M.marks_of_a_loss_of_the_store ∷
    M.marks_of_a_loss_of_the_store_in_a_half_write ∷ M.marks_of_a_sequential_miss ∷ M.marks_of_a_hardened_track ∷ []) ≡ true
unfolding all_happen steps_of works hold answer after is_in with_number less_one counted least count_below
    command_of over settled side_lost cache_lost store_lost all_firm_told waits hear all_told level_bytes image
    choose write_first write_second write_done through write second_part work look follow command second background
    lose start_fault start reset power copies track_marks
runs_with_marks = refl

second_parts : list_all run_sound (
    Q.second_part_is_absent ∷ Q.absent_without_a_frame ∷ Q.absent_behind_a_reset ∷ Q.absent_behind_a_reset_without_a_frame
    ∷ Q.absent_by_itself ∷ Q.second_side_fails ∷ Q.second_part_without_a_side ∷ Q.bypass_drops_the_frame ∷
    Q.through_frees_the_slot ∷ Q.failed_write_of_one_volume ∷ Q.failed_write_without_a_frame ∷
    Q.loose_track_loses_its_side ∷ []) ≡ true
unfolding all_happen steps_of works hold answer after is_in with_number less_one counted least count_below
    command_of over settled side_lost cache_lost store_lost all_firm_told waits hear all_told level_bytes image
    choose write_first write_second write_done through write second_part work look follow command second background
    lose start_fault start reset power copies lend peek
second_parts = refl

losses : list_all run_sound (
    R.provisional_write_is_lost_with_the_cache ∷ R.provisional_write_is_destaged ∷ R.loss_in_its_own_program ∷
    R.other_write_hardens ∷ R.power_loss_leaves_the_patch ∷ R.power_loss_takes_loose_data ∷ R.side_lost_between_two_parts ∷
    R.reset_between_two_parts ∷ R.power_lost_between_two_parts ∷ R.both_sides_fail ∷ R.both_losses_lose_the_track ∷
    R.loose_track_is_destaged_to_both_sides ∷ R.lent_and_restored ∷ R.lent_device_keeps_its_loose_data ∷ R.no_side_is_up ∷ []) ≡ true
unfolding all_happen steps_of works hold answer after is_in with_number less_one counted least count_below
    command_of over settled side_lost cache_lost store_lost all_firm_told waits hear all_told level_bytes image
    choose write_first write_second write_done through write second_part work look follow command second background
    lose start_fault start reset power copies lend peek
losses = refl

-- Broken marks

abbrev behind : Stand → List Event → MarksStore
behind s events = (all_happen s events).device.store

abbrev read_track : MarksStore
read_track = behind (stand 4 2 [] [] (read_zero 0xc0 0 ∷ [])) (go 3)

abbrev fast_track : MarksStore
fast_track = behind (stand 4 2 [] [] (write_zero 0xc0 0 ∷ [])) (go 3)

abbrev loose_track : MarksStore
loose_track = behind (stand 4 2 [] [] (write_zero 0xc2 0 ∷ [])) (go 3)

abbrev half_track : MarksStore
half_track = behind (pair [] [] (write_zero 0xc1 0 ∷ [])) (go 3)

abbrev lost_track : MarksStore
lost_track = behind (stand 4 2 [] [] []) (FailSide A ∷ [])

-- each is sound as it is
they_are_sound : list_all is_sound (read_track ∷ fast_track ∷ loose_track ∷ half_track ∷ lost_track ∷ []) ≡ true
unfolding all_happen steps_of works hold answer after is_in with_number less_one counted least count_below
    command_of over settled side_lost cache_lost store_lost all_firm_told waits hear all_told level_bytes image
    choose write_first write_second write_done through write second_part work look follow command second background
    lose start_fault start reset power copies lend peek
they_are_sound = refl

-- and isn't once one mark of track 0 is wrong: the clean frame's side stale, or a patch beside it; no frame and no side; of a loose track a
-- patch, a clean frame, none, or a stale side; of a lost one a frame, a patch, or data of cache fast write; a half write's track that is loose
abbrev broken : List MarksStore
broken =
    with_stale read_track A 0 true ∷ with_patch read_track 0 (Some tt) ∷ with_loose read_track 0 true
    ∷ with_frame (with_stale fast_track A 0 true) 0 None
    ∷ with_patch loose_track 0 (Some tt) ∷ with_frame loose_track 0 (Some false) ∷ with_frame loose_track 0 None
    ∷ with_stale loose_track A 0 true
    ∷ with_frame lost_track 0 (Some true) ∷ with_patch lost_track 0 (Some tt) ∷ with_loose lost_track 0 true
    ∷ with_loose half_track 0 true ∷ []

abbrev some_sound : List MarksStore → Bool
some_sound [] = false
some_sound (s ∷ ss) = is_sound s || some_sound ss

none_is_sound : some_sound broken ≡ false
unfolding all_happen steps_of works hold answer after is_in with_number less_one counted least count_below
    command_of over settled side_lost cache_lost store_lost all_firm_told waits hear all_told level_bytes image
    choose write_first write_second write_done through write second_part work look follow command second background
    lose start_fault start reset power copies lend peek
none_is_sound = refl
