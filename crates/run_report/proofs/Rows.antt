-- What is computed of these reports, from the definitions alone.
use Rattle.std.proofs.Common.{◌≡◌, ◌∷◌, ◌++◌, List, [], true, map, refl}
use Rattle.std.specs.Fmt.{digits}
use Rattle.std.specs.Prelude.{replicate}
use Rattle.ckd_types.specs.Commands.{command_of}
use Rattle.track_table.specs.Tracks.{least, count_below}
use Rattle.deck_text.specs.Keywords.{head_of, event_word_of}
use Rattle.deck_text.specs.Forms.{is_one}
use Rattle.device_outside.specs.Lists.{is_in, with_number, less_one}
use Rattle.device_outside.specs.Pool.{answer, after}
use Rattle.device_outside.specs.Volume.{counted}
use Rattle.device_outside.specs.Told.{hold}
use Rattle.hex.specs.Hex.{decode_pairs, encode_with}
use Rattle.device_defs.specs.Background.{work}
use Rattle.device_defs.specs.Choosing.{choose}
use Rattle.device_defs.specs.Command.{look, follow, command}
use Rattle.device_defs.specs.Cutting.{reset, power}
use Rattle.device_defs.specs.Events.{second, background, lose}
use Rattle.device_defs.specs.Image.{level_bytes, image}
use Rattle.device_defs.specs.Losses.{over, settled, side_lost, cache_lost, store_lost, all_firm_told}
use Rattle.device_defs.specs.Orders.{lend}
use Rattle.device_defs.specs.Owed.{waits, hear, all_told}
use Rattle.device_defs.specs.Second.{second_part}
use Rattle.device_defs.specs.Start.{start_fault, start}
use Rattle.device_defs.specs.Editing.{through, write}
use Rattle.device_defs.specs.Writing.{write_first, write_second, write_done}
use Rattle.report_text.specs.Lines.{text_of}
use Rattle.subsystem_defs.specs.Decks.{run_asked, run_asked_on}
use Rattle.subsystem_defs.specs.Deeds.{deed}
use Rattle.subsystem_defs.specs.Happening.{sweep, happens, replaced, unpaired}
use Rattle.subsystem_defs.specs.Lines.{steps, backs, line_logged, run_lines}
use Rattle.subsystem_defs.specs.Refusals.{pair_fault, unpair_fault, suspend_fault, resume_fault, fail_fault, replace_fault}
use Rattle.subsystem_defs.proofs.Runs.{
  held_side_leaves,
  loss_in_its_own_program,
  pair_outlives_a_side,
  program_is_cut,
  provisional_write_is_lost,
}
use Rattle.run_report.specs.Summed.{summary_of}
use Rattle.run_report.proofs.Stand.{Report, copied_tracks, is_shown, reported_text, run_by}
use Rattle.run_report.proofs.Reports.{
  checked_row,
  cut_row,
  destaged_row,
  drawn,
  fast_write_row,
  fault_row,
  first_deck,
  first_read_row,
  first_report,
  group_reserves,
  group_row,
  held_row,
  level_row,
  loose_row,
  lost_row,
  one_slot_row,
  pair_loss_row,
  pair_row,
  paths_row,
  power_cut_row,
  power_free_row,
  power_loose_row,
  power_on_two,
  power_row,
  read_fails_row,
  recovered_row,
  refused_row,
  reset_waits,
  second_row,
  shut_row,
  staged_row,
  through_row,
  two_losses_row,
  two_powers_row,
  unpaired_row,
  waiting_row,
}

-- one device: reads, fast writes, staging, calls that fail
pub of_one_device : Report (first_read_row ∷ fast_write_row ∷ one_slot_row ∷ staged_row ∷ fault_row ∷ read_fails_row ∷ [])
unfolding command_of least count_below is_in with_number less_one answer after counted hold work choose look follow
    command reset power second background lose level_bytes image over settled side_lost cache_lost store_lost
    all_firm_told waits hear all_told lend second_part start_fault start write_first write_second write_done through
    write pair_fault unpair_fault suspend_fault resume_fault fail_fault replace_fault deed sweep happens replaced
    unpaired steps backs line_logged run_lines run_asked_on text_of copied_tracks
    digits encode_with
of_one_device = refl

-- starts and resets
pub of_paths : Report (cut_row ∷ paths_row ∷ waiting_row ∷ group_row ∷ shut_row ∷ [])
unfolding command_of least count_below is_in with_number less_one answer after counted hold work choose look follow
    command reset power second background lose level_bytes image over settled side_lost cache_lost store_lost
    all_firm_told waits hear all_told lend second_part start_fault start write_first write_second write_done through
    write pair_fault unpair_fault suspend_fault resume_fault fail_fault replace_fault deed sweep happens replaced
    unpaired steps backs line_logged run_lines run_asked_on text_of copied_tracks
    digits encode_with
of_paths = refl

-- losses and repairs
pub of_losses : Report (recovered_row ∷ lost_row ∷ [])
unfolding command_of least count_below is_in with_number less_one answer after counted hold work choose look follow
    command reset power second background lose level_bytes image over settled side_lost cache_lost store_lost
    all_firm_told waits hear all_told lend second_part start_fault start write_first write_second write_done through
    write pair_fault unpair_fault suspend_fault resume_fault fail_fault replace_fault deed sweep happens replaced
    unpaired steps backs line_logged run_lines run_asked_on text_of copied_tracks
    digits encode_with
of_losses = refl

-- pairs and orders
pub of_pairs : Report (pair_row ∷ pair_loss_row ∷ held_row ∷ unpaired_row ∷ level_row ∷ refused_row ∷ second_row ∷ [])
unfolding command_of least count_below is_in with_number less_one answer after counted hold work choose look follow
    command reset power second background lose level_bytes image over settled side_lost cache_lost store_lost
    all_firm_told waits hear all_told lend second_part start_fault start write_first write_second write_done through
    write pair_fault unpair_fault suspend_fault resume_fault fail_fault replace_fault deed sweep happens replaced
    unpaired steps backs line_logged run_lines run_asked_on text_of copied_tracks
    digits encode_with
of_pairs = refl

-- data of cache fast write
pub of_loose_data : Report (loose_row ∷ destaged_row ∷ checked_row ∷ through_row ∷ two_losses_row ∷ [])
unfolding command_of least count_below is_in with_number less_one answer after counted hold work choose look follow
    command reset power second background lose level_bytes image over settled side_lost cache_lost store_lost
    all_firm_told waits hear all_told lend second_part start_fault start write_first write_second write_done through
    write pair_fault unpair_fault suspend_fault resume_fault fail_fault replace_fault deed sweep happens replaced
    unpaired steps backs line_logged run_lines run_asked_on text_of copied_tracks
    digits encode_with
of_loose_data = refl

-- losses of power
pub of_power : Report (power_row ∷ power_cut_row ∷ power_free_row ∷ power_loose_row ∷ two_powers_row ∷ [])
unfolding command_of least count_below is_in with_number less_one answer after counted hold work choose look follow
    command reset power second background lose level_bytes image over settled side_lost cache_lost store_lost
    all_firm_told waits hear all_told lend second_part start_fault start write_first write_second write_done through
    write pair_fault unpair_fault suspend_fault resume_fault fail_fault replace_fault deed sweep happens replaced
    unpaired steps backs line_logged run_lines run_asked_on text_of copied_tracks
    digits encode_with
of_power = refl

-- the text of a deck, and that of its report
pub of_a_text : reported_text first_deck ≡ first_report
unfolding command_of least count_below is_in with_number less_one answer after counted hold work choose look follow
    command reset power second background lose level_bytes image over settled side_lost cache_lost store_lost
    all_firm_told waits hear all_told lend second_part start_fault start write_first write_second write_done through
    write pair_fault unpair_fault suspend_fault resume_fault fail_fault replace_fault deed sweep happens replaced
    unpaired steps backs line_logged run_lines run_asked_on text_of copied_tracks
    digits encode_with head_of event_word_of is_one decode_pairs
of_a_text = refl

-- what is shown of each device's programs is what its history has
pub histories_are_shown : map is_shown (program_is_cut ∷ group_reserves ∷ pair_outlives_a_side ∷ held_side_leaves
    ∷ provisional_write_is_lost ∷ loss_in_its_own_program ∷ power_on_two ∷ reset_waits ∷ []) ≡ replicate 8 true
unfolding command_of least count_below is_in with_number less_one answer after counted hold work choose look follow
    command reset power second background lose level_bytes image over settled side_lost cache_lost store_lost
    all_firm_told waits hear all_told lend second_part start_fault start write_first write_second write_done through
    write pair_fault unpair_fault suspend_fault resume_fault fail_fault replace_fault deed sweep happens replaced
    unpaired steps backs line_logged run_lines run_asked_on text_of copied_tracks
    digits encode_with
histories_are_shown = refl

-- the reads are 30 copies and the look for a record, the writes 30 copies and the two parts of the destaging
pub of_a_drawn_program : summary_of (run_by drawn) ≡ record { programs = 1; commands = 6; checks = 0; reads = 31; writes = 32; lost = 0 }
unfolding command_of least count_below is_in with_number less_one answer after counted hold work choose look follow
    command reset power second background lose level_bytes image over settled side_lost cache_lost store_lost
    all_firm_told waits hear all_told lend second_part start_fault start write_first write_second write_done through
    write pair_fault unpair_fault suspend_fault resume_fault fail_fault replace_fault deed sweep happens replaced
    unpaired steps backs line_logged run_lines run_asked_on text_of copied_tracks
    digits encode_with
of_a_drawn_program = refl
