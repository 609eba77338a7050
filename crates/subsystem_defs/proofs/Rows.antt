-- What is computed of these runs, from the definitions alone.
use Rattle.std.proofs.Common.{◌≡◌, map, true, false, List, [], ◌∷◌, ◌++◌, refl}
use Rattle.std.specs.Prelude.{replicate}
use Rattle.ckd_types.specs.declared.paths.Side.TheVariants.{A, B}
use Rattle.ckd_types.specs.declared.channel.Note.TheVariants.{Plain, IncorrectLength}
use Rattle.plain_defs.specs.declared.journal.How.TheVariants.{Full, Cut, Checked}
use Rattle.deck_plan.specs.declared.event.EventLine.TheVariants as lines
use Rattle.deck_text.specs.DeckLines.{DeckLines}
use Rattle.device_defs.proofs.Stand.{Program, ResetOf, Other, formats_from, write_zero}
use Rattle.subsystem_defs.specs.Lines.{Asked}
use Rattle.ckd_types.specs.Commands.{command_of}
use Rattle.ckd_rules.specs.Walk.{walk}
use Rattle.plain_defs.specs.Program.{part_of}
use Rattle.track_table.specs.Tracks.{least, count_below}
use Rattle.device_outside.specs.Lists.{is_in, with_number, less_one}
use Rattle.device_outside.specs.Pool.{answer, after}
use Rattle.device_outside.specs.Volume.{counted}
use Rattle.device_outside.specs.Told.{hold}
use Rattle.device_defs.specs.Background.{work}
use Rattle.device_defs.specs.Choosing.{choose}
use Rattle.device_defs.specs.Command.{look, follow, command}
use Rattle.device_defs.specs.Cutting.{reset, power}
use Rattle.device_defs.specs.Events.{second, background, lose}
use Rattle.device_defs.specs.Image.{level_bytes, image}
use Rattle.device_defs.specs.Losses.{over, settled, side_lost, cache_lost, store_lost, all_firm_told}
use Rattle.device_defs.specs.Orders.{lend}
use Rattle.device_defs.specs.Owed.{waits, hear, all_told}
use Rattle.device_defs.specs.Second.{second_part}
use Rattle.device_defs.specs.Start.{start_fault, start}
use Rattle.device_defs.specs.Editing.{through, write}
use Rattle.device_defs.specs.Writing.{write_first, write_second, write_done}
use Rattle.subsystem_defs.specs.declared.event.Event.TheVariants as events
use Rattle.subsystem_defs.specs.Beside.{Loosened, Hardened, WentBack}
use Rattle.subsystem_defs.specs.Closing.{Counted, LentTo, handed_of}
use Rattle.subsystem_defs.specs.Decks.{run_asked, run_asked_on}
use Rattle.subsystem_defs.specs.Deeds.{deed}
use Rattle.subsystem_defs.specs.Happening.{sweep, happens, replaced, unpaired}
use Rattle.subsystem_defs.specs.Lines.{steps, backs, line_logged, run_lines}
use Rattle.subsystem_defs.specs.Calm.{is_calm}
use Rattle.subsystem_defs.specs.Promised.{are_explained, are_explained_from, miss_nothing}
use Rattle.subsystem_defs.specs.Refusals.{pair_fault, unpair_fault, suspend_fault, resume_fault, fail_fault, replace_fault}
use Rattle.subsystem_defs.proofs.Stand.{
  back,
  deck,
  go,
  is_whole_behind,
  line,
  settle,
  step,
  two,
  Show,
  copies,
  goes,
  ending_of,
  events_of,
  settled_goes,
  loose_by,
  items_by,
  volume,
  volumes_by,
  without_cause,
  fines,
  judged,
  notes_by,
  senses_by,
  behind_each,
  all_well,
  right,
}
use Rattle.subsystem_defs.proofs.Runs.{
  first_read,
  one_frame,
  modified_frame_stays,
  one_slot,
  fast_write_is_destaged,
  cache_is_repaired,
  store_is_lost_and_settled,
  track_is_lost,
  pair_is_written,
  pair_outlives_a_side,
  destaging_fails_once,
  tracks_are_staged,
  orders_are_refused,
  held_side_goes_on,
  held_side_leaves,
  stale_side_a_stays_paired,
  program_is_cut,
  paths_wait,
  provisional_write_is_lost,
  provisional_write_is_destaged,
  other_write_goes_through,
  power_leaves_the_patch,
  power_cuts_a_write,
  power_frees_the_device,
  power_takes_loose_data,
  twelve_formats,
  formats_go_through,
  bypass_loads_nothing,
  loss_in_its_own_program,
  end_of_the_cylinder,
  losses_without_repair,
  read_fails,
}

pub alone_shows : Show (
    first_read
    ∷ one_frame
    ∷ modified_frame_stays
    ∷ one_slot
    ∷ fast_write_is_destaged
    ∷ [])
unfolding command_of least count_below is_in with_number less_one answer after counted hold work choose look follow
    command reset power second background lose level_bytes image over settled side_lost cache_lost store_lost
    all_firm_told waits hear all_told lend second_part start_fault start write_first write_second write_done through
    write pair_fault unpair_fault suspend_fault resume_fault fail_fault replace_fault deed sweep happens replaced
    unpaired steps backs line_logged run_lines run_asked_on copies
alone_shows = refl

pub losses_show : Show (
    cache_is_repaired
    ∷ store_is_lost_and_settled
    ∷ track_is_lost
    ∷ [])
unfolding command_of least count_below is_in with_number less_one answer after counted hold work choose look follow
    command reset power second background lose level_bytes image over settled side_lost cache_lost store_lost
    all_firm_told waits hear all_told lend second_part start_fault start write_first write_second write_done through
    write pair_fault unpair_fault suspend_fault resume_fault fail_fault replace_fault deed sweep happens replaced
    unpaired steps backs line_logged run_lines run_asked_on copies
losses_show = refl

pub pairs_show : Show (
    pair_is_written
    ∷ pair_outlives_a_side
    ∷ held_side_goes_on
    ∷ held_side_leaves
    ∷ stale_side_a_stays_paired
    ∷ [])
unfolding command_of least count_below is_in with_number less_one answer after counted hold work choose look follow
    command reset power second background lose level_bytes image over settled side_lost cache_lost store_lost
    all_firm_told waits hear all_told lend second_part start_fault start write_first write_second write_done through
    write pair_fault unpair_fault suspend_fault resume_fault fail_fault replace_fault deed sweep happens replaced
    unpaired steps backs line_logged run_lines run_asked_on copies
pairs_show = refl

pub others_show : Show (
    destaging_fails_once
    ∷ tracks_are_staged
    ∷ orders_are_refused
    ∷ program_is_cut
    ∷ paths_wait
    ∷ [])
unfolding command_of least count_below is_in with_number less_one answer after counted hold work choose look follow
    command reset power second background lose level_bytes image over settled side_lost cache_lost store_lost
    all_firm_told waits hear all_told lend second_part start_fault start write_first write_second write_done through
    write pair_fault unpair_fault suspend_fault resume_fault fail_fault replace_fault deed sweep happens replaced
    unpaired steps backs line_logged run_lines run_asked_on copies
others_show = refl

pub provisional_writes_show : Show (
    provisional_write_is_lost
    ∷ provisional_write_is_destaged
    ∷ other_write_goes_through
    ∷ [])
unfolding command_of least count_below is_in with_number less_one answer after counted hold work choose look follow
    command reset power second background lose level_bytes image over settled side_lost cache_lost store_lost
    all_firm_told waits hear all_told lend second_part start_fault start write_first write_second write_done through
    write pair_fault unpair_fault suspend_fault resume_fault fail_fault replace_fault deed sweep happens replaced
    unpaired steps backs line_logged run_lines run_asked_on copies
provisional_writes_show = refl

pub power_losses_show : Show (
    power_leaves_the_patch
    ∷ power_cuts_a_write
    ∷ power_frees_the_device
    ∷ power_takes_loose_data
    ∷ [])
unfolding command_of least count_below is_in with_number less_one answer after counted hold work choose look follow
    command reset power second background lose level_bytes image over settled side_lost cache_lost store_lost
    all_firm_told waits hear all_told lend second_part start_fault start write_first write_second write_done through
    write pair_fault unpair_fault suspend_fault resume_fault fail_fault replace_fault deed sweep happens replaced
    unpaired steps backs line_logged run_lines run_asked_on copies
power_losses_show = refl

-- more than two hundred events of a pair
pub many_events : ending_of (settled_goes 25)
    ≡ record { events = 242; ending = record { devices = Counted 0 16 65 [] ∷ LentTo 1 0 ∷ []; frames = ((0, 0), false) ∷ [] } }
unfolding command_of least count_below is_in with_number less_one answer after counted hold work choose look follow
    command reset power second background lose level_bytes image over settled side_lost cache_lost store_lost
    all_firm_told waits hear all_told lend second_part start_fault start write_first write_second write_done through
    write pair_fault unpair_fault suspend_fault resume_fault fail_fault replace_fault deed sweep happens replaced
    unpaired steps backs line_logged run_lines run_asked_on copies goes
many_events = refl

-- what was told of data of cache fast write
pub loose_data_are_told : map loose_by (provisional_write_is_lost ∷ provisional_write_is_destaged ∷ other_write_goes_through
    ∷ power_takes_loose_data ∷ [])
    ≡ (Loosened 0 ∷ WentBack 1 1 ∷ []) ∷ (Loosened 0 ∷ Hardened 0 ∷ []) ∷ (Loosened 0 ∷ Hardened 0 ∷ [])
    ∷ (Loosened 0 ∷ WentBack 1 1 ∷ []) ∷ []
unfolding command_of least count_below is_in with_number less_one answer after counted hold work choose look follow
    command reset power second background lose level_bytes image over settled side_lost cache_lost store_lost
    all_firm_told waits hear all_told lend second_part start_fault start write_first write_second write_done through
    write pair_fault unpair_fault suspend_fault resume_fault fail_fault replace_fault deed sweep happens replaced
    unpaired steps backs line_logged run_lines run_asked_on copies
loose_data_are_told = refl

-- and what came to journals
pub items_are_told : map items_by (track_is_lost ∷ program_is_cut ∷ power_cuts_a_write ∷ held_side_leaves ∷ [])
    ≡ (Program 1 Full ∷ Program 1 Checked ∷ []) ∷ (Program 1 (Cut 1) ∷ ResetOf 1 ∷ [])
    ∷ (Program 1 (Cut 3) ∷ Other ∷ Program 1 Full ∷ []) ∷ (Program 1 Full ∷ Other ∷ Program 1 Full ∷ []) ∷ []
unfolding command_of least count_below is_in with_number less_one answer after counted hold work choose look follow
    command reset power second background lose level_bytes image over settled side_lost cache_lost store_lost
    all_firm_told waits hear all_told lend second_part start_fault start write_first write_second write_done through
    write pair_fault unpair_fault suspend_fault resume_fault fail_fault replace_fault deed sweep happens replaced
    unpaired steps backs line_logged run_lines run_asked_on copies
items_are_told = refl

-- what is handed out
pub volumes_are_handed_out : map volumes_by (fast_write_is_destaged ∷ modified_frame_stays ∷ pair_outlives_a_side ∷ held_side_leaves ∷ [])
    ≡ (volume 0 A 1 1 (replicate 15 true) ∷ [])
    ∷ (volume 0 A 3 0 (false ∷ replicate 14 true) ∷ [])
    ∷ (volume 0 A 2 15 (replicate 15 true) ∷ volume 0 B 17 16 (replicate 15 false) ∷ [])
    ∷ (volume 0 A 16 1 (replicate 15 true) ∷ volume 1 A 1 0 (replicate 15 true) ∷ []) ∷ []
unfolding command_of least count_below is_in with_number less_one answer after counted hold work choose look follow
    command reset power second background lose level_bytes image over settled side_lost cache_lost store_lost
    all_firm_told waits hear all_told lend second_part start_fault start write_first write_second write_done through
    write pair_fault unpair_fault suspend_fault resume_fault fail_fault replace_fault deed sweep happens replaced
    unpaired steps backs line_logged run_lines run_asked_on copies handed_of
volumes_are_handed_out = refl

-- calm runs miss nothing
pub calm_runs : map judged (fast_write_is_destaged ∷ cache_is_repaired ∷ pair_is_written ∷ pair_outlives_a_side
    ∷ held_side_goes_on ∷ provisional_write_is_lost ∷ power_leaves_the_patch ∷ power_cuts_a_write ∷ power_takes_loose_data ∷ [])
    ≡ replicate 9 (right true false)
unfolding command_of least count_below is_in with_number less_one answer after counted hold work choose look follow
    command reset power second background lose level_bytes image over settled side_lost cache_lost store_lost
    all_firm_told waits hear all_told lend second_part start_fault start write_first write_second write_done through
    write pair_fault unpair_fault suspend_fault resume_fault fail_fault replace_fault deed sweep happens replaced
    unpaired steps backs line_logged run_lines run_asked_on copies is_calm are_explained_from miss_nothing
calm_runs = refl

-- others may
pub other_runs : map judged (store_is_lost_and_settled ∷ track_is_lost ∷ destaging_fails_once ∷ stale_side_a_stays_paired ∷ [])
    ≡ right false false ∷ right false true ∷ right false false ∷ right true false ∷ []
unfolding command_of least count_below is_in with_number less_one answer after counted hold work choose look follow
    command reset power second background lose level_bytes image over settled side_lost cache_lost store_lost
    all_firm_told waits hear all_told lend second_part start_fault start write_first write_second write_done through
    write pair_fault unpair_fault suspend_fault resume_fault fail_fault replace_fault deed sweep happens replaced
    unpaired steps backs line_logged run_lines run_asked_on copies is_calm are_explained_from miss_nothing part_of walk
other_runs = refl

-- one loss, before any event of a write to a pair
pub one_loss : map behind_each (events.FailCache ∷ events.FailStore ∷ events.FailVolume 0 A ∷ events.FailVolume 0 B ∷ [])
    ≡ replicate 4 (replicate 6 all_well)
unfolding command_of least count_below is_in with_number less_one answer after counted hold work choose look follow
    command reset power second background lose level_bytes image over settled side_lost cache_lost store_lost
    all_firm_told waits hear all_told lend second_part start_fault start write_first write_second write_done through
    write pair_fault unpair_fault suspend_fault resume_fault fail_fault replace_fault deed sweep happens replaced
    unpaired steps backs line_logged run_lines run_asked_on copies is_calm are_explained_from miss_nothing
one_loss = refl

-- formats and reads of them; a bypass; and what ends with unit check
pub formats_show : Show (twelve_formats ∷ formats_go_through ∷ bypass_loads_nothing ∷ [])
unfolding command_of least count_below is_in with_number less_one answer after counted hold work choose look follow
    command reset power second background lose level_bytes image over settled side_lost cache_lost store_lost
    all_firm_told waits hear all_told lend second_part start_fault start write_first write_second write_done through
    write pair_fault unpair_fault suspend_fault resume_fault fail_fault replace_fault deed sweep happens replaced
    unpaired steps backs line_logged run_lines run_asked_on copies formats_from fines
formats_show = refl

pub checks_show : Show (read_fails ∷ loss_in_its_own_program ∷ end_of_the_cylinder ∷ losses_without_repair ∷ [])
unfolding command_of least count_below is_in with_number less_one answer after counted hold work choose look follow
    command reset power second background lose level_bytes image over settled side_lost cache_lost store_lost
    all_firm_told waits hear all_told lend second_part start_fault start write_first write_second write_done through
    write pair_fault unpair_fault suspend_fault resume_fault fail_fault replace_fault deed sweep happens replaced
    unpaired steps backs line_logged run_lines run_asked_on copies
checks_show = refl

-- a length that is another is noted, unless that is suppressed
pub lengths_are_noted : notes_by twelve_formats
    ≡ replicate 19 Plain ++ IncorrectLength ∷ replicate 5 Plain ++ IncorrectLength ∷ []
unfolding command_of least count_below is_in with_number less_one answer after counted hold work choose look follow
    command reset power second background lose level_bytes image over settled side_lost cache_lost store_lost
    all_firm_told waits hear all_told lend second_part start_fault start write_first write_second write_done through
    write pair_fault unpair_fault suspend_fault resume_fault fail_fault replace_fault deed sweep happens replaced
    unpaired steps backs line_logged run_lines run_asked_on copies formats_from fines
lengths_are_noted = refl

-- the senses: equipment check, another number of cache fast write data, the end of the cylinder, file protected
pub senses_are_told : map senses_by (track_is_lost ∷ provisional_write_is_lost ∷ loss_in_its_own_program ∷ end_of_the_cylinder ∷ [])
    ≡ ((0x10 ∷ 0x80 ∷ 0 ∷ []) ∷ []) ∷ ((0x80 ∷ 0 ∷ 4 ∷ []) ∷ []) ∷ ((0x10 ∷ 0x80 ∷ 0 ∷ []) ∷ [])
    ∷ ((0 ∷ 0x20 ∷ 0 ∷ []) ∷ (0 ∷ 0x04 ∷ 0 ∷ []) ∷ []) ∷ []
unfolding command_of least count_below is_in with_number less_one answer after counted hold work choose look follow
    command reset power second background lose level_bytes image over settled side_lost cache_lost store_lost
    all_firm_told waits hear all_told lend second_part start_fault start write_first write_second write_done through
    write pair_fault unpair_fault suspend_fault resume_fault fail_fault replace_fault deed sweep happens replaced
    unpaired steps backs line_logged run_lines run_asked_on copies
senses_are_told = refl

pub checks_are_in_the_journal : map items_by (loss_in_its_own_program ∷ end_of_the_cylinder ∷ [])
    ≡ (Program 1 Checked ∷ []) ∷ (Program 1 Full ∷ Program 1 Full ∷ []) ∷ []
unfolding command_of least count_below is_in with_number less_one answer after counted hold work choose look follow
    command reset power second background lose level_bytes image over settled side_lost cache_lost store_lost
    all_firm_told waits hear all_told lend second_part start_fault start write_first write_second write_done through
    write pair_fault unpair_fault suspend_fault resume_fault fail_fault replace_fault deed sweep happens replaced
    unpaired steps backs line_logged run_lines run_asked_on copies
checks_are_in_the_journal = refl

-- a check behind a loss of the program's own data is explained, and counts as nothing missed; two losses without a repair aren't calm
pub other_judgements : map judged (loss_in_its_own_program ∷ end_of_the_cylinder ∷ losses_without_repair ∷ [])
    ≡ right true false ∷ right true false ∷ right false false ∷ []
unfolding command_of least count_below is_in with_number less_one answer after counted hold work choose look follow
    command reset power second background lose level_bytes image over settled side_lost cache_lost store_lost
    all_firm_told waits hear all_told lend second_part start_fault start write_first write_second write_done through
    write pair_fault unpair_fault suspend_fault resume_fault fail_fault replace_fault deed sweep happens replaced
    unpaired steps backs line_logged run_lines run_asked_on copies is_calm are_explained_from miss_nothing part_of walk
other_judgements = refl

-- a check behind a failed call is explained; were no call to fail in its event, it wouldn't be
pub check_without_a_cause : are_explained (events_of read_fails) ∷ are_explained (map without_cause (events_of read_fails)) ∷ [] ≡ true ∷ false ∷ []
unfolding command_of least count_below is_in with_number less_one answer after counted hold work choose look follow
    command reset power second background lose level_bytes image over settled side_lost cache_lost store_lost
    all_firm_told waits hear all_told lend second_part start_fault start write_first write_second write_done through
    write pair_fault unpair_fault suspend_fault resume_fault fail_fault replace_fault deed sweep happens replaced
    unpaired steps backs line_logged run_lines run_asked_on copies is_calm are_explained_from miss_nothing part_of walk
check_without_a_cause = refl

abbrev written : DeckLines
written = deck 4 2 (write_zero 0xc0 0 ∷ [])

abbrev two_sides : DeckLines
two_sides = two (write_zero 0xc1 0 ∷ [])

abbrev paired : List Asked
paired = line (lines.Pair 0 1) ++ settle

-- repaired or not: a new volume; a fast write; cache or store down; a track that waits for its recovery, and behind it; a volume that is lost
pub whole_volumes :
    is_whole_behind (deck 4 2 []) [] ∷ is_whole_behind written go ∷ is_whole_behind written (go ++ line lines.FailCache)
    ∷ is_whole_behind (deck 4 2 []) (line lines.FailStore) ∷ is_whole_behind (deck 4 2 []) (line lines.FailStore ++ line lines.RepairStore)
    ∷ is_whole_behind written (go ++ line lines.Power) ∷ is_whole_behind written (go ++ line lines.Power ++ back)
    ∷ is_whole_behind (deck 4 2 []) (line (lines.FailVolume 0 A)) ∷ []
    ≡ true ∷ true ∷ false ∷ false ∷ true ∷ false ∷ true ∷ false ∷ []
unfolding command_of least count_below is_in with_number less_one answer after counted hold work choose look follow
    command reset power second background lose level_bytes image over settled side_lost cache_lost store_lost
    all_firm_told waits hear all_told lend second_part start_fault start write_first write_second write_done through
    write pair_fault unpair_fault suspend_fault resume_fault fail_fault replace_fault deed sweep happens replaced
    unpaired steps backs line_logged run_lines run_asked_on copies is_calm are_explained_from miss_nothing
whole_volumes = refl

-- of a pair: while it is copied, and level; side B held, and going on; between the two parts of a write; a side lost, and replaced
pub whole_pairs :
    is_whole_behind two_sides (line (lines.Pair 0 1)) ∷ is_whole_behind two_sides paired ∷ is_whole_behind two_sides (paired ++ line (lines.Suspend 0))
    ∷ is_whole_behind two_sides (paired ++ line (lines.Suspend 0) ++ line (lines.Resume 0))
    ∷ is_whole_behind two_sides (paired ++ line (lines.Start 1 0) ++ step ++ step ++ step)
    ∷ is_whole_behind two_sides (paired ++ line (lines.FailVolume 0 B))
    ∷ is_whole_behind two_sides (paired ++ line (lines.FailVolume 0 B) ++ line (lines.Replace 0 B))
    ∷ is_whole_behind two_sides (paired ++ line (lines.FailVolume 0 B) ++ line (lines.Replace 0 B) ++ settle) ∷ []
    ≡ false ∷ true ∷ false ∷ true ∷ true ∷ false ∷ false ∷ true ∷ []
unfolding command_of least count_below is_in with_number less_one answer after counted hold work choose look follow
    command reset power second background lose level_bytes image over settled side_lost cache_lost store_lost
    all_firm_told waits hear all_told lend second_part start_fault start write_first write_second write_done through
    write pair_fault unpair_fault suspend_fault resume_fault fail_fault replace_fault deed sweep happens replaced
    unpaired steps backs line_logged run_lines run_asked_on copies is_calm are_explained_from miss_nothing
whole_pairs = refl
