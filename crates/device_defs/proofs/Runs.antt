-- Runs of one device with real programs, and what each shows.
use Rattle.std.proofs.Common.{[], ◌∷◌, ◌++◌}
use Rattle.std.specs.Prelude.{replicate}
use Rattle.std.specs.Prelude.{drop}
use Rattle.ckd_types.specs.declared.paths.Owner.TheVariants.{Group, Path}
use Rattle.ckd_types.specs.declared.paths.Side.TheVariants.{A, B}
use Rattle.device_defs.specs.declared.answers.Did.TheVariants.{Nothing, Recovered, Copied, Staged, Skipped, Destaged, Fault}
use Rattle.device_defs.specs.declared.answers.Did.TheVariants as dids
use Rattle.device_defs.specs.declared.answers.StartFault.TheVariants.{Secondary, Busy, PlanDone, Shut, Reserved}
use Rattle.device_defs.specs.Peek.{Lost, Fault as LookFault}
use Rattle.device_defs.proofs.Stand.{
  Back,
  End,
  FailCache,
  FailSide,
  FailStore,
  Finished,
  Half,
  Join,
  Lend,
  Look,
  Note,
  Pending,
  Power,
  Refused,
  RepairCache,
  RepairStore,
  Repaired,
  Replace,
  Reset,
  Restore,
  Resume,
  Run,
  Second,
  Seen,
  Split,
  Start,
  Started,
  Step,
  Suspend,
  Unseen,
  Work,
  alone,
  copies,
  extent,
  format_one,
  go,
  go_on,
  group_name,
  group_plans,
  locate,
  new_data,
  numbered_extent,
  old_data,
  pair,
  pair_with,
  quiet,
  read_zero,
  stand,
  stand_with,
  steps_of,
  works,
  write_of,
  write_one,
  write_onward,
  write_zero,
  format_twelve,
  read_one,
  quiet_ends,
}

-- of one frame: a track is read once while it has the frame
abbrev pub clean_frames_are_hits : Run
clean_frames_are_hits = record {
  on = stand 1 0 [] [] (read_zero 0xc0 0 ∷ read_zero 0xc0 0 ∷ read_zero 0xc0 1 ∷ read_zero 0xc0 0 ∷ []);
  events = go 3 ++ go 3 ++ go 3 ++ go 3;
  shows =
      Started 1 ∷ quiet 0 0 ∷ quiet 1 1 ∷ End 2 0x0c old_data 0 0 ∷ []
      ++ Started 2 ∷ quiet 0 0 ∷ quiet 1 0 ∷ End 2 0x0c old_data 0 0 ∷ []
      ++ Started 3 ∷ quiet 0 0 ∷ quiet 1 1 ∷ End 2 0x0c old_data 0 0 ∷ []
      ++ Started 4 ∷ quiet 0 0 ∷ quiet 1 1 ∷ End 2 0x0c old_data 0 0 ∷ [];
}

-- of one frame and one slot: a fast write leaves no room for another track
abbrev pub fast_write_keeps_its_frame : Run
fast_write_keeps_its_frame = record {
  on = stand 1 1 [] [] (write_zero 0xc0 0 ∷ read_zero 0xc0 1 ∷ []);
  events = go 3 ++ go 3;
  shows =
      Started 1 ∷ quiet 0 0 ∷ quiet 1 1 ∷ End 2 0x0c [] 0 0 ∷ []
      ++ Started 2 ∷ quiet 0 0 ∷ quiet 1 1 ∷ End 2 0x0c old_data 1 0 ∷ [];
}

-- a fast write is read with its patch behind a loss of the cache, waits, and is recovered
abbrev pub cache_loss_leaves_the_patch : Run
cache_loss_leaves_the_patch = record {
  on = stand 4 2 [] [] (write_zero 0xc0 0 ∷ read_zero 0xc0 0 ∷ []);
  events = go 3 ++ FailCache ∷ [] ++ go 3 ++ Work ∷ Work ∷ [];
  shows =
      Started 1 ∷ quiet 0 0 ∷ quiet 1 1 ∷ End 2 0x0c [] 0 0 ∷ []
      ++ Started 2 ∷ quiet 0 0 ∷ quiet 1 1 ∷ End 2 0x0c new_data 1 0 ∷ []
      ++ Back (Recovered 0) 1 1 ∷ Back Nothing 0 0 ∷ [];
}

-- a loss of the store leaves the frame, which is recovered; then the cache may go
abbrev pub store_loss_then_cache_loss : Run
store_loss_then_cache_loss = record {
  on = stand 4 2 [] [] (write_zero 0xc0 0 ∷ read_zero 0xc0 0 ∷ []);
  events = go 3 ++ FailStore ∷ Work ∷ Work ∷ FailCache ∷ [] ++ go 3;
  shows =
      Started 1 ∷ quiet 0 0 ∷ quiet 1 1 ∷ End 2 0x0c [] 0 0 ∷ []
      ++ Back (Recovered 0) 0 1 ∷ Back Nothing 0 0 ∷ []
      ++ Started 2 ∷ quiet 0 0 ∷ quiet 1 1 ∷ End 2 0x0c new_data 1 0 ∷ [];
}

-- without that recovery the track is lost, and is not read
abbrev pub both_losses_lose_the_track : Run
both_losses_lose_the_track = record {
  on = stand 4 2 [] [] (write_zero 0xc0 0 ∷ read_zero 0xc0 0 ∷ []);
  events = go 3 ++ FailStore ∷ FailCache ∷ [] ++ go 2;
  shows =
      Started 1 ∷ quiet 0 0 ∷ quiet 1 1 ∷ End 2 0x0c [] 0 0 ∷ []
      ++ Started 2 ∷ quiet 0 0 ∷ End 1 0x0e [] 0 0 ∷ [];
}

-- a destaging fails, and the next one doesn't
abbrev pub destaging_fails_and_goes_again : Run
destaging_fails_and_goes_again = record {
  on = stand 4 2 [] (1 ∷ []) (write_zero 0xc0 0 ∷ read_zero 0xc0 0 ∷ []);
  events = go 3 ++ Work ∷ [] ++ go 3 ++ Work ∷ Work ∷ [];
  shows =
      Started 1 ∷ quiet 0 0 ∷ quiet 1 1 ∷ End 2 0x0c [] 0 0 ∷ []
      ++ Back (Fault A) 0 1 ∷ []
      ++ Started 2 ∷ quiet 0 0 ∷ quiet 1 0 ∷ End 2 0x0c new_data 0 0 ∷ []
      ++ Back (Destaged 0) 0 1 ∷ Back Nothing 0 0 ∷ [];
}

-- in sequential mode the two tracks behind a miss are staged
abbrev pub sequential_reads_stage_ahead : Run
sequential_reads_stage_ahead = record {
  on = stand 4 2 [] [] (read_zero 0xcc 0 ∷ []);
  events = go 3 ++ works 3;
  shows =
      Started 1 ∷ quiet 0 0 ∷ quiet 1 1 ∷ End 2 0x0c old_data 0 0 ∷ []
      ++ Back (Staged 1) 1 0 ∷ Back (Staged 2) 1 0 ∷ Back Nothing 0 0 ∷ [];
}

-- in bypass mode each look is a read
abbrev pub bypass_loads_nothing : Run
bypass_loads_nothing = record {
  on = stand 4 0 [] [] (read_zero 0xc4 0 ∷ []);
  events = go 3;
  shows =
      Started 1 ∷ quiet 0 0 ∷ quiet 1 1 ∷ End 2 0x0c old_data 1 0 ∷ [];
}

-- with the one slot taken the next write goes to the volume
abbrev pub no_slot_writes_through : Run
no_slot_writes_through = record {
  on = stand 4 1 [] [] (write_zero 0xc0 0 ∷ write_zero 0xc0 1 ∷ []);
  events = go 3 ++ go 3;
  shows =
      Started 1 ∷ quiet 0 0 ∷ quiet 1 1 ∷ End 2 0x0c [] 0 0 ∷ []
      ++ Started 2 ∷ quiet 0 0 ∷ quiet 1 1 ∷ End 2 0x0c [] 0 1 ∷ [];
}

-- a fast write is destaged
abbrev pub fast_write_is_destaged : Run
fast_write_is_destaged = record {
  on = stand 4 2 [] [] (write_zero 0xc0 0 ∷ []);
  events = go 3 ++ works 2;
  shows =
      Started 1 ∷ quiet 0 0 ∷ quiet 1 1 ∷ End 2 0x0c [] 0 0 ∷ []
      ++ Back (Destaged 0) 0 1 ∷ Back Nothing 0 0 ∷ [];
}

-- data of cache fast write go with the cache; the next program has the old number
abbrev pub provisional_write_is_lost_with_the_cache : Run
provisional_write_is_lost_with_the_cache = record {
  on = stand 4 2 [] [] (write_zero 0xc2 0 ∷ read_zero 0xc0 0 ∷ write_zero 0xc2 0 ∷ []);
  events = go 3 ++ FailCache ∷ [] ++ go 3 ++ go 1;
  shows =
      Started 1 ∷ quiet 0 0 ∷ quiet 1 1 ∷ End 2 0x0c [] 0 0 ∷ []
      ++ Started 2 ∷ quiet 0 0 ∷ quiet 1 1 ∷ End 2 0x0c old_data 1 0 ∷ []
      ++ Started 3 ∷ End 0 0x0e [] 0 0 ∷ [];
}

-- once data of cache fast write are destaged they stay
abbrev pub provisional_write_is_destaged : Run
provisional_write_is_destaged = record {
  on = stand 4 2 [] [] (write_zero 0xc2 0 ∷ read_zero 0xc0 0 ∷ []);
  events = go 3 ++ Work ∷ FailCache ∷ [] ++ go 3;
  shows =
      Started 1 ∷ quiet 0 0 ∷ quiet 1 1 ∷ End 2 0x0c [] 0 0 ∷ []
      ++ Back (Destaged 0) 0 1 ∷ []
      ++ Started 2 ∷ quiet 0 0 ∷ quiet 1 1 ∷ End 2 0x0c new_data 1 0 ∷ [];
}

-- a command behind a loss of its own program's data ends with equipment check
abbrev pub loss_in_its_own_program : Run
loss_in_its_own_program = record {
  on = stand 4 2 [] [] ((extent 0x80 0xc2 ∷ locate 1 1 0 0
      ∷ record { command = 0x85; flags = 0x40; count = 8; given = new_data }
      ∷ alone 0x03 1 []) ∷ []);
  events = go 3 ++ FailCache ∷ Step ∷ [];
  shows =
      Started 1 ∷ quiet 0 0 ∷ quiet 1 1 ∷ End 2 0x0c [] 0 0 ∷ []
      ++ End 3 0x0e [] 0 0 ∷ [];
}

-- a write of another kind on a loose track goes through
abbrev pub other_write_hardens : Run
other_write_hardens = record {
  on = stand 4 2 [] [] (write_zero 0xc2 0 ∷ write_of 0xc0 0 0 (replicate 8 0x55) ∷ read_zero 0xc0 0 ∷ []);
  events = go 3 ++ go 3 ++ FailCache ∷ [] ++ go 3;
  shows =
      Started 1 ∷ quiet 0 0 ∷ quiet 1 1 ∷ End 2 0x0c [] 0 0 ∷ []
      ++ Started 2 ∷ quiet 0 0 ∷ quiet 1 0 ∷ End 2 0x0c [] 0 1 ∷ []
      ++ Started 3 ∷ quiet 0 0 ∷ quiet 1 1 ∷ End 2 0x0c (replicate 8 0x55) 1 0 ∷ [];
}

-- a fast write outlives a power loss
abbrev pub power_loss_leaves_the_patch : Run
power_loss_leaves_the_patch = record {
  on = stand 4 2 [] [] (write_zero 0xc0 0 ∷ read_zero 0xc0 0 ∷ []);
  events = go 3 ++ Power ∷ [] ++ go 3;
  shows =
      Started 1 ∷ quiet 0 0 ∷ quiet 1 1 ∷ End 2 0x0c [] 0 0 ∷ []
      ++ Started 2 ∷ quiet 0 0 ∷ quiet 1 1 ∷ End 2 0x0c new_data 0 0 ∷ [];
}

-- data of cache fast write don't outlive it
abbrev pub power_loss_takes_loose_data : Run
power_loss_takes_loose_data = record {
  on = stand 4 2 [] [] (write_zero 0xc2 0 ∷ read_zero 0xc0 0 ∷ []);
  events = go 3 ++ Power ∷ [] ++ go 3;
  shows =
      Started 1 ∷ quiet 0 0 ∷ quiet 1 1 ∷ End 2 0x0c [] 0 0 ∷ []
      ++ Started 2 ∷ quiet 0 0 ∷ quiet 1 1 ∷ End 2 0x0c old_data 0 0 ∷ [];
}

-- a joined volume gets every track
abbrev pub joined_volume_is_copied : Run
joined_volume_is_copied = record {
  on = stand 4 2 [] [] [];
  events = Join [] [] ∷ works 16;
  shows =
      copies 15 ++ Back Nothing 0 0 ∷ [];
}

-- a write to both sides ends with the second one
abbrev pub pair_is_written_in_two_events : Run
pair_is_written_in_two_events = record {
  on = pair [] [] (write_zero 0xc1 0 ∷ []);
  events = go 3 ++ Second ∷ [];
  shows =
      Started 1 ∷ quiet 0 0 ∷ quiet 1 1 ∷ Half 0 0 1 ∷ []
      ++ End 2 0x0c [] 0 1 ∷ [];
}

-- the side that took the first part is lost, and the other one has the new data
abbrev pub side_lost_between_two_parts : Run
side_lost_between_two_parts = record {
  on = pair [] [] (write_zero 0xc1 0 ∷ read_zero 0xc4 0 ∷ read_zero 0xc4 0 ∷ []);
  events = go 3 ++ FailSide A ∷ Second ∷ [] ++ go 3 ++ Replace A ∷ works 16 ++ FailSide B ∷ [] ++ go 3;
  shows =
      Started 1 ∷ quiet 0 0 ∷ quiet 1 1 ∷ Half 0 0 1 ∷ []
      ++ End 2 0x0c [] 0 1 ∷ []
      ++ Started 2 ∷ quiet 0 0 ∷ quiet 1 1 ∷ End 2 0x0c new_data 1 0 ∷ []
      ++ copies 15 ++ Back Nothing 0 0 ∷ []
      ++ Started 3 ∷ quiet 0 0 ∷ quiet 1 1 ∷ End 2 0x0c new_data 1 0 ∷ [];
}

-- a held side is not written, and is copied when it goes on
abbrev pub held_side_is_copied_later : Run
held_side_is_copied_later = record {
  on = pair [] [] (write_zero 0xc1 0 ∷ []);
  events = Suspend ∷ [] ++ go 3 ++ Resume ∷ works 2;
  shows =
      Started 1 ∷ quiet 0 0 ∷ quiet 1 1 ∷ End 2 0x0c [] 0 1 ∷ Back (Copied 0) 1 1 ∷ Back Nothing 0 0 ∷ [];
}

-- a reset cuts the program, and the second part goes on by itself
abbrev pub reset_between_two_parts : Run
reset_between_two_parts = record {
  on = pair [] [] (write_zero 0xc1 0 ∷ read_zero 0xc4 0 ∷ []);
  events = go 3 ++ Reset 1 ∷ Second ∷ [] ++ go 3;
  shows =
      Started 1 ∷ quiet 0 0 ∷ quiet 1 1 ∷ Half 0 0 1 ∷ []
      ++ Finished 0 0 1 ∷ []
      ++ Started 2 ∷ quiet 0 0 ∷ quiet 1 1 ∷ End 2 0x0c new_data 1 0 ∷ [];
}

-- a power loss cuts the program, and the other side is copied
abbrev pub power_lost_between_two_parts : Run
power_lost_between_two_parts = record {
  on = pair [] [] (write_zero 0xc1 0 ∷ read_zero 0xc4 0 ∷ []);
  events = go 3 ++ Power ∷ works 2 ++ FailSide A ∷ [] ++ go 3;
  shows =
      Started 1 ∷ quiet 0 0 ∷ quiet 1 1 ∷ Half 0 0 1 ∷ []
      ++ Back (Copied 0) 1 1 ∷ Back Nothing 0 0 ∷ []
      ++ Started 2 ∷ quiet 0 0 ∷ quiet 1 1 ∷ End 2 0x0c new_data 1 0 ∷ [];
}

-- a reset leaves a half write of the background
abbrev pub reset_leaves_a_background_half_write : Run
reset_leaves_a_background_half_write = record {
  on = pair [] [] (write_zero 0xc0 0 ∷ []);
  events = go 3 ++ Work ∷ Reset 1 ∷ Second ∷ Work ∷ [];
  shows =
      Started 1 ∷ quiet 0 0 ∷ quiet 1 1 ∷ End 2 0x0c [] 0 0 ∷ []
      ++ Back (dids.Half 0) 0 1 ∷ Finished 0 0 1 ∷ Back Nothing 0 0 ∷ [];
}

-- both sides fail in one write: it is absent
abbrev pub both_sides_fail : Run
both_sides_fail = record {
  on = pair (1 ∷ []) (16 ∷ []) (write_zero 0xc1 0 ∷ []);
  events = go 3;
  shows =
      Started 1 ∷ quiet 0 0 ∷ quiet 1 1 ∷ End 2 0x0e [] 0 2 ∷ [];
}

-- a loose track is destaged while side A fails, and stays firm
abbrev pub loose_track_is_destaged_to_the_other_side : Run
loose_track_is_destaged_to_the_other_side = record {
  on = pair (1 ∷ []) [] (write_zero 0xc2 0 ∷ read_zero 0xc0 0 ∷ []);
  events = go 3 ++ Work ∷ FailCache ∷ [] ++ go 3;
  shows =
      Started 1 ∷ quiet 0 0 ∷ quiet 1 1 ∷ End 2 0x0c [] 0 0 ∷ []
      ++ Back (Fault A) 0 2 ∷ []
      ++ Started 2 ∷ quiet 0 0 ∷ quiet 1 1 ∷ End 2 0x0c new_data 1 0 ∷ [];
}

-- a loose track is firm and clean once side A has it
abbrev pub loose_track_is_destaged_to_both_sides : Run
loose_track_is_destaged_to_both_sides = record {
  on = pair [] [] (write_zero 0xc2 0 ∷ []);
  events = go 3 ++ Work ∷ [];
  shows =
      Started 1 ∷ quiet 0 0 ∷ quiet 1 1 ∷ End 2 0x0c [] 0 0 ∷ []
      ++ Back (dids.Half 0) 0 1 ∷ [];
}

-- a queue may have a track twice
abbrev pub a_track_is_queued_twice : Run
a_track_is_queued_twice = record {
  on = stand 8 0 [] [] (read_zero 0xcc 0 ∷ read_zero 0xcc 1 ∷ []);
  events = go 3 ++ go 3 ++ works 5;
  shows =
      Started 1 ∷ quiet 0 0 ∷ quiet 1 1 ∷ End 2 0x0c old_data 0 0 ∷ []
      ++ Started 2 ∷ quiet 0 0 ∷ quiet 1 1 ∷ End 2 0x0c old_data 0 0 ∷ []
      ++ Back (Skipped 1) 0 0 ∷ Back (Staged 2) 1 0 ∷ Back (Skipped 2) 0 0 ∷ Back (Staged 3) 1 0 ∷ Back Nothing 0 0 ∷ [];
}

-- without an extent a read that finds no record looks twice in its event
abbrev pub seek_and_read : Run
seek_and_read = record {
  on = stand 4 2 [] [] ((record { command = 0x07; flags = 0x40; count = 6; given = 0 ∷ 0 ∷ 0 ∷ 0 ∷ 0 ∷ 0x0d ∷ [] } ∷ alone 0x86 8 []) ∷ []);
  events = go 2;
  shows =
      Started 1 ∷ quiet 0 0 ∷ End 1 0x0e [] 2 0 ∷ [];
}

-- one program runs at a time, and a path has no more than it was given
abbrev pub another_path_waits_its_turn : Run
another_path_waits_its_turn = record {
  on = stand_with 4 2 [] [] ((read_zero 0xc0 0 ∷ []) ∷ (read_zero 0xc0 0 ∷ []) ∷ [] ∷ [] ∷ []);
  events = Start 1 ∷ Start 2 ∷ steps_of 3 ++ Start 2 ∷ Start 1 ∷ steps_of 3 ++ Start 1 ∷ [];
  shows =
      Started 1 ∷ Refused (Busy 1) ∷ quiet 0 0 ∷ quiet 1 1 ∷ End 2 0x0c old_data 0 0 ∷ []
      ++ Started 1 ∷ Refused (Busy 2) ∷ quiet 0 0 ∷ quiet 1 0 ∷ End 2 0x0c old_data 0 0 ∷ Refused PlanDone ∷ [];
}

-- a group holds the device: its paths are admitted, and no other, until one takes it by force; all is free behind its release
abbrev pub group_holds_the_device : Run
group_holds_the_device = record {
  on = stand_with 4 2 [] [] group_plans;
  events = go_on 1 1 ++ go_on 2 1 ++ go_on 1 1 ++ go_on 1 1 ++ go_on 2 1 ++ Start 4 ∷ go_on 3 1 ++ Start 2 ∷ go_on 3 1 ++ go_on 4 1;
  shows =
      Started 1 ∷ quiet 0 0 ∷ Started 1 ∷ quiet 0 0 ∷ Started 2 ∷ End 0 0x0c (replicate 32 0) 0 0 ∷ []
      ++ Started 3 ∷ End 0 0x0c (0xf8 ∷ group_name) 0 0 ∷ Started 2 ∷ quiet 0 0 ∷ Refused (Reserved (Group (record { bytes = group_name }))) ∷ []
      ++ Started 1 ∷ End 0 0x0c (replicate 32 0) 0 0 ∷ Refused (Reserved (Path 3)) ∷ []
      ++ Started 2 ∷ End 0 0x0c (replicate 32 0) 0 0 ∷ Started 1 ∷ quiet 0 0 ∷ [];
}

-- where the holder has no program left, no path can go on
abbrev pub no_path_can_go_on : Run
no_path_can_go_on = record {
  on = stand_with 4 2 [] [] ([] ∷ (alone 0x03 1 [] ∷ []) ∷ (alone 0x14 32 [] ∷ []) ∷ [] ∷ []);
  events = go_on 3 1 ++ Start 2 ∷ [];
  shows =
      Started 1 ∷ End 0 0x0c (replicate 32 0) 0 0 ∷ Refused (Shut (Path 3)) ∷ [];
}

-- a power loss frees the device
abbrev pub power_loss_frees_the_device : Run
power_loss_frees_the_device = record {
  on = stand_with 4 2 [] [] ((alone 0xb4 32 [] ∷ []) ∷ (alone 0x03 1 [] ∷ []) ∷ [] ∷ [] ∷ []);
  events = go_on 1 1 ++ Start 2 ∷ Power ∷ go_on 2 1;
  shows =
      Started 1 ∷ End 0 0x0c (replicate 32 0) 0 0 ∷ Refused (Shut (Path 1)) ∷ Started 1 ∷ quiet 0 0 ∷ [];
}

-- a note of a track that the device hasn't, or whose frame is modified, changes nothing
abbrev pub note_of_a_foreign_track : Run
note_of_a_foreign_track = record {
  on = stand 4 2 [] [] (write_zero 0xc0 0 ∷ read_zero 0xc0 0 ∷ []);
  events = go 3 ++ Note (900 ∷ 0 ∷ []) ∷ go 3;
  shows =
      Started 1 ∷ quiet 0 0 ∷ quiet 1 1 ∷ End 2 0x0c [] 0 0 ∷ []
      ++ Started 2 ∷ quiet 0 0 ∷ quiet 1 0 ∷ End 2 0x0c new_data 0 0 ∷ [];
}

-- a note that is older than the frame drops it, while the pool still lists it
abbrev pub old_note_drops_a_new_frame : Run
old_note_drops_a_new_frame = record {
  on = stand 4 2 [] [] (read_zero 0xc0 0 ∷ read_zero 0xc0 0 ∷ []);
  events = go 3 ++ Note (0 ∷ []) ∷ go 3;
  shows =
      Started 1 ∷ quiet 0 0 ∷ quiet 1 1 ∷ End 2 0x0c old_data 0 0 ∷ []
      ++ Started 2 ∷ quiet 0 0 ∷ quiet 1 1 ∷ End 2 0x0c old_data 0 0 ∷ [];
}

-- while another track of the command is loose, both sides are written in one event
abbrev pub no_half_write_beside_a_loose_track : Run
no_half_write_beside_a_loose_track = record {
  on = pair [] [] (format_one 0xc1 1 ∷ write_zero 0xc2 0 ∷ write_onward 0xc1 ∷ []);
  events = go 3 ++ Second ∷ [] ++ go 3 ++ go 3;
  shows =
      Started 1 ∷ quiet 0 0 ∷ quiet 1 1 ∷ Half 1 0 1 ∷ End 2 0x0c [] 0 1 ∷ []
      ++ Started 2 ∷ quiet 0 0 ∷ quiet 1 1 ∷ End 2 0x0c [] 0 0 ∷ []
      ++ Started 3 ∷ quiet 0 0 ∷ quiet 1 0 ∷ End 2 0x0c [] 0 2 ∷ [];
}

-- a command whose read of side A fails reads side B and writes it
abbrev pub failed_read_and_write_of_the_other_side : Run
failed_read_and_write_of_the_other_side = record {
  on = pair_with (17 ∷ []) [] [] (format_one 0xc1 1 ∷ write_one ∷ write_onward 0xc1 ∷ []);
  events = go 3 ++ Second ∷ Suspend ∷ [] ++ go 3 ++ go 3;
  shows =
      Started 1 ∷ quiet 0 0 ∷ quiet 1 1 ∷ Half 1 0 1 ∷ End 2 0x0c [] 0 1 ∷ []
      ++ Started 2 ∷ quiet 0 0 ∷ quiet 1 0 ∷ End 2 0x0c [] 0 1 ∷ []
      ++ Started 3 ∷ quiet 0 0 ∷ quiet 1 0 ∷ End 2 0x0c [] 2 1 ∷ [];
}

-- a power loss leaves the patch of a track that was being destaged, which is recovered
abbrev pub power_lost_in_a_background_half_write : Run
power_lost_in_a_background_half_write = record {
  on = pair [] [] (write_zero 0xc0 0 ∷ []);
  events = go 3 ++ Work ∷ Power ∷ Work ∷ Second ∷ Work ∷ [];
  shows =
      Started 1 ∷ quiet 0 0 ∷ quiet 1 1 ∷ End 2 0x0c [] 0 0 ∷ []
      ++ Back (dids.Half 0) 0 1 ∷ Back (dids.Half 0) 1 1 ∷ Finished 0 0 1 ∷ Back Nothing 0 0 ∷ [];
}

-- a power loss leaves what side A has of a write that was cut
abbrev pub power_lost_in_a_cut_half_write : Run
power_lost_in_a_cut_half_write = record {
  on = pair [] [] (write_zero 0xc1 0 ∷ []);
  events = go 3 ++ Reset 1 ∷ Power ∷ works 2;
  shows =
      Started 1 ∷ quiet 0 0 ∷ quiet 1 1 ∷ Half 0 0 1 ∷ []
      ++ Back (Copied 0) 1 1 ∷ Back Nothing 0 0 ∷ [];
}

-- a look past the channel reads a track with its patch and loads nothing; a clean frame is read no more
abbrev pub looks_past_the_channel : Run
looks_past_the_channel = record {
  on = stand 4 2 [] [] (write_zero 0xc0 0 ∷ []);
  events = go 3 ++ FailCache ∷ Look 0 ∷ Look 0 ∷ Work ∷ FailSide A ∷ Look 0 ∷ Look 1 ∷ [];
  shows =
      Started 1 ∷ quiet 0 0 ∷ quiet 1 1 ∷ End 2 0x0c [] 0 0 ∷ Seen new_data 1 0 ∷ Seen new_data 1 0
      ∷ Back (Recovered 0) 1 1 ∷ Unseen Lost 0 0 ∷ Unseen Lost 0 0 ∷ [];
}

-- where a read fails a look past the channel says on which side; a volume that is alone isn't failed by that
abbrev pub look_fails : Run
look_fails = record {
  on = stand 4 2 (1 ∷ []) [] [];
  events = Look 3 ∷ Look 3 ∷ [];
  shows = Unseen (LookFault A) 1 0 ∷ Seen old_data 1 0 ∷ [];
}

-- a half write of the background has the track where side A, which took it, is lost
abbrev pub look_at_a_half_write : Run
look_at_a_half_write = record {
  on = pair [] [] (write_zero 0xc0 0 ∷ []);
  events = go 3 ++ Work ∷ FailCache ∷ FailSide A ∷ Look 0 ∷ Look 1 ∷ Second ∷ Look 0 ∷ [];
  shows =
      Started 1 ∷ quiet 0 0 ∷ quiet 1 1 ∷ End 2 0x0c [] 0 0 ∷ Back (dids.Half 0) 0 1 ∷ Seen new_data 0 0
      ∷ Seen old_data 1 0 ∷ Finished 0 0 1 ∷ Seen new_data 1 0 ∷ [];
}

-- a device that is lent starts nothing, and has an empty volume when it comes back
abbrev pub lent_and_restored : Run
lent_and_restored = record {
  on = stand 4 2 [] [] (write_zero 0xc0 0 ∷ read_zero 0xc0 0 ∷ []);
  events = go 3 ++ Lend 3 ∷ Start 1 ∷ Restore ∷ go 3;
  shows =
      Started 1 ∷ quiet 0 0 ∷ quiet 1 1 ∷ End 2 0x0c [] 0 0 ∷ Refused (Secondary 3) ∷ Started 2 ∷ quiet 0 0 ∷ quiet 1 1
      ∷ End 2 0x0c old_data 0 0 ∷ [];
}

-- once side B left, a write is one event again
abbrev pub split_pair_writes_once : Run
split_pair_writes_once = record {
  on = pair [] [] (write_zero 0xc1 0 ∷ []);
  events = Split ∷ go 3;
  shows = Started 1 ∷ quiet 0 0 ∷ quiet 1 1 ∷ End 2 0x0c [] 0 1 ∷ [];
}

-- a look past the channel takes no notes; a track with data of cache fast write is what its frame has
abbrev pub look_at_a_loose_track : Run
look_at_a_loose_track = record {
  on = stand 4 2 [] [] (write_zero 0xc2 0 ∷ []);
  events = go 3 ++ Look 0 ∷ FailCache ∷ Look 0 ∷ [];
  shows =
      Started 1 ∷ quiet 0 0 ∷ quiet 1 1 ∷ End 2 0x0c [] 0 0 ∷ Seen new_data 0 0 ∷ Seen old_data 1 0 ∷ [];
}

-- what a failed read owes is told behind the frame that the command asks for itself
abbrev pub frame_of_a_failed_read_goes_last : Run
frame_of_a_failed_read_goes_last = record {
  on = stand 1 0 (3 ∷ []) [] (read_zero 0xc0 1 ∷ read_zero 0xc0 0 ∷ []);
  events = Join [] [] ∷ go 3 ++ Work ∷ [] ++ go 3;
  shows =
      Started 1 ∷ quiet 0 0 ∷ quiet 1 1 ∷ End 2 0x0c old_data 0 0 ∷ []
      ++ Back (Copied 0) 1 1 ∷ []
      ++ Started 2 ∷ quiet 0 0 ∷ quiet 1 2 ∷ End 2 0x0c old_data 0 0 ∷ [];
}

-- the slot that a failed read gave up is free behind the command: with one slot the format goes through
abbrev pub slot_of_a_failed_read_comes_late : Run
slot_of_a_failed_read_comes_late = record {
  on = stand 4 1 (3 ∷ []) [] (write_zero 0xc0 1 ∷ (extent 0xc0 0xc0 ∷ locate 0xc3 1 0 0
      ∷ record { command = 0x1d; flags = 0; count = 16; given = 0 ∷ 0 ∷ 0 ∷ 0 ∷ 1 ∷ 0 ∷ 0 ∷ 8 ∷ new_data } ∷ []) ∷ []);
  events = Join [] [] ∷ Work ∷ go 3 ++ Power ∷ go 3;
  shows =
      Back (Copied 0) 1 1 ∷ []
      ++ Started 1 ∷ quiet 0 0 ∷ quiet 1 1 ∷ End 2 0x0c [] 0 0 ∷ []
      ++ Started 2 ∷ quiet 0 0 ∷ quiet 1 0 ∷ End 2 0x0c [] 2 1 ∷ [];
}

-- the frame of an open half write waits where the side that took the bytes is lost
abbrev pub half_writes_frame_waits : Run
half_writes_frame_waits = record {
  on = pair [] [] (write_zero 0xc0 0 ∷ []);
  events = FailStore ∷ go 3 ++ RepairStore ∷ FailStore ∷ FailSide A ∷ RepairStore ∷ Second ∷ RepairStore ∷ [];
  shows =
      Started 1 ∷ quiet 0 0 ∷ quiet 1 1 ∷ Half 0 0 1 ∷ Repaired ∷ Pending 1 ∷ End 2 0x0c [] 0 1 ∷ Repaired ∷ [];
}

-- and its patch waits where its frame is lost
abbrev pub half_writes_patch_waits : Run
half_writes_patch_waits = record {
  on = pair [] [] (write_zero 0xc0 0 ∷ write_zero 0xc1 0 ∷ []);
  events = go 3 ++ go 3 ++ FailCache ∷ RepairCache ∷ Second ∷ RepairCache ∷ [];
  shows =
      Started 1 ∷ quiet 0 0 ∷ quiet 1 1 ∷ End 2 0x0c [] 0 0 ∷ []
      ++ Started 2 ∷ quiet 0 0 ∷ quiet 1 0 ∷ Half 0 0 1 ∷ Pending 1 ∷ End 2 0x0c [] 0 1 ∷ Repaired ∷ [];
}

-- of one frame: a command that goes over two tracks leaves a note of the second that is older than its frame
abbrev pub old_note_of_its_own_event : Run
old_note_of_its_own_event = record {
  on = stand 1 0 [] [] (format_one 0xc0 1 ∷ (extent 0x40 0xc0 ∷ alone 0x92 8 []) ∷ read_zero 0xc0 1 ∷ []);
  events = go 3 ++ go 2 ++ go 3;
  shows =
      Started 1 ∷ quiet 0 0 ∷ quiet 1 1 ∷ End 2 0x0c [] 0 1 ∷ []
      ++ Started 2 ∷ quiet 0 0 ∷ End 1 0x0c (0 ∷ 0 ∷ 0 ∷ 1 ∷ 1 ∷ 0 ∷ 0 ∷ 8 ∷ []) 2 0 ∷ []
      ++ Started 3 ∷ quiet 0 0 ∷ quiet 1 1 ∷ End 2 0x0c old_data 0 0 ∷ [];
}

-- a write that fails on side A while side B is held is absent: side B has the track, and its frame stays clean
abbrev pub held_side_still_has_the_track : Run
held_side_still_has_the_track = record {
  on = pair (1 ∷ []) [] (write_zero 0xc1 0 ∷ read_zero 0xc0 0 ∷ []);
  events = Suspend ∷ go 3 ++ go 3;
  shows =
      Started 1 ∷ quiet 0 0 ∷ quiet 1 1 ∷ End 2 0x0e [] 0 1 ∷ []
      ++ Started 2 ∷ quiet 0 0 ∷ quiet 1 0 ∷ End 2 0x0c old_data 0 0 ∷ [];
}

-- a copy may come from a held side
abbrev pub copies_from_a_held_side : Run
copies_from_a_held_side = record {
  on = pair [] [] [];
  events = FailSide A ∷ Replace A ∷ Work ∷ Suspend ∷ Work ∷ Work ∷ [];
  shows =
      copies 3;
}

-- a copy makes no loose track firm
abbrev pub copy_hardens_nothing : Run
copy_hardens_nothing = record {
  on = stand 4 2 [] [] (write_zero 0xc2 2 ∷ []);
  events = Join [] [] ∷ Work ∷ Work ∷ go 3 ++ works 14 ++ Second ∷ Work ∷ [];
  shows =
      copies 2 ++ Started 1 ∷ quiet 0 0 ∷ quiet 1 1 ∷ End 2 0x0c [] 0 0 ∷ [] ++ drop 2 (copies 15)
      ++ Back (dids.Half 2) 0 1 ∷ Finished 2 0 1 ∷ Back Nothing 0 0 ∷ [];
}

-- in sequential mode tracks are queued also where no frame was given
abbrev pub denied_frames_are_queued_too : Run
denied_frames_are_queued_too = record {
  on = stand 1 1 [] [] (write_zero 0xc0 9 ∷ read_zero 0xcc 0 ∷ read_zero 0xcc 1 ∷ []);
  events = go 3 ++ go 3 ++ go 3 ++ works 10;
  shows =
      Started 1 ∷ quiet 0 0 ∷ quiet 1 1 ∷ End 2 0x0c [] 0 0 ∷ []
      ++ Started 2 ∷ quiet 0 0 ∷ quiet 1 1 ∷ End 2 0x0c old_data 1 0 ∷ []
      ++ Started 3 ∷ quiet 0 0 ∷ quiet 1 1 ∷ End 2 0x0c old_data 1 0 ∷ []
      ++ Back (Skipped 1) 0 0 ∷ Back (Skipped 2) 0 0 ∷ Back (Skipped 1) 0 0 ∷ Back (Skipped 2) 0 0 ∷ Back (Skipped 2) 0 0
      ∷ Back (Skipped 3) 0 0 ∷ Back (Skipped 2) 0 0 ∷ Back (Skipped 3) 0 0 ∷ Back (Destaged 9) 0 1 ∷ Back Nothing 0 0 ∷ [];
}

-- a miss whose read failed queues nothing
abbrev pub failed_miss_queues_nothing : Run
failed_miss_queues_nothing = record {
  on = stand 4 2 (1 ∷ []) [] (read_zero 0xcc 0 ∷ []);
  events = go 2 ++ Work ∷ [];
  shows =
      Started 1 ∷ quiet 0 0 ∷ End 1 0x0e [] 1 0 ∷ Back Nothing 0 0 ∷ [];
}

-- a device that is lent loses its data of cache fast write with the cache: their number is another then
abbrev pub lent_device_keeps_its_loose_data : Run
lent_device_keeps_its_loose_data = record {
  on = stand 4 2 [] [] (write_zero 0xc2 0 ∷ write_zero 0xc2 0
      ∷ (numbered_extent 0x80 0xc2 1 ∷ locate 1 1 0 0 ∷ alone 0x85 8 new_data) ∷ []);
  events = go 3 ++ Lend 1 ∷ FailCache ∷ RepairCache ∷ Restore ∷ go 1 ++ go 3;
  shows =
      Started 1 ∷ quiet 0 0 ∷ quiet 1 1 ∷ End 2 0x0c [] 0 0 ∷ []
      ++ Repaired ∷ Started 2 ∷ End 0 0x0e [] 0 0 ∷ []
      ++ Started 3 ∷ quiet 0 0 ∷ quiet 1 1 ∷ End 2 0x0c [] 0 0 ∷ [];
}

-- a write that goes through while no side is up is given to nothing
abbrev pub no_side_is_up : Run
no_side_is_up = record {
  on = stand 4 2 [] [] (read_zero 0xc0 0 ∷ write_zero 0xc1 0 ∷ read_zero 0xc0 0 ∷ []);
  events = go 3 ++ FailSide A ∷ go 3 ++ go 3;
  shows =
      Started 1 ∷ quiet 0 0 ∷ quiet 1 1 ∷ End 2 0x0c old_data 0 0 ∷ []
      ++ Started 2 ∷ quiet 0 0 ∷ quiet 1 0 ∷ End 2 0x0e [] 0 0 ∷ []
      ++ Started 3 ∷ quiet 0 0 ∷ quiet 1 0 ∷ End 2 0x0c old_data 0 0 ∷ [];
}

-- twelve records of 4,096 bytes are formatted in the cache and read from it
abbrev pub twelve_fast_formats : Run
twelve_fast_formats = record {
  on = stand 4 2 [] [] (format_twelve ∷ read_one 4096 ∷ read_one 4000 ∷ []);
  events = go 14 ++ go 3 ++ go 3;
  shows =
      Started 1 ∷ quiet 0 0 ∷ quiet 1 1 ∷ quiet_ends 2 12 0
      ++ Started 2 ∷ quiet 0 0 ∷ quiet 1 0 ∷ End 2 0x0c (replicate 4096 0) 0 0 ∷ []
      ++ Started 3 ∷ quiet 0 0 ∷ quiet 1 0 ∷ End 2 0x0c (replicate 4000 0) 0 0 ∷ [];
}

-- without a store each of them is a write
abbrev pub twelve_formats_go_through : Run
twelve_formats_go_through = record {
  on = stand 4 0 [] [] (format_twelve ∷ read_one 4096 ∷ []);
  events = go 14 ++ go 3;
  shows =
      Started 1 ∷ quiet 0 0 ∷ quiet 1 1 ∷ quiet_ends 2 12 1
      ++ Started 2 ∷ quiet 0 0 ∷ quiet 1 0 ∷ End 2 0x0c (replicate 4096 0) 0 0 ∷ [];
}

-- behind a loss of the cache they are read with their patch, and destaging them leaves them on the volume
abbrev pub large_patch_is_read : Run
large_patch_is_read = record {
  on = stand 4 2 [] [] (format_twelve ∷ read_one 4096 ∷ read_one 4096 ∷ []);
  events = go 14 ++ FailCache ∷ go 3 ++ Work ∷ go 3;
  shows =
      Started 1 ∷ quiet 0 0 ∷ quiet 1 1 ∷ quiet_ends 2 12 0
      ++ Started 2 ∷ quiet 0 0 ∷ quiet 1 1 ∷ End 2 0x0c (replicate 4096 0) 1 0 ∷ Back (Recovered 0) 1 1 ∷ []
      ++ Started 3 ∷ quiet 0 0 ∷ quiet 1 1 ∷ End 2 0x0c (replicate 4096 0) 1 0 ∷ [];
}

-- with an extent up to track 13 a read that finds no record there would go past it: file protected
abbrev pub past_the_extent : Run
past_the_extent = record {
  on = stand 4 2 [] [] (((record (extent 0x40 0xc0) { given = 0x40 ∷ 0xc0 ∷ 0x10 ∷ 0 ∷ 0 ∷ 0 ∷ 0 ∷ 0 ∷ 0 ∷ 0 ∷ 0 ∷ 0 ∷ 0 ∷ 0 ∷ 0 ∷ 0x0d ∷ [] })
      ∷ locate 0x46 1 13 0 ∷ alone 0x86 8 []) ∷ []);
  events = go 3;
  shows = Started 1 ∷ quiet 0 0 ∷ quiet 1 0 ∷ End 2 0x0e [] 1 0 ∷ [];
}

-- while a group holds the device, a path of another group isn't admitted, which the holder's own next program could free
abbrev pub another_group_is_kept_out : Run
another_group_is_kept_out = record {
  on = stand_with 4 2 [] []
      ((alone 0xaf 12 (0x80 ∷ group_name) ∷ alone 0xb4 32 [] ∷ alone 0x94 32 [] ∷ []) ∷ (alone 0xaf 12 (0x80 ∷ group_name) ∷ [])
      ∷ (alone 0xaf 12 (0x80 ∷ 2 ∷ 2 ∷ 3 ∷ 4 ∷ 5 ∷ 6 ∷ 7 ∷ 8 ∷ 9 ∷ 10 ∷ 11 ∷ []) ∷ []) ∷ [] ∷ []);
  events = go_on 1 1 ++ go_on 2 1 ++ go_on 1 1 ++ Start 3 ∷ go_on 1 1 ++ go_on 3 1;
  shows =
      Started 1 ∷ quiet 0 0 ∷ Started 1 ∷ quiet 0 0 ∷ Started 2 ∷ End 0 0x0c (replicate 32 0) 0 0
      ∷ Refused (Reserved (Group (record { bytes = group_name }))) ∷ Started 3 ∷ End 0 0x0c (replicate 32 0) 0 0 ∷ Started 1 ∷ quiet 0 0 ∷ [];
}
