-- Whole small decks, and what their runs show.
use Rattle.std.proofs.Common.{true, false, ℕ, List, [], ◌∷◌, ◌++◌}
use Rattle.std.specs.Prelude.{replicate}
use Rattle.ckd_types.specs.declared.geometry.Geometry.TheVariants.{D3380}
use Rattle.ckd_types.specs.declared.paths.Owner.TheVariants as owners
use Rattle.ckd_types.specs.declared.paths.Side.TheVariants.{A, B}
use Rattle.deck_plan.specs.declared.event.EventLine.TheVariants as lines
use Rattle.device_defs.specs.declared.answers.Did.TheVariants as dids
use Rattle.device_defs.specs.declared.answers.StartFault.TheVariants as starts
use Rattle.ckd_types.specs.declared.channel.Ccw.{Ccw}
use Rattle.device_defs.proofs.Stand.{alone, extent, format_twelve, locate, new_data, old_data, read_one, read_zero, write_of, write_zero}
use Rattle.subsystem_defs.specs.declared.end.OrderFault.TheVariants as faults
use Rattle.subsystem_defs.specs.Closing.{Counted, LentTo}
use Rattle.subsystem_defs.proofs.Stand.{
  Back,
  Done,
  End,
  Half,
  Idle,
  NotStarted,
  Pending,
  Refused,
  Running,
  Sample,
  Started,
  back,
  copied,
  deck,
  deck_with,
  device,
  done,
  fine,
  fines,
  first,
  gives,
  go,
  line,
  power,
  program,
  quiet,
  settle,
  shown,
  step,
  three,
  two,
}

-- one read, and its frame
abbrev pub first_read : Sample
first_read = record {
  deck = deck 1 0 (read_zero 0xc0 0 ∷ []);
  asked = go;
  shows = three 1 1 (gives 2 old_data 0 0);
  devices = Counted 0 1 0 [] ∷ [];
  frames = ((0, 0), false) ∷ [];
}

-- of one frame: another track takes it
abbrev pub one_frame : Sample
one_frame = record {
  deck = deck 1 0 (read_zero 0xc0 0 ∷ read_zero 0xc0 0 ∷ read_zero 0xc0 1 ∷ read_zero 0xc0 0 ∷ []);
  asked = go ++ go ++ go ++ go;
  shows =
      three 1 1 (gives 2 old_data 0 0) ++ three 2 0 (gives 2 old_data 0 0) ++ three 3 1 (gives 2 old_data 0 0)
      ++ three 4 1 (gives 2 old_data 0 0);
  devices = Counted 0 3 0 [] ∷ [];
  frames = ((0, 0), false) ∷ [];
}

-- a modified frame isn't taken
abbrev pub modified_frame_stays : Sample
modified_frame_stays = record {
  deck = deck 1 1 (write_zero 0xc0 0 ∷ read_zero 0xc0 1 ∷ []);
  asked = go ++ go;
  shows = three 1 1 (fine 2 0 0) ++ three 2 1 (gives 2 old_data 1 0);
  devices = Counted 0 3 0 [] ∷ [];
  frames = ((0, 0), true) ∷ [];
}

-- of one slot: the second write goes to the volume
abbrev pub one_slot : Sample
one_slot = record {
  deck = deck 4 1 (write_zero 0xc0 0 ∷ write_zero 0xc0 1 ∷ []);
  asked = go ++ go;
  shows = three 1 1 (fine 2 0 0) ++ three 2 1 (fine 2 0 1);
  devices = Counted 0 2 1 [] ∷ [];
  frames = ((0, 1), false) ∷ ((0, 0), true) ∷ [];
}

-- a fast write is destaged
abbrev pub fast_write_is_destaged : Sample
fast_write_is_destaged = record {
  deck = deck 4 2 (write_zero 0xc0 0 ∷ []);
  asked = go ++ settle;
  shows = three 1 1 (fine 2 0 0) ++ shown (Back (dids.Destaged 0)) 0 1 ∷ quiet (Back dids.Nothing) ∷ [];
  devices = Counted 0 1 1 [] ∷ [];
  frames = ((0, 0), false) ∷ [];
}

-- the loss of the cache, and its repair behind the recovery
abbrev pub cache_is_repaired : Sample
cache_is_repaired = record {
  deck = deck 4 2 (write_zero 0xc0 0 ∷ read_zero 0xc0 0 ∷ []);
  asked = go ++ line lines.FailCache ++ go ++ line lines.RepairCache ++ back ++ line lines.RepairCache ++ line lines.RepairCache;
  shows =
      three 1 1 (fine 2 0 0) ++ done ++ three 2 1 (gives 2 new_data 1 0)
      ++ quiet (Pending 1) ∷ shown (Back (dids.Recovered 0)) 1 1 ∷ quiet Done ∷ quiet (Refused faults.Up) ∷ [];
  devices = Counted 0 4 1 [] ∷ [];
  frames = [];
}

-- both losses, with a recovery between them
abbrev pub store_is_lost_and_settled : Sample
store_is_lost_and_settled = record {
  deck = deck 4 2 (write_zero 0xc0 0 ∷ read_zero 0xc0 0 ∷ []);
  asked = go ++ line lines.FailStore ++ settle ++ line lines.FailCache ++ go;
  shows =
      three 1 1 (fine 2 0 0) ++ done ++ shown (Back (dids.Recovered 0)) 0 1 ∷ quiet (Back dids.Nothing) ∷ done
      ++ three 2 1 (gives 2 new_data 1 0);
  devices = Counted 0 3 1 [] ∷ [];
  frames = [];
}

-- and without one: the track is lost
abbrev pub track_is_lost : Sample
track_is_lost = record {
  deck = deck 4 2 (write_zero 0xc0 0 ∷ read_zero 0xc0 0 ∷ []);
  asked = go ++ line lines.FailStore ++ line lines.FailCache ++ go ++ line lines.FailCache ++ line lines.FailStore;
  shows =
      three 1 1 (fine 2 0 0) ++ done ++ done ++ quiet (Started 2) ∷ fine 0 0 0 ∷ quiet (End 1 0x0e 16 [])
      ∷ quiet (Refused faults.Down) ∷ quiet (Refused faults.Down) ∷ [];
  devices = Counted 0 1 0 (0 ∷ []) ∷ [];
  frames = [];
}

-- a write through to a pair takes two events; the second device is lent
abbrev pub pair_is_written : Sample
pair_is_written = record {
  deck = deck_with 4 2 (device 0 ∷ device 1 ∷ []) [] (first (write_zero 0xc1 0) ∷ program 2 1 (alone 0x03 1 []) ∷ []);
  asked = line (lines.Pair 0 1) ++ settle ++ go ++ line (lines.Start 2 1);
  shows =
      done ++ copied ++ three 1 1 (shown (Half 0) 0 1) ++ fine 2 0 1 ∷ quiet (NotStarted (starts.Secondary 0)) ∷ [];
  devices = Counted 0 16 17 [] ∷ LentTo 1 0 ∷ [];
  frames = ((0, 0), false) ∷ [];
}

-- a side is lost between the two parts, is replaced, and then the other one is lost
abbrev pub pair_outlives_a_side : Sample
pair_outlives_a_side = record {
  deck = two (write_zero 0xc1 0 ∷ read_zero 0xc4 0 ∷ read_zero 0xc4 0 ∷ []);
  asked =
      line (lines.Pair 0 1) ++ settle ++ line (lines.Start 1 0) ++ step ++ step ++ step
      ++ line (lines.FailVolume 0 A) ++ line (lines.Replace 0 A) ++ step ++ go
      ++ line (lines.Replace 0 A) ++ settle ++ line (lines.FailVolume 0 B) ++ go;
  shows =
      done ++ copied ++ three 1 1 (shown (Half 0) 0 1)
      ++ quiet Done ∷ quiet (Refused faults.Half) ∷ fine 2 0 1 ∷ three 2 1 (gives 2 new_data 1 0)
      ++ done ++ copied ++ done ++ three 3 1 (gives 2 new_data 1 0);
  devices = Counted 0 35 32 [] ∷ LentTo 1 0 ∷ [];
  frames = ((0, 0), false) ∷ [];
}

-- the first write of the volume fails
abbrev pub destaging_fails_once : Sample
destaging_fails_once = record {
  deck = deck_with 4 2 (device 0 ∷ []) (record { device = 0; write = true; call = 1 } ∷ [])
      (first (write_zero 0xc0 0) ∷ first (read_zero 0xc0 0) ∷ []);
  asked = go ++ back ++ go ++ back;
  shows =
      three 1 1 (fine 2 0 0) ++ shown (Back (dids.Fault A)) 0 1 ∷ three 2 0 (gives 2 new_data 0 0)
      ++ shown (Back (dids.Destaged 0)) 0 1 ∷ [];
  devices = Counted 0 1 2 [] ∷ [];
  frames = ((0, 0), false) ∷ [];
}

-- two tracks are staged behind a miss in sequential mode
abbrev pub tracks_are_staged : Sample
tracks_are_staged = record {
  deck = deck 4 2 (read_zero 0xcc 0 ∷ []);
  asked = go ++ settle;
  shows =
      three 1 1 (gives 2 old_data 0 0) ++ shown (Back (dids.Staged 1)) 1 0 ∷ shown (Back (dids.Staged 2)) 1 0
      ∷ quiet (Back dids.Nothing) ∷ [];
  devices = Counted 0 3 0 [] ∷ [];
  frames = ((0, 2), false) ∷ ((0, 1), false) ∷ ((0, 0), false) ∷ [];
}

-- orders that are refused
abbrev pub orders_are_refused : Sample
orders_are_refused = record {
  deck = deck_with 4 2 (device 0 ∷ record { number = 1; geometry = D3380; cylinders = 1 } ∷ []) [] [];
  asked =
      line (lines.Pair 0 1) ++ line (lines.Pair 0 0) ++ line (lines.Unpair 0) ++ line (lines.FailVolume 0 B)
      ++ line (lines.Replace 0 A) ++ line lines.RepairCache ++ line lines.RepairStore ++ line (lines.Suspend 0) ++ line (lines.Resume 0);
  shows =
      quiet (Refused faults.Geometry) ∷ quiet (Refused faults.Same) ∷ quiet (Refused faults.Unpaired)
      ∷ quiet (Refused faults.NoSide) ∷ quiet (Refused faults.Up) ∷ quiet (Refused faults.Up) ∷ quiet (Refused faults.Up)
      ∷ quiet (Refused faults.Unpaired) ∷ quiet (Refused faults.Unpaired) ∷ [];
  devices = Counted 0 0 0 [] ∷ Counted 1 0 0 [] ∷ [];
  frames = [];
}

-- a held side isn't written; it is copied when it goes on
abbrev pub held_side_goes_on : Sample
held_side_goes_on = record {
  deck = two (write_zero 0xc1 0 ∷ []);
  asked =
      line (lines.Pair 0 1) ++ settle ++ line (lines.Suspend 0) ++ line (lines.Suspend 0) ++ go
      ++ line (lines.Resume 0) ++ line (lines.Resume 0) ++ settle ++ line (lines.Pair 0 1) ++ line (lines.FailVolume 1 A);
  shows =
      done ++ copied ++ quiet Done ∷ quiet (Refused faults.Held) ∷ three 1 1 (fine 2 0 1)
      ++ quiet Done ∷ quiet (Refused faults.NotHeld) ∷ shown (Back (dids.Copied 0)) 1 1 ∷ quiet (Back dids.Nothing)
      ∷ quiet (Refused (faults.Lent 0)) ∷ quiet (Refused (faults.Lent 0)) ∷ [];
  devices = Counted 0 17 17 [] ∷ LentTo 1 0 ∷ [];
  frames = ((0, 0), false) ∷ [];
}

-- or it leaves, and the second device has an empty volume
abbrev pub held_side_leaves : Sample
held_side_leaves = record {
  deck = deck_with 4 2 (device 0 ∷ device 1 ∷ []) [] (first (write_zero 0xc1 0) ∷ program 1 1 (read_zero 0xc0 0) ∷ []);
  asked =
      line (lines.Pair 0 1) ++ settle ++ line (lines.Suspend 0) ++ go ++ line (lines.Unpair 0)
      ++ line (lines.Start 1 1) ++ line (lines.Run 1);
  shows = done ++ copied ++ done ++ three 1 1 (fine 2 0 1) ++ done ++ three 1 1 (gives 2 old_data 0 0);
  devices = Counted 0 16 16 [] ∷ Counted 1 1 0 [] ∷ [];
  frames = ((1, 0), false) ∷ ((0, 0), false) ∷ [];
}

-- tracks that are stale on side A keep the pair
abbrev pub stale_side_a_stays_paired : Sample
stale_side_a_stays_paired = record {
  deck = deck_with 4 2 (device 0 ∷ device 1 ∷ []) [] (first (alone 0x03 1 []) ∷ []);
  asked =
      line (lines.Pair 0 1) ++ settle ++ line (lines.FailVolume 0 A) ++ line (lines.Unpair 0) ++ line (lines.Suspend 0)
      ++ line (lines.Replace 0 A) ++ line (lines.Unpair 0) ++ line (lines.Start 1 0) ++ line (lines.Unpair 0);
  shows =
      done ++ copied ++ done ++ quiet (Refused faults.Down) ∷ quiet (Refused faults.Down) ∷ quiet Done
      ∷ quiet (Refused (faults.NotLevel 15)) ∷ quiet (Started 1) ∷ quiet (Refused (faults.Active 1)) ∷ [];
  devices = Counted 0 15 15 [] ∷ LentTo 1 0 ∷ [];
  frames = [];
}

-- a reset cuts the program
abbrev pub program_is_cut : Sample
program_is_cut = record {
  deck = deck 4 2 (read_zero 0xc0 0 ∷ []);
  asked = line (lines.Start 1 0) ++ step ++ line (lines.Reset 1 0) ++ step ++ line (lines.Run 0);
  shows = quiet (Started 1) ∷ fine 0 0 0 ∷ quiet Done ∷ quiet Idle ∷ quiet Idle ∷ [];
  devices = Counted 0 0 0 [] ∷ [];
  frames = [];
}

-- two paths on one device
abbrev pub paths_wait : Sample
paths_wait = record {
  deck = deck_with 4 2 (device 0 ∷ []) [] (first (alone 0x03 1 []) ∷ program 2 0 (alone 0x03 1 []) ∷ []);
  asked =
      line (lines.Start 1 0) ++ line (lines.Start 2 0) ++ line (lines.Run 0) ++ line (lines.Start 2 0) ++ line (lines.Start 1 0)
      ++ line (lines.Start 2 0) ++ line (lines.Run 0) ++ line (lines.Start 1 0);
  shows =
      quiet (Started 1) ∷ quiet (NotStarted (starts.Busy 1)) ∷ quiet (End 0 0x0c 1 []) ∷ quiet (Started 1)
      ∷ quiet (NotStarted (starts.Busy 2)) ∷ quiet Running ∷ quiet (End 0 0x0c 1 []) ∷ quiet (NotStarted starts.PlanDone) ∷ [];
  devices = Counted 0 0 0 [] ∷ [];
  frames = [];
}

-- data of cache fast write go with the cache, and their number is old then
abbrev pub provisional_write_is_lost : Sample
provisional_write_is_lost = record {
  deck = deck 4 2 (write_zero 0xc2 0 ∷ read_zero 0xc0 0 ∷ write_zero 0xc2 0 ∷ []);
  asked = go ++ line lines.FailCache ++ go ++ go;
  shows =
      three 1 1 (fine 2 0 0) ++ done ++ three 2 1 (gives 2 old_data 1 0) ++ quiet (Started 3) ∷ quiet (End 0 0x0e 16 []) ∷ [];
  devices = Counted 0 3 0 [] ∷ [];
  frames = [];
}

-- but for those that were destaged
abbrev pub provisional_write_is_destaged : Sample
provisional_write_is_destaged = record {
  deck = deck 4 2 (write_zero 0xc2 0 ∷ read_zero 0xc0 0 ∷ []);
  asked = go ++ back ++ line lines.FailCache ++ go;
  shows = three 1 1 (fine 2 0 0) ++ shown (Back (dids.Destaged 0)) 0 1 ∷ done ++ three 2 1 (gives 2 new_data 1 0);
  devices = Counted 0 3 1 [] ∷ [];
  frames = [];
}

-- another write of the track goes to the volume
abbrev pub other_write_goes_through : Sample
other_write_goes_through = record {
  deck = deck 4 2 (write_zero 0xc2 0 ∷ write_of 0xc0 0 0 (replicate 8 0x55) ∷ []);
  asked = go ++ go;
  shows = three 1 1 (fine 2 0 0) ++ three 2 0 (fine 2 0 1);
  devices = Counted 0 1 1 [] ∷ [];
  frames = ((0, 0), false) ∷ [];
}

-- a fast write outlives a loss of power
abbrev pub power_leaves_the_patch : Sample
power_leaves_the_patch = record {
  deck = deck 4 2 (write_zero 0xc0 0 ∷ read_zero 0xc0 0 ∷ []);
  asked = go ++ power ++ go;
  shows = three 1 1 (fine 2 0 0) ++ done ++ three 2 1 (gives 2 new_data 0 0);
  devices = Counted 0 2 0 [] ∷ [];
  frames = ((0, 0), true) ∷ [];
}

-- power is lost between the two parts of a write
abbrev pub power_cuts_a_write : Sample
power_cuts_a_write = record {
  deck = two (write_zero 0xc1 0 ∷ read_zero 0xc4 0 ∷ []);
  asked =
      line (lines.Pair 0 1) ++ settle ++ line (lines.Start 1 0) ++ step ++ step ++ step ++ power ++ settle
      ++ line (lines.FailVolume 0 A) ++ go;
  shows =
      done ++ copied ++ three 1 1 (shown (Half 0) 0 1) ++ done ++ shown (Back (dids.Copied 0)) 1 1
      ∷ quiet (Back dids.Nothing) ∷ done ++ three 2 1 (gives 2 new_data 1 0);
  devices = Counted 0 19 17 [] ∷ LentTo 1 0 ∷ [];
  frames = [];
}

-- it frees a device that was reserved
abbrev pub power_frees_the_device : Sample
power_frees_the_device = record {
  deck = deck_with 4 2 (device 0 ∷ []) []
      (first (alone 0xb4 32 []) ∷ program 2 0 (alone 0x03 1 []) ∷ program 3 0 (alone 0x94 32 []) ∷ []);
  asked = go ++ line (lines.Start 2 0) ++ power ++ line (lines.Start 2 0) ++ line (lines.Run 0);
  shows =
      quiet (Started 1) ∷ gives 0 (replicate 32 0) 0 0 ∷ quiet (NotStarted (starts.Shut (owners.Path 1))) ∷ quiet Done
      ∷ quiet (Started 1) ∷ quiet (End 0 0x0c 1 []) ∷ [];
  devices = Counted 0 0 0 [] ∷ [];
  frames = [];
}

-- power takes data of cache fast write
abbrev pub power_takes_loose_data : Sample
power_takes_loose_data = record {
  deck = deck 4 2 (write_zero 0xc2 0 ∷ read_zero 0xc0 0 ∷ []);
  asked = go ++ power ++ go;
  shows = three 1 1 (fine 2 0 0) ++ done ++ three 2 1 (gives 2 old_data 0 0);
  devices = Counted 0 2 0 [] ∷ [];
  frames = ((0, 0), false) ∷ [];
}

-- a read of record 1 that doesn't tell another length
abbrev read_on : ℕ → List Ccw
read_on count = extent 0x40 0xc0 ∷ locate 6 1 0 1 ∷ record { command = 0x86; flags = 0x20; count = count; given = [] } ∷ []

-- twelve records are formatted in the cache; a read of one of them for more bytes than it has, and for fewer
abbrev pub twelve_formats : Sample
twelve_formats = record {
  deck = deck 4 2 (format_twelve ∷ read_one 4096 ∷ read_one 4097 ∷ read_on 4097 ∷ read_one 4000 ∷ []);
  asked = go ++ go ++ go ++ go ++ go;
  shows =
      quiet (Started 1) ∷ fine 0 0 0 ∷ fine 1 1 0 ∷ fines 2 12 0
      ++ three 2 0 (gives 2 (replicate 4096 0) 0 0)
      ++ three 3 0 (quiet (End 2 0x0c 1 (replicate 4096 0)))
      ++ three 4 0 (quiet (End 2 0x0c 1 (replicate 4096 0)))
      ++ three 5 0 (gives 2 (replicate 4000 0) 0 0);
  devices = Counted 0 1 0 [] ∷ [];
  frames = ((0, 0), true) ∷ [];
}

-- without a store each is a write of the volume
abbrev pub formats_go_through : Sample
formats_go_through = record {
  deck = deck 4 0 (format_twelve ∷ read_one 4096 ∷ []);
  asked = go ++ go;
  shows = quiet (Started 1) ∷ fine 0 0 0 ∷ fine 1 1 0 ∷ fines 2 12 1 ++ three 2 0 (gives 2 (replicate 4096 0) 0 0);
  devices = Counted 0 1 12 [] ∷ [];
  frames = ((0, 0), false) ∷ [];
}

-- in bypass mode nothing is loaded
abbrev pub bypass_loads_nothing : Sample
bypass_loads_nothing = record {
  deck = deck 4 0 (read_zero 0xc4 0 ∷ []);
  asked = go;
  shows = three 1 1 (gives 2 old_data 1 0);
  devices = Counted 0 2 0 [] ∷ [];
  frames = [];
}

-- data of cache fast write are lost while their program runs: its next command is checked
abbrev pub loss_in_its_own_program : Sample
loss_in_its_own_program = record {
  deck = deck 4 2 ((extent 0x80 0xc2 ∷ locate 1 1 0 0 ∷ record { command = 0x85; flags = 0x40; count = 8; given = new_data } ∷ alone 0x03 1 []) ∷ []);
  asked = line (lines.Start 1 0) ++ step ++ step ++ step ++ line lines.FailCache ++ step;
  shows = three 1 1 (fine 2 0 0) ++ done ++ quiet (End 3 0x0e 1 []) ∷ [];
  devices = Counted 0 1 0 [] ∷ [];
  frames = [];
}

-- a read that finds no record on the last two tracks of a cylinder, and one that would leave its extent
abbrev pub end_of_the_cylinder : Sample
end_of_the_cylinder = record {
  deck = deck 4 2 ((record { command = 0x07; flags = 0x40; count = 6; given = 0 ∷ 0 ∷ 0 ∷ 0 ∷ 0 ∷ 0x0d ∷ [] } ∷ alone 0x86 8 [])
      ∷ (record (extent 0x40 0xc0) { given = 0x40 ∷ 0xc0 ∷ 0x10 ∷ 0 ∷ 0 ∷ 0 ∷ 0 ∷ 0 ∷ 0 ∷ 0 ∷ 0 ∷ 0 ∷ 0 ∷ 0 ∷ 0 ∷ 0x0d ∷ [] }
      ∷ locate 0x46 1 13 0 ∷ alone 0x86 8 []) ∷ []);
  asked = go ++ go;
  shows =
      quiet (Started 1) ∷ fine 0 0 0 ∷ shown (End 1 0x0e 8 []) 2 0 ∷ quiet (Started 2) ∷ fine 0 0 0 ∷ fine 1 0 0 ∷ quiet (End 2 0x0e 8 []) ∷ [];
  devices = Counted 0 2 0 [] ∷ [];
  frames = ((0, 13), false) ∷ ((0, 14), false) ∷ [];
}

-- two losses, the second one before the first was repaired: the run isn't calm, and misses nothing
abbrev pub losses_without_repair : Sample
losses_without_repair = record {
  deck = deck 4 2 (read_zero 0xc0 0 ∷ read_zero 0xc0 0 ∷ []);
  asked = go ++ line lines.FailCache ++ line lines.FailStore ++ go;
  shows = three 1 1 (gives 2 old_data 0 0) ++ done ++ done ++ three 2 1 (gives 2 old_data 1 0);
  devices = Counted 0 3 0 [] ∷ [];
  frames = [];
}

-- the first read of the volume fails
abbrev pub read_fails : Sample
read_fails = record {
  deck = deck_with 4 2 (device 0 ∷ []) (record { device = 0; write = false; call = 1 } ∷ []) (first (read_zero 0xc0 0) ∷ []);
  asked = go;
  shows = quiet (Started 1) ∷ fine 0 0 0 ∷ shown (End 1 0x0e 16 []) 1 0 ∷ [];
  devices = Counted 0 1 0 [] ∷ [];
  frames = [];
}
