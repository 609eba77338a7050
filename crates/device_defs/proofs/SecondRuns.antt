-- Runs of writes in two parts of which a side fails, and of writes that leave frame or patch.
use Rattle.std.proofs.Common.{[], ◌∷◌, ◌++◌}
use Rattle.ckd_types.specs.declared.paths.Side.TheVariants.{A, B}
use Rattle.device_defs.specs.declared.answers.Did.TheVariants.{Nothing, Recovered, Destaged}
use Rattle.device_defs.specs.declared.answers.Did.TheVariants as dids
use Rattle.device_defs.specs.Peek.{Lost}
use Rattle.device_defs.proofs.Stand.{
  Back,
  End,
  FailCache,
  FailSide,
  Half,
  Look,
  Reset,
  Run,
  Second,
  Seen,
  Started,
  Unseen,
  Unwritten,
  Work,
  go,
  new_data,
  old_data,
  pair,
  quiet,
  read_zero,
  stand,
  write_zero,
}

-- the side that took the first part is lost, and the other one fails: the command is checked, and its track is kept by its frame as it was
abbrev pub second_part_is_absent : Run
second_part_is_absent = record {
  on = pair [] (16 ∷ []) (write_zero 0xc1 0 ∷ read_zero 0xc0 0 ∷ []);
  events = go 3 ++ FailSide A ∷ Second ∷ Work ∷ [] ++ go 3;
  shows =
      Started 1 ∷ quiet 0 0 ∷ quiet 1 1 ∷ Half 0 0 1 ∷ End 2 0x0e [] 0 1 ∷ Back Nothing 0 0 ∷ []
      ++ Started 2 ∷ quiet 0 0 ∷ quiet 1 0 ∷ End 2 0x0c old_data 0 0 ∷ [];
}

-- without a frame the track is lost then
abbrev pub absent_without_a_frame : Run
absent_without_a_frame = record {
  on = pair [] (16 ∷ []) (write_zero 0xc4 0 ∷ read_zero 0xc0 0 ∷ []);
  events = go 3 ++ FailSide A ∷ Second ∷ Look 0 ∷ [] ++ go 2;
  shows =
      Started 1 ∷ quiet 0 0 ∷ quiet 1 1 ∷ Half 0 1 1 ∷ End 2 0x0e [] 0 1 ∷ Unseen Lost 0 0 ∷ Started 2 ∷ quiet 0 0 ∷ End 1 0x0e [] 0 0 ∷ [];
}

-- of a command that was cut the frame has the new track
abbrev pub absent_behind_a_reset : Run
absent_behind_a_reset = record {
  on = pair [] (16 ∷ []) (write_zero 0xc1 0 ∷ read_zero 0xc0 0 ∷ []);
  events = go 3 ++ Reset 1 ∷ FailSide A ∷ Second ∷ [] ++ go 3;
  shows =
      Started 1 ∷ quiet 0 0 ∷ quiet 1 1 ∷ Half 0 0 1 ∷ Unwritten 0 0 1 ∷ []
      ++ Started 2 ∷ quiet 0 0 ∷ quiet 1 0 ∷ End 2 0x0c new_data 0 0 ∷ [];
}

-- and without a frame it is lost, too
abbrev pub absent_behind_a_reset_without_a_frame : Run
absent_behind_a_reset_without_a_frame = record {
  on = pair [] (16 ∷ []) (write_zero 0xc4 0 ∷ []);
  events = go 3 ++ Reset 1 ∷ FailSide A ∷ Second ∷ Look 0 ∷ [];
  shows =
      Started 1 ∷ quiet 0 0 ∷ quiet 1 1 ∷ Half 0 1 1 ∷ Unwritten 0 0 1 ∷ Unseen Lost 0 0 ∷ [];
}

-- a destaging that no side has leaves frame and patch
abbrev pub absent_by_itself : Run
absent_by_itself = record {
  on = pair [] (16 ∷ []) (write_zero 0xc0 0 ∷ read_zero 0xc0 0 ∷ []);
  events = go 3 ++ Work ∷ FailSide A ∷ Second ∷ [] ++ go 3;
  shows =
      Started 1 ∷ quiet 0 0 ∷ quiet 1 1 ∷ End 2 0x0c [] 0 0 ∷ []
      ++ Back (dids.Half 0) 0 1 ∷ Unwritten 0 0 1 ∷ []
      ++ Started 2 ∷ quiet 0 0 ∷ quiet 1 0 ∷ End 2 0x0c new_data 0 0 ∷ [];
}

-- the other side fails, and the one that took the first part has the track
abbrev pub second_side_fails : Run
second_side_fails = record {
  on = pair [] (16 ∷ []) (write_zero 0xc1 0 ∷ read_zero 0xc4 0 ∷ []);
  events = go 3 ++ Second ∷ [] ++ go 3;
  shows =
      Started 1 ∷ quiet 0 0 ∷ quiet 1 1 ∷ Half 0 0 1 ∷ End 2 0x0c [] 0 1 ∷ []
      ++ Started 2 ∷ quiet 0 0 ∷ quiet 1 1 ∷ End 2 0x0c new_data 1 0 ∷ [];
}

-- no side is up to take the second part: it makes no transfer
abbrev pub second_part_without_a_side : Run
second_part_without_a_side = record {
  on = pair [] [] (write_zero 0xc1 0 ∷ []);
  events = go 3 ++ FailSide A ∷ FailSide B ∷ Second ∷ [];
  shows =
      Started 1 ∷ quiet 0 0 ∷ quiet 1 1 ∷ Half 0 0 1 ∷ End 2 0x0e [] 0 0 ∷ [];
}

-- a write in bypass mode goes through and drops a frame
abbrev pub bypass_drops_the_frame : Run
bypass_drops_the_frame = record {
  on = stand 4 2 [] [] (read_zero 0xc0 0 ∷ write_zero 0xc4 0 ∷ read_zero 0xc0 0 ∷ []);
  events = go 3 ++ go 3 ++ go 3;
  shows =
      Started 1 ∷ quiet 0 0 ∷ quiet 1 1 ∷ End 2 0x0c old_data 0 0 ∷ []
      ++ Started 2 ∷ quiet 0 0 ∷ quiet 1 1 ∷ End 2 0x0c [] 1 1 ∷ []
      ++ Started 3 ∷ quiet 0 0 ∷ quiet 1 1 ∷ End 2 0x0c new_data 0 0 ∷ [];
}

-- of one slot: a write that goes through gives up the patch, and its slot is another track's
abbrev pub through_frees_the_slot : Run
through_frees_the_slot = record {
  on = stand 4 1 [] [] (write_zero 0xc0 0 ∷ write_zero 0xc1 0 ∷ write_zero 0xc0 1 ∷ []);
  events = go 3 ++ go 3 ++ go 3 ++ Work ∷ [];
  shows =
      Started 1 ∷ quiet 0 0 ∷ quiet 1 1 ∷ End 2 0x0c [] 0 0 ∷ []
      ++ Started 2 ∷ quiet 0 0 ∷ quiet 1 0 ∷ End 2 0x0c [] 0 1 ∷ []
      ++ Started 3 ∷ quiet 0 0 ∷ quiet 1 1 ∷ End 2 0x0c [] 0 0 ∷ []
      ++ Back (Destaged 1) 0 1 ∷ [];
}

-- a write that a volume alone fails is absent: the frame keeps the track, and is recovered
abbrev pub failed_write_of_one_volume : Run
failed_write_of_one_volume = record {
  on = stand 4 0 [] (1 ∷ []) (write_zero 0xc0 0 ∷ read_zero 0xc0 0 ∷ []);
  events = go 3 ++ Work ∷ [] ++ go 3;
  shows =
      Started 1 ∷ quiet 0 0 ∷ quiet 1 1 ∷ End 2 0x0e [] 0 1 ∷ []
      ++ Back (Recovered 0) 0 1 ∷ []
      ++ Started 2 ∷ quiet 0 0 ∷ quiet 1 0 ∷ End 2 0x0c old_data 0 0 ∷ [];
}

-- and without a frame the track is lost
abbrev pub failed_write_without_a_frame : Run
failed_write_without_a_frame = record {
  on = stand 0 0 [] (1 ∷ []) (write_zero 0xc0 0 ∷ read_zero 0xc0 0 ∷ []);
  events = go 3 ++ go 2;
  shows =
      Started 1 ∷ quiet 0 0 ∷ quiet 1 1 ∷ End 2 0x0e [] 1 1 ∷ []
      ++ Started 2 ∷ quiet 0 0 ∷ End 1 0x0e [] 0 0 ∷ [];
}

-- a loose track whose side is lost is firm: a loss of the cache takes it then
abbrev pub loose_track_loses_its_side : Run
loose_track_loses_its_side = record {
  on = stand 4 2 [] [] (write_zero 0xc2 0 ∷ read_zero 0xc0 0 ∷ []);
  events = go 3 ++ FailSide A ∷ Look 0 ∷ FailCache ∷ Look 0 ∷ [];
  shows =
      Started 1 ∷ quiet 0 0 ∷ quiet 1 1 ∷ End 2 0x0c [] 0 0 ∷ []
      ++ Seen new_data 0 0 ∷ Unseen Lost 0 0 ∷ [];
}
