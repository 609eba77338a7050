-- Runs that show the marks of a device, and of each track that has any.
use Rattle.std.proofs.Common.{[], ◌∷◌, ◌++◌}
use Rattle.ckd_types.specs.declared.paths.Side.TheVariants.{A}
use Rattle.device_defs.specs.declared.answers.Did.TheVariants.{Recovered, Destaged}
use Rattle.device_defs.specs.declared.answers.Did.TheVariants as dids
use Rattle.device_defs.proofs.Stand.{
  Back,
  Clean,
  End,
  FailCache,
  FailSide,
  FailStore,
  Finished,
  Half,
  HalfOpen,
  Held,
  LooseTrack,
  LostTrack,
  Marked,
  Marks,
  Modified,
  Patched,
  Power,
  Queued,
  Run,
  Second,
  StaleA,
  StaleB,
  Started,
  Suspend,
  UpA,
  UpB,
  Waiting,
  Work,
  go,
  old_data,
  pair,
  quiet,
  read_zero,
  stand,
  write_zero,
}

-- a fast write, a loss of the cache, a recovery
abbrev pub marks_of_a_fast_write : Run
marks_of_a_fast_write = record {
  on = stand 4 2 [] [] (write_zero 0xc0 0 ∷ []);
  events = go 3 ++ Marks ∷ FailCache ∷ Marks ∷ Work ∷ Marks ∷ [];
  shows =
      Started 1 ∷ quiet 0 0 ∷ quiet 1 1 ∷ End 2 0x0c [] 0 0
      ∷ Marked (UpA ∷ Waiting 0 ∷ []) ((0, Modified ∷ Patched ∷ []) ∷ [])
      ∷ Marked (UpA ∷ Waiting 1 ∷ []) ((0, Patched ∷ []) ∷ [])
      ∷ Back (Recovered 0) 1 1 ∷ Marked (UpA ∷ Waiting 0 ∷ []) [] ∷ [];
}

-- data of cache fast write, and their destaging
abbrev pub marks_of_a_loose_track : Run
marks_of_a_loose_track = record {
  on = stand 4 2 [] [] (write_zero 0xc2 0 ∷ []);
  events = go 3 ++ Marks ∷ Work ∷ Marks ∷ [];
  shows =
      Started 1 ∷ quiet 0 0 ∷ quiet 1 1 ∷ End 2 0x0c [] 0 0
      ∷ Marked (UpA ∷ Waiting 0 ∷ []) ((0, Modified ∷ LooseTrack ∷ []) ∷ [])
      ∷ Back (Destaged 0) 0 1 ∷ Marked (UpA ∷ Waiting 0 ∷ []) ((0, Clean ∷ []) ∷ []) ∷ [];
}

-- a write in two parts, between them, and behind the loss of side A
abbrev pub marks_of_a_half_write : Run
marks_of_a_half_write = record {
  on = pair [] [] (write_zero 0xc1 0 ∷ []);
  events = go 3 ++ Marks ∷ Second ∷ Marks ∷ [];
  shows =
      Started 1 ∷ quiet 0 0 ∷ quiet 1 1 ∷ Half 0 0 1
      ∷ Marked (UpA ∷ UpB ∷ HalfOpen 0 ∷ Waiting 0 ∷ []) ((0, Clean ∷ StaleB ∷ []) ∷ [])
      ∷ End 2 0x0c [] 0 1 ∷ Marked (UpA ∷ UpB ∷ Waiting 0 ∷ []) ((0, Clean ∷ []) ∷ []) ∷ [];
}

-- its frame keeps the track of an open half write, and is modified then
abbrev pub marks_of_a_side_that_is_lost : Run
marks_of_a_side_that_is_lost = record {
  on = pair [] [] (write_zero 0xc1 0 ∷ []);
  events = go 3 ++ FailSide A ∷ Marks ∷ Second ∷ Marks ∷ [];
  shows =
      Started 1 ∷ quiet 0 0 ∷ quiet 1 1 ∷ Half 0 0 1
      ∷ Marked (UpB ∷ HalfOpen 0 ∷ Waiting 1 ∷ []) ((0, Modified ∷ StaleB ∷ []) ∷ [])
      ∷ End 2 0x0c [] 0 1 ∷ Marked (UpB ∷ Waiting 0 ∷ []) ((0, Clean ∷ []) ∷ []) ∷ [];
}

-- a loose track that side A took is clean, and stale on side B
abbrev pub marks_of_a_loose_half_write : Run
marks_of_a_loose_half_write = record {
  on = pair [] [] (write_zero 0xc2 0 ∷ []);
  events = go 3 ++ Work ∷ Marks ∷ FailSide A ∷ Marks ∷ [];
  shows =
      Started 1 ∷ quiet 0 0 ∷ quiet 1 1 ∷ End 2 0x0c [] 0 0 ∷ Back (dids.Half 0) 0 1
      ∷ Marked (UpA ∷ UpB ∷ HalfOpen 0 ∷ Waiting 0 ∷ []) ((0, Clean ∷ StaleB ∷ []) ∷ [])
      ∷ Marked (UpB ∷ HalfOpen 0 ∷ Waiting 1 ∷ []) ((0, Modified ∷ StaleB ∷ []) ∷ []) ∷ [];
}

-- a held side is stale where the other one took a write; a loss ends the held mark
abbrev pub marks_of_a_held_side : Run
marks_of_a_held_side = record {
  on = pair [] [] (write_zero 0xc1 0 ∷ []);
  events = Suspend ∷ go 3 ++ Marks ∷ FailSide A ∷ Marks ∷ [];
  shows =
      Started 1 ∷ quiet 0 0 ∷ quiet 1 1 ∷ End 2 0x0c [] 0 1
      ∷ Marked (UpA ∷ UpB ∷ Held ∷ Waiting 0 ∷ []) ((0, Clean ∷ StaleB ∷ []) ∷ [])
      ∷ Marked (UpB ∷ Waiting 1 ∷ []) ((0, Modified ∷ StaleB ∷ []) ∷ []) ∷ [];
}

-- a patched track is stale on its side, kept by its frame, and waits
abbrev pub marks_of_a_loss_of_the_store : Run
marks_of_a_loss_of_the_store = record {
  on = stand 4 2 [] [] (write_zero 0xc0 0 ∷ []);
  events = go 3 ++ FailStore ∷ Marks ∷ FailCache ∷ Marks ∷ [];
  shows =
      Started 1 ∷ quiet 0 0 ∷ quiet 1 1 ∷ End 2 0x0c [] 0 0
      ∷ Marked (UpA ∷ Waiting 1 ∷ []) ((0, Modified ∷ StaleA ∷ []) ∷ [])
      ∷ Marked (UpA ∷ Waiting 0 ∷ []) ((0, LostTrack ∷ StaleA ∷ []) ∷ []) ∷ [];
}

-- but not the track of an open half write
abbrev pub marks_of_a_loss_of_the_store_in_a_half_write : Run
marks_of_a_loss_of_the_store_in_a_half_write = record {
  on = pair [] [] (write_zero 0xc0 0 ∷ []);
  events = go 3 ++ Work ∷ FailStore ∷ Marks ∷ Second ∷ Marks ∷ [];
  shows =
      Started 1 ∷ quiet 0 0 ∷ quiet 1 1 ∷ End 2 0x0c [] 0 0 ∷ Back (dids.Half 0) 0 1
      ∷ Marked (UpA ∷ UpB ∷ HalfOpen 0 ∷ Waiting 1 ∷ []) ((0, Modified ∷ StaleB ∷ []) ∷ [])
      ∷ Finished 0 0 1 ∷ Marked (UpA ∷ UpB ∷ Waiting 0 ∷ []) ((0, Clean ∷ []) ∷ []) ∷ [];
}

-- two tracks are queued
abbrev pub marks_of_a_sequential_miss : Run
marks_of_a_sequential_miss = record {
  on = stand 4 2 [] [] (read_zero 0xcc 0 ∷ []);
  events = go 3 ++ Marks ∷ Power ∷ Marks ∷ [];
  shows =
      Started 1 ∷ quiet 0 0 ∷ quiet 1 1 ∷ End 2 0x0c old_data 0 0
      ∷ Marked (UpA ∷ Queued 1 ∷ Queued 2 ∷ Waiting 0 ∷ []) ((0, Clean ∷ []) ∷ []) ∷ Marked (UpA ∷ Waiting 0 ∷ []) [] ∷ [];
}

-- a loose track whose side is lost is firm, and waits
abbrev pub marks_of_a_hardened_track : Run
marks_of_a_hardened_track = record {
  on = stand 4 2 [] [] (write_zero 0xc2 0 ∷ []);
  events = go 3 ++ FailSide A ∷ Marks ∷ [];
  shows =
      Started 1 ∷ quiet 0 0 ∷ quiet 1 1 ∷ End 2 0x0c [] 0 0
      ∷ Marked (Waiting 1 ∷ []) ((0, Modified ∷ []) ∷ (1, LostTrack ∷ []) ∷ (2, LostTrack ∷ []) ∷ (3, LostTrack ∷ []) ∷ (4, LostTrack ∷ [])
      ∷ (5, LostTrack ∷ []) ∷ (6, LostTrack ∷ []) ∷ (7, LostTrack ∷ []) ∷ (8, LostTrack ∷ []) ∷ (9, LostTrack ∷ [])
      ∷ (10, LostTrack ∷ []) ∷ (11, LostTrack ∷ []) ∷ (12, LostTrack ∷ []) ∷ (13, LostTrack ∷ []) ∷ (14, LostTrack ∷ []) ∷ []) ∷ [];
}
