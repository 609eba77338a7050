-- Small decks, and the whole reports of their runs.
use Rattle.std.proofs.Common.{◌∷◌, ◌++◌, ℕ, List, []}
use Rattle.std.specs.Prelude.{codes, replicate}
use Rattle.ckd_types.specs.declared.channel.Ccw.{Ccw}
use Rattle.ckd_types.specs.declared.geometry.Geometry.TheVariants.{D3390}
use Rattle.deck_plan.specs.declared.event.EventLine.TheVariants as lines
use Rattle.deck_text.specs.declared.line.DeviceLine.{DeviceLine}
use Rattle.device_defs.proofs.Stand.{alone, extent, group_name, locate, new_data, read_zero, write_zero}
use Rattle.run_report.proofs.Stand.{Row, copied_tracks, go_of, paired, row, sense, texts}
use Rattle.subsystem_defs.proofs.Stand.{Sample, back, deck_with, device, first, go, line, power, program, settle, step, two}
use Rattle.subsystem_defs.proofs.Runs.{
  first_read,
  one_slot,
  fast_write_is_destaged,
  cache_is_repaired,
  track_is_lost,
  pair_is_written,
  pair_outlives_a_side,
  destaging_fails_once,
  tracks_are_staged,
  orders_are_refused,
  held_side_goes_on,
  held_side_leaves,
  stale_side_a_stays_paired,
  program_is_cut,
  paths_wait,
  provisional_write_is_lost,
  provisional_write_is_destaged,
  other_write_goes_through,
  power_leaves_the_patch,
  power_cuts_a_write,
  power_frees_the_device,
  power_takes_loose_data,
  loss_in_its_own_program,
  read_fails,
}

-- one read, and its frame
abbrev pub first_read_row : Row
first_read_row =
    row first_read
    (texts ("START 1 0 ACCEPTED 1" ∷ "END 1 0 1 0 0C 0 -" ∷ "END 1 0 1 1 0C 0 -" ∷ "IO 1 0" ∷ "END 1 0 1 2 0C 0 -" ∷ "DATA 0000000000000000"
    ∷ "OVER 1 0 1 FULL" ∷ "DEVICE 0 READS 1 WRITES 0 LOST 0" ∷ "FRAME 0 0 CLEAN" ∷ "FINISH" ∷ []))

-- a fast write makes no call, and is destaged
abbrev pub fast_write_row : Row
fast_write_row =
    row fast_write_is_destaged
    (texts ("START 1 0 ACCEPTED 1" ∷ "END 1 0 1 0 0C 0 -" ∷ "END 1 0 1 1 0C 0 -" ∷ "IO 1 0" ∷ "END 1 0 1 2 0C 0 -" ∷ "OVER 1 0 1 FULL"
    ∷ "BACK 0 DESTAGED 0" ∷ "IO 0 1" ∷ "BACK 0 NOTHING" ∷ "DEVICE 0 READS 1 WRITES 1 LOST 0" ∷ "FRAME 0 0 CLEAN" ∷ "FINISH" ∷ []))

-- without a slot it is a write of the volume
abbrev pub one_slot_row : Row
one_slot_row =
    row one_slot
    (texts ("START 1 0 ACCEPTED 1" ∷ "END 1 0 1 0 0C 0 -" ∷ "END 1 0 1 1 0C 0 -" ∷ "IO 1 0" ∷ "END 1 0 1 2 0C 0 -" ∷ "OVER 1 0 1 FULL"
    ∷ "START 1 0 ACCEPTED 2" ∷ "END 1 0 2 0 0C 0 -" ∷ "END 1 0 2 1 0C 0 -" ∷ "IO 1 0" ∷ "END 1 0 2 2 0C 0 -" ∷ "IO 0 1"
    ∷ "OVER 1 0 2 FULL" ∷ "DEVICE 0 READS 2 WRITES 1 LOST 0" ∷ "FRAME 0 1 CLEAN" ∷ "FRAME 0 0 MODIFIED" ∷ "FINISH" ∷ []))

-- tracks are staged
abbrev pub staged_row : Row
staged_row =
    row tracks_are_staged
    (texts ("START 1 0 ACCEPTED 1" ∷ "END 1 0 1 0 0C 0 -" ∷ "END 1 0 1 1 0C 0 -" ∷ "IO 1 0" ∷ "END 1 0 1 2 0C 0 -" ∷ "DATA 0000000000000000"
    ∷ "OVER 1 0 1 FULL" ∷ "BACK 0 STAGED 1" ∷ "IO 1 0" ∷ "BACK 0 STAGED 2" ∷ "IO 1 0" ∷ "BACK 0 NOTHING"
    ∷ "DEVICE 0 READS 3 WRITES 0 LOST 0" ∷ "FRAME 0 2 CLEAN" ∷ "FRAME 0 1 CLEAN" ∷ "FRAME 0 0 CLEAN" ∷ "FINISH" ∷ []))

-- a reset in a program
abbrev pub cut_row : Row
cut_row =
    row program_is_cut
    (texts ("START 1 0 ACCEPTED 1" ∷ "END 1 0 1 0 0C 0 -" ∷ "OVER 1 0 1 CUT 1" ∷ "RESET 1 0" ∷ "STEP 0 IDLE" ∷ "RUN 0 IDLE"
    ∷ "DEVICE 0 READS 0 WRITES 0 LOST 0" ∷ "FINISH" ∷ []))

-- two paths: refused starts
abbrev pub paths_row : Row
paths_row =
    row paths_wait
    (texts ("START 1 0 ACCEPTED 1" ∷ "START 2 0 BUSY 1" ∷ "END 1 0 1 0 0C 1 -" ∷ "OVER 1 0 1 FULL" ∷ "START 2 0 ACCEPTED 1" ∷ "START 1 0 BUSY 2"
    ∷ "START 2 0 RUNNING" ∷ "END 2 0 1 0 0C 1 -" ∷ "OVER 2 0 1 FULL" ∷ "START 1 0 DONE" ∷ "DEVICE 0 READS 0 WRITES 0 LOST 0" ∷ "FINISH"
    ∷ []))

-- a repair waits for a recovery
abbrev pub recovered_row : Row
recovered_row =
    row cache_is_repaired
    (texts ("START 1 0 ACCEPTED 1" ∷ "END 1 0 1 0 0C 0 -" ∷ "END 1 0 1 1 0C 0 -" ∷ "IO 1 0" ∷ "END 1 0 1 2 0C 0 -" ∷ "OVER 1 0 1 FULL"
    ∷ "FAIL CACHE DONE" ∷ "START 1 0 ACCEPTED 2" ∷ "END 1 0 2 0 0C 0 -" ∷ "END 1 0 2 1 0C 0 -" ∷ "IO 1 0" ∷ "END 1 0 2 2 0C 0 -"
    ∷ "DATA 1122334455667788" ∷ "IO 1 0" ∷ "OVER 1 0 2 FULL" ∷ "REPAIR CACHE PENDING 1" ∷ "BACK 0 RECOVERED 0" ∷ "IO 1 1"
    ∷ "REPAIR CACHE DONE" ∷ "REPAIR CACHE REFUSED UP" ∷ "DEVICE 0 READS 4 WRITES 1 LOST 0" ∷ "FINISH" ∷ []))

-- a track is lost
abbrev pub lost_row : Row
lost_row =
    row track_is_lost
    (texts ("START 1 0 ACCEPTED 1" ∷ "END 1 0 1 0 0C 0 -" ∷ "END 1 0 1 1 0C 0 -" ∷ "IO 1 0" ∷ "END 1 0 1 2 0C 0 -" ∷ "OVER 1 0 1 FULL"
    ∷ "FAIL STORE DONE" ∷ "FAIL CACHE DONE" ∷ "START 1 0 ACCEPTED 2" ∷ "END 1 0 2 0 0C 0 -" ∷ "END 1 0 2 1 0E 16 -" ∷ [])
    ++ sense "1080"
    ++ texts ("OVER 1 0 2 CHECKED" ∷ "FAIL CACHE REFUSED DOWN" ∷ "FAIL STORE REFUSED DOWN" ∷ "DEVICE 0 READS 1 WRITES 0 LOST 1" ∷ "LOST 0 0"
    ∷ "FINISH" ∷ []))

-- a call fails
abbrev pub fault_row : Row
fault_row =
    row destaging_fails_once
    (texts ("START 1 0 ACCEPTED 1" ∷ "END 1 0 1 0 0C 0 -" ∷ "END 1 0 1 1 0C 0 -" ∷ "IO 1 0" ∷ "END 1 0 1 2 0C 0 -" ∷ "OVER 1 0 1 FULL"
    ∷ "BACK 0 FAULT A" ∷ "IO 0 1" ∷ "START 1 0 ACCEPTED 2" ∷ "END 1 0 2 0 0C 0 -" ∷ "END 1 0 2 1 0C 0 -" ∷ "END 1 0 2 2 0C 0 -"
    ∷ "DATA 1122334455667788" ∷ "OVER 1 0 2 FULL" ∷ "BACK 0 DESTAGED 0" ∷ "IO 0 1" ∷ "DEVICE 0 READS 1 WRITES 2 LOST 0"
    ∷ "FRAME 0 0 CLEAN" ∷ "FINISH" ∷ []))

-- a write to a pair
abbrev pub pair_row : Row
pair_row =
    row pair_is_written
    (paired
    ++ texts ("START 1 0 ACCEPTED 1" ∷ "END 1 0 1 0 0C 0 -" ∷ "END 1 0 1 1 0C 0 -" ∷ "IO 1 0" ∷ "HALF 1 0 0" ∷ "IO 0 1" ∷ "END 1 0 1 2 0C 0 -"
    ∷ "IO 0 1" ∷ "OVER 1 0 1 FULL" ∷ "START 2 1 SECONDARY 0" ∷ "DEVICE 0 READS 16 WRITES 17 LOST 0" ∷ "DEVICE 1 LENT 0"
    ∷ "FRAME 0 0 CLEAN" ∷ "FINISH" ∷ []))

-- a pair outlives a side
abbrev pub pair_loss_row : Row
pair_loss_row =
    row pair_outlives_a_side
    (paired
    ++ texts ("START 1 0 ACCEPTED 1" ∷ "END 1 0 1 0 0C 0 -" ∷ "END 1 0 1 1 0C 0 -" ∷ "IO 1 0" ∷ "HALF 1 0 0" ∷ "IO 0 1" ∷ "FAIL VOLUME 0 A DONE"
    ∷ "REPLACE 0 A REFUSED HALF" ∷ "END 1 0 1 2 0C 0 -" ∷ "IO 0 1" ∷ "OVER 1 0 1 FULL" ∷ "START 1 0 ACCEPTED 2" ∷ "END 1 0 2 0 0C 0 -"
    ∷ "END 1 0 2 1 0C 0 -" ∷ "IO 1 0" ∷ "END 1 0 2 2 0C 0 -" ∷ "DATA 1122334455667788" ∷ "IO 1 0" ∷ "OVER 1 0 2 FULL"
    ∷ "REPLACE 0 A DONE" ∷ [])
    ++ copied_tracks 15
    ++ texts ("BACK 0 NOTHING" ∷ "FAIL VOLUME 0 B DONE" ∷ "START 1 0 ACCEPTED 3" ∷ "END 1 0 3 0 0C 0 -" ∷ "END 1 0 3 1 0C 0 -" ∷ "IO 1 0"
    ∷ "END 1 0 3 2 0C 0 -" ∷ "DATA 1122334455667788" ∷ "IO 1 0" ∷ "OVER 1 0 3 FULL" ∷ "DEVICE 0 READS 35 WRITES 32 LOST 0"
    ∷ "DEVICE 1 LENT 0" ∷ "FRAME 0 0 CLEAN" ∷ "FINISH" ∷ []))

-- side B is held
abbrev pub held_row : Row
held_row =
    row held_side_goes_on
    (paired
    ++ texts ("SUSPEND 0 DONE" ∷ "SUSPEND 0 REFUSED HELD" ∷ "START 1 0 ACCEPTED 1" ∷ "END 1 0 1 0 0C 0 -" ∷ "END 1 0 1 1 0C 0 -" ∷ "IO 1 0"
    ∷ "END 1 0 1 2 0C 0 -" ∷ "IO 0 1" ∷ "OVER 1 0 1 FULL" ∷ "RESUME 0 DONE" ∷ "RESUME 0 REFUSED NOTHELD" ∷ "BACK 0 COPIED 0" ∷ "IO 1 1"
    ∷ "BACK 0 NOTHING" ∷ "PAIR 0 1 REFUSED LENT 0" ∷ "FAIL VOLUME 1 A REFUSED LENT 0" ∷ "DEVICE 0 READS 17 WRITES 17 LOST 0"
    ∷ "DEVICE 1 LENT 0" ∷ "FRAME 0 0 CLEAN" ∷ "FINISH" ∷ []))

-- and leaves
abbrev pub unpaired_row : Row
unpaired_row =
    row held_side_leaves
    (paired
    ++ texts ("SUSPEND 0 DONE" ∷ "START 1 0 ACCEPTED 1" ∷ "END 1 0 1 0 0C 0 -" ∷ "END 1 0 1 1 0C 0 -" ∷ "IO 1 0" ∷ "END 1 0 1 2 0C 0 -" ∷ "IO 0 1"
    ∷ "OVER 1 0 1 FULL" ∷ "UNPAIR 0 DONE" ∷ "START 1 1 ACCEPTED 1" ∷ "END 1 1 1 0 0C 0 -" ∷ "END 1 1 1 1 0C 0 -" ∷ "IO 1 0"
    ∷ "END 1 1 1 2 0C 0 -" ∷ "DATA 0000000000000000" ∷ "OVER 1 1 1 FULL" ∷ "DEVICE 0 READS 16 WRITES 16 LOST 0"
    ∷ "DEVICE 1 READS 1 WRITES 0 LOST 0" ∷ "FRAME 1 0 CLEAN" ∷ "FRAME 0 0 CLEAN" ∷ "FINISH" ∷ []))

-- a pair that isn't level
abbrev pub level_row : Row
level_row =
    row stale_side_a_stays_paired
    (paired
    ++ texts ("FAIL VOLUME 0 A DONE" ∷ "UNPAIR 0 REFUSED DOWN" ∷ "SUSPEND 0 REFUSED DOWN" ∷ "REPLACE 0 A DONE" ∷ "UNPAIR 0 REFUSED NOTLEVEL 15"
    ∷ "START 1 0 ACCEPTED 1" ∷ "UNPAIR 0 REFUSED ACTIVE 1" ∷ "DEVICE 0 READS 15 WRITES 15 LOST 0" ∷ "DEVICE 1 LENT 0" ∷ "FINISH" ∷ []))

-- orders are refused
abbrev pub refused_row : Row
refused_row =
    row orders_are_refused
    (texts ("PAIR 0 1 REFUSED GEOMETRY" ∷ "PAIR 0 0 REFUSED SAME" ∷ "UNPAIR 0 REFUSED UNPAIRED" ∷ "FAIL VOLUME 0 B REFUSED NOSIDE"
    ∷ "REPLACE 0 A REFUSED UP" ∷ "REPAIR CACHE REFUSED UP" ∷ "REPAIR STORE REFUSED UP" ∷ "SUSPEND 0 REFUSED UNPAIRED"
    ∷ "RESUME 0 REFUSED UNPAIRED" ∷ "DEVICE 0 READS 0 WRITES 0 LOST 0" ∷ "DEVICE 1 READS 0 WRITES 0 LOST 0" ∷ "FINISH" ∷ []))

-- data of cache fast write go with the cache
abbrev pub loose_row : Row
loose_row =
    row provisional_write_is_lost
    (texts ("START 1 0 ACCEPTED 1" ∷ "END 1 0 1 0 0C 0 -" ∷ "END 1 0 1 1 0C 0 -" ∷ "IO 1 0" ∷ "END 1 0 1 2 0C 0 -" ∷ "CFW 0 LOOSEN 0"
    ∷ "OVER 1 0 1 FULL" ∷ "CFW 0 LOST 1 0001" ∷ "FAIL CACHE DONE" ∷ "START 1 0 ACCEPTED 2" ∷ "END 1 0 2 0 0C 0 -" ∷ "END 1 0 2 1 0C 0 -"
    ∷ "IO 1 0" ∷ "END 1 0 2 2 0C 0 -" ∷ "DATA 0000000000000000" ∷ "IO 1 0" ∷ "OVER 1 0 2 FULL" ∷ "START 1 0 ACCEPTED 3"
    ∷ "END 1 0 3 0 0E 16 -" ∷ [])
    ++ sense "8000000000000004"
    ++ texts ("OVER 1 0 3 FULL" ∷ "DEVICE 0 READS 3 WRITES 0 LOST 0" ∷ "FINISH" ∷ []))

-- but for those that were destaged
abbrev pub destaged_row : Row
destaged_row =
    row provisional_write_is_destaged
    (texts ("START 1 0 ACCEPTED 1" ∷ "END 1 0 1 0 0C 0 -" ∷ "END 1 0 1 1 0C 0 -" ∷ "IO 1 0" ∷ "END 1 0 1 2 0C 0 -" ∷ "CFW 0 LOOSEN 0"
    ∷ "OVER 1 0 1 FULL" ∷ "BACK 0 DESTAGED 0" ∷ "CFW 0 HARDEN 0" ∷ "IO 0 1" ∷ "FAIL CACHE DONE" ∷ "START 1 0 ACCEPTED 2"
    ∷ "END 1 0 2 0 0C 0 -" ∷ "END 1 0 2 1 0C 0 -" ∷ "IO 1 0" ∷ "END 1 0 2 2 0C 0 -" ∷ "DATA 1122334455667788" ∷ "IO 1 0"
    ∷ "OVER 1 0 2 FULL" ∷ "DEVICE 0 READS 3 WRITES 1 LOST 0" ∷ "FINISH" ∷ []))

-- while their program runs
abbrev pub checked_row : Row
checked_row =
    row loss_in_its_own_program
    (texts ("START 1 0 ACCEPTED 1" ∷ "END 1 0 1 0 0C 0 -" ∷ "END 1 0 1 1 0C 0 -" ∷ "IO 1 0" ∷ "END 1 0 1 2 0C 0 -" ∷ "CFW 0 LOOSEN 0"
    ∷ "CFW 0 LOST 1 0001" ∷ "FAIL CACHE DONE" ∷ "END 1 0 1 3 0E 1 -" ∷ [])
    ++ sense "1080"
    ++ texts ("OVER 1 0 1 CHECKED" ∷ "DEVICE 0 READS 1 WRITES 0 LOST 0" ∷ "FINISH" ∷ []))

-- another write makes the track firm
abbrev pub through_row : Row
through_row =
    row other_write_goes_through
    (texts ("START 1 0 ACCEPTED 1" ∷ "END 1 0 1 0 0C 0 -" ∷ "END 1 0 1 1 0C 0 -" ∷ "IO 1 0" ∷ "END 1 0 1 2 0C 0 -" ∷ "CFW 0 LOOSEN 0"
    ∷ "OVER 1 0 1 FULL" ∷ "START 1 0 ACCEPTED 2" ∷ "END 1 0 2 0 0C 0 -" ∷ "END 1 0 2 1 0C 0 -" ∷ "END 1 0 2 2 0C 0 -" ∷ "CFW 0 HARDEN 0"
    ∷ "IO 0 1" ∷ "OVER 1 0 2 FULL" ∷ "DEVICE 0 READS 1 WRITES 1 LOST 0" ∷ "FRAME 0 0 CLEAN" ∷ "FINISH" ∷ []))

-- a loss of power
abbrev pub power_row : Row
power_row =
    row power_leaves_the_patch
    (texts ("START 1 0 ACCEPTED 1" ∷ "END 1 0 1 0 0C 0 -" ∷ "END 1 0 1 1 0C 0 -" ∷ "IO 1 0" ∷ "END 1 0 1 2 0C 0 -" ∷ "OVER 1 0 1 FULL"
    ∷ "POWER DONE" ∷ "START 1 0 ACCEPTED 2" ∷ "END 1 0 2 0 0C 0 -" ∷ "END 1 0 2 1 0C 0 -" ∷ "IO 1 0" ∷ "END 1 0 2 2 0C 0 -"
    ∷ "DATA 1122334455667788" ∷ "OVER 1 0 2 FULL" ∷ "DEVICE 0 READS 2 WRITES 0 LOST 0" ∷ "FRAME 0 0 MODIFIED" ∷ "FINISH" ∷ []))

-- between the two parts of a write
abbrev pub power_cut_row : Row
power_cut_row =
    row power_cuts_a_write
    (paired
    ++ texts ("START 1 0 ACCEPTED 1" ∷ "END 1 0 1 0 0C 0 -" ∷ "END 1 0 1 1 0C 0 -" ∷ "IO 1 0" ∷ "HALF 1 0 0" ∷ "IO 0 1" ∷ "OVER 1 0 1 CUT 3"
    ∷ "POWER DONE" ∷ "BACK 0 COPIED 0" ∷ "IO 1 1" ∷ "BACK 0 NOTHING" ∷ "FAIL VOLUME 0 A DONE" ∷ "START 1 0 ACCEPTED 2"
    ∷ "END 1 0 2 0 0C 0 -" ∷ "END 1 0 2 1 0C 0 -" ∷ "IO 1 0" ∷ "END 1 0 2 2 0C 0 -" ∷ "DATA 1122334455667788" ∷ "IO 1 0"
    ∷ "OVER 1 0 2 FULL" ∷ "DEVICE 0 READS 19 WRITES 17 LOST 0" ∷ "DEVICE 1 LENT 0" ∷ "FINISH" ∷ []))

-- the device was reserved
abbrev pub power_free_row : Row
power_free_row =
    row power_frees_the_device
    (texts ("START 1 0 ACCEPTED 1" ∷ "END 1 0 1 0 0C 0 -" ∷ "DATA 0000000000000000000000000000000000000000000000000000000000000000"
    ∷ "OVER 1 0 1 FULL" ∷ "START 2 0 SHUT P 1" ∷ "POWER DONE" ∷ "START 2 0 ACCEPTED 1" ∷ "END 2 0 1 0 0C 1 -" ∷ "OVER 2 0 1 FULL"
    ∷ "DEVICE 0 READS 0 WRITES 0 LOST 0" ∷ "FINISH" ∷ []))

-- it takes data of cache fast write
abbrev pub power_loose_row : Row
power_loose_row =
    row power_takes_loose_data
    (texts ("START 1 0 ACCEPTED 1" ∷ "END 1 0 1 0 0C 0 -" ∷ "END 1 0 1 1 0C 0 -" ∷ "IO 1 0" ∷ "END 1 0 1 2 0C 0 -" ∷ "CFW 0 LOOSEN 0"
    ∷ "OVER 1 0 1 FULL" ∷ "CFW 0 LOST 1 0001" ∷ "POWER DONE" ∷ "START 1 0 ACCEPTED 2" ∷ "END 1 0 2 0 0C 0 -" ∷ "END 1 0 2 1 0C 0 -"
    ∷ "IO 1 0" ∷ "END 1 0 2 2 0C 0 -" ∷ "DATA 0000000000000000" ∷ "OVER 1 0 2 FULL" ∷ "DEVICE 0 READS 2 WRITES 0 LOST 0"
    ∷ "FRAME 0 0 CLEAN" ∷ "FINISH" ∷ []))

-- the first read of the volume fails
abbrev pub read_fails_row : Row
read_fails_row =
    row read_fails
    (texts ("START 1 0 ACCEPTED 1" ∷ "END 1 0 1 0 0C 0 -" ∷ "END 1 0 1 1 0E 16 -" ∷ [])
    ++ sense "1080"
    ++ texts ("IO 1 0" ∷ "OVER 1 0 1 CHECKED" ∷ "DEVICE 0 READS 1 WRITES 0 LOST 0" ∷ "FINISH" ∷ []))

-- a reset of another path waits for the program's end; one of a path that used nothing since its last reset is none
abbrev pub reset_waits : Sample
reset_waits = record {
  deck = deck_with 4 2 (device 0 ∷ []) [] (first (read_zero 0xc0 0) ∷ program 2 0 (alone 0x03 1 []) ∷ []);
  asked =
      line (lines.Start 2 0) ++ line (lines.Run 0) ++ line (lines.Start 1 0) ++ step ++ line (lines.Reset 2 0) ++ line (lines.Run 0)
      ++ line (lines.Reset 2 0);
  shows = [];
  devices = [];
  frames = [];
}

-- each is told where it is asked for, and nowhere else
abbrev pub waiting_row : Row
waiting_row =
    row reset_waits
    (texts ("START 2 0 ACCEPTED 1" ∷ "END 2 0 1 0 0C 1 -" ∷ "OVER 2 0 1 FULL" ∷ "START 1 0 ACCEPTED 1" ∷ "END 1 0 1 0 0C 0 -" ∷ "RESET 2 0"
    ∷ "END 1 0 1 1 0C 0 -" ∷ "IO 1 0" ∷ "END 1 0 1 2 0C 0 -" ∷ "DATA 0000000000000000" ∷ "OVER 1 0 1 FULL" ∷ "RESET 2 0"
    ∷ "DEVICE 0 READS 1 WRITES 0 LOST 0" ∷ "FRAME 0 0 CLEAN" ∷ "FINISH" ∷ []))

-- paths 1 and 2 are a group that reserves the device, until path 3 takes it and frees it
abbrev pub group_reserves : Sample
group_reserves = record {
  deck = deck_with 4 2 (device 0 ∷ []) [] (first (alone 0xaf 12 (0x80 ∷ group_name)) ∷ first (alone 0xb4 32 []) ∷ first (alone 0x34 12 [])
      ∷ program 2 0 (alone 0xaf 12 (0x80 ∷ group_name)) ∷ program 2 0 (alone 0x03 1 []) ∷ program 2 0 (alone 0x03 1 [])
      ∷ program 3 0 (alone 0x14 32 []) ∷ program 3 0 (alone 0x94 32 []) ∷ program 4 0 (alone 0x03 1 []) ∷ []);
  asked =
      go ++ go_of 2 ++ go ++ go ++ go_of 2 ++ line (lines.Start 4 0) ++ go_of 3 ++ line (lines.Start 2 0) ++ go_of 3 ++ go_of 4;
  shows = [];
  devices = [];
  frames = [];
}

-- who holds the device keeps others out
abbrev pub group_row : Row
group_row =
    row group_reserves
    (texts ("START 1 0 ACCEPTED 1" ∷ "END 1 0 1 0 0C 0 -" ∷ "OVER 1 0 1 FULL" ∷ "START 2 0 ACCEPTED 1" ∷ "END 2 0 1 0 0C 0 -" ∷ "OVER 2 0 1 FULL"
    ∷ "START 1 0 ACCEPTED 2" ∷ "END 1 0 2 0 0C 0 -" ∷ "DATA 0000000000000000000000000000000000000000000000000000000000000000"
    ∷ "OVER 1 0 2 FULL" ∷ "START 1 0 ACCEPTED 3" ∷ "END 1 0 3 0 0C 0 -" ∷ "DATA F80102030405060708090A0B" ∷ "OVER 1 0 3 FULL"
    ∷ "START 2 0 ACCEPTED 2" ∷ "END 2 0 2 0 0C 1 -" ∷ "OVER 2 0 2 FULL" ∷ "START 4 0 RESERVED G 0102030405060708090A0B"
    ∷ "START 3 0 ACCEPTED 1" ∷ "END 3 0 1 0 0C 0 -" ∷ "DATA 0000000000000000000000000000000000000000000000000000000000000000"
    ∷ "OVER 3 0 1 FULL" ∷ "START 2 0 RESERVED P 3" ∷ "START 3 0 ACCEPTED 2" ∷ "END 3 0 2 0 0C 0 -"
    ∷ "DATA 0000000000000000000000000000000000000000000000000000000000000000" ∷ "OVER 3 0 2 FULL" ∷ "START 4 0 ACCEPTED 1"
    ∷ "END 4 0 1 0 0C 1 -" ∷ "OVER 4 0 1 FULL" ∷ "DEVICE 0 READS 0 WRITES 0 LOST 0" ∷ "FINISH" ∷ []))

-- path 3 takes the device, and hasn't a program that frees it
abbrev pub path_shuts : Sample
path_shuts = record {
  deck = deck_with 4 2 (device 0 ∷ []) [] (program 2 0 (alone 0x03 1 []) ∷ program 3 0 (alone 0x14 32 []) ∷ []);
  asked =
      go_of 3 ++ line (lines.Start 2 0);
  shows = [];
  devices = [];
  frames = [];
}

-- it shuts all others out
abbrev pub shut_row : Row
shut_row =
    row path_shuts
    (texts ("START 3 0 ACCEPTED 1" ∷ "END 3 0 1 0 0C 0 -" ∷ "DATA 0000000000000000000000000000000000000000000000000000000000000000"
    ∷ "OVER 3 0 1 FULL" ∷ "START 2 0 SHUT P 3" ∷ "DEVICE 0 READS 0 WRITES 0 LOST 0" ∷ "FINISH" ∷ []))

-- power is lost while a program runs on each of two devices, of which one has data of cache fast write
abbrev pub power_on_two : Sample
power_on_two = record {
  deck = deck_with 4 2 (device 0 ∷ device 1 ∷ []) [] (first (extent 0x80 0xc2 ∷ locate 1 1 0 0 ∷
      record { command = 0x85; flags = 0x40; count = 8; given = new_data } ∷ alone 0x03 1 []) ∷ program 2 1 (read_zero 0xc0 0) ∷ []);
  asked =
      line (lines.Start 1 0) ++ step ++ step ++ step ++ line (lines.Start 2 1) ++ line (lines.Step 1) ++ power;
  shows = [];
  devices = [];
  frames = [];
}

-- it is told device by device
abbrev pub two_powers_row : Row
two_powers_row =
    row power_on_two
    (texts ("START 1 0 ACCEPTED 1" ∷ "END 1 0 1 0 0C 0 -" ∷ "END 1 0 1 1 0C 0 -" ∷ "IO 1 0" ∷ "END 1 0 1 2 0C 0 -" ∷ "CFW 0 LOOSEN 0"
    ∷ "START 2 1 ACCEPTED 1" ∷ "END 2 1 1 0 0C 0 -" ∷ "OVER 1 0 1 CUT 3" ∷ "CFW 0 LOST 1 0001" ∷ "OVER 2 1 1 CUT 1" ∷ "POWER DONE"
    ∷ "DEVICE 0 READS 1 WRITES 0 LOST 0" ∷ "DEVICE 1 READS 0 WRITES 0 LOST 0" ∷ "FINISH" ∷ []))

-- two devices have data of cache fast write as the cache is lost
abbrev pub loose_on_two : Sample
loose_on_two = record {
  deck = deck_with 4 2 (device 0 ∷ device 1 ∷ []) [] (first (write_zero 0xc2 0) ∷ program 2 1 (write_zero 0xc2 0) ∷ []);
  asked =
      go ++ line (lines.Start 2 1) ++ line (lines.Run 1) ++ line lines.FailCache;
  shows = [];
  devices = [];
  frames = [];
}

-- in rising order of devices
abbrev pub two_losses_row : Row
two_losses_row =
    row loose_on_two
    (texts ("START 1 0 ACCEPTED 1" ∷ "END 1 0 1 0 0C 0 -" ∷ "END 1 0 1 1 0C 0 -" ∷ "IO 1 0" ∷ "END 1 0 1 2 0C 0 -" ∷ "CFW 0 LOOSEN 0"
    ∷ "OVER 1 0 1 FULL" ∷ "START 2 1 ACCEPTED 1" ∷ "END 2 1 1 0 0C 0 -" ∷ "END 2 1 1 1 0C 0 -" ∷ "IO 1 0" ∷ "END 2 1 1 2 0C 0 -"
    ∷ "CFW 1 LOOSEN 0" ∷ "OVER 2 1 1 FULL" ∷ "CFW 0 LOST 1 0001" ∷ "CFW 1 LOST 1 0001" ∷ "FAIL CACHE DONE"
    ∷ "DEVICE 0 READS 1 WRITES 0 LOST 0" ∷ "DEVICE 1 READS 1 WRITES 0 LOST 0" ∷ "FINISH" ∷ []))

-- a fast write is destaged to a pair: the second part is done at a step
abbrev pub pair_is_destaged : Sample
pair_is_destaged = record {
  deck = two (write_zero 0xc0 0 ∷ []);
  asked =
      line (lines.Pair 0 1) ++ settle ++ go ++ back ++ step;
  shows = [];
  devices = [];
  frames = [];
}

-- and told as background
abbrev pub second_row : Row
second_row =
    row pair_is_destaged
    (paired
    ++ texts ("START 1 0 ACCEPTED 1" ∷ "END 1 0 1 0 0C 0 -" ∷ "END 1 0 1 1 0C 0 -" ∷ "IO 1 0" ∷ "END 1 0 1 2 0C 0 -" ∷ "OVER 1 0 1 FULL"
    ∷ "BACK 0 HALF 0" ∷ "IO 0 1" ∷ "BACK 0 FINISHED 0" ∷ "IO 0 1" ∷ "DEVICE 0 READS 16 WRITES 17 LOST 0" ∷ "DEVICE 1 LENT 0"
    ∷ "FRAME 0 0 CLEAN" ∷ "FINISH" ∷ []))

-- the program that is drawn first of seed 1: four records of 4,096 bytes are formatted on track 3 of a pair of two cylinders

abbrev wide_device : ℕ → DeviceLine
wide_device d = record { number = d; geometry = D3390; cylinders = 2 }

abbrev wide_extent : Ccw
wide_extent = record { command = 0x63; flags = 0x40; count = 16; given = 0xc0 ∷ 0xc0 ∷ 0x10 ∷ replicate 10 0 ++ 1 ∷ 0 ∷ 0x0e ∷ [] }

abbrev formatted : ℕ → ℕ → Ccw
formatted flags r = record {
  command = 0x1d;
  flags = flags;
  count = 4104;
  given = 0 ∷ 0 ∷ 0 ∷ 3 ∷ r ∷ 0 ∷ 0x10 ∷ 0 ∷ 0xa5 ∷ 0xfa ∷ 0xe1 ∷ 0x99 ∷ 0x20 ∷ 0x97 ∷ 0xaa ∷ 0x0e ∷ [];
}

abbrev pub drawn : Sample
drawn = record {
  deck = deck_with 64 16 (wide_device 0 ∷ wide_device 1 ∷ wide_device 2 ∷ []) []
      (first (wide_extent ∷ locate 3 4 3 0 ∷ formatted 0x40 1 ∷ formatted 0x40 2 ∷ formatted 0x40 3 ∷ formatted 0 4 ∷ []) ∷ []);
  asked = line (lines.Pair 0 1) ++ settle ++ go ++ settle ++ line (lines.Settle 2);
  shows = [];
  devices = [];
  frames = [];
}

-- a deck as text, and its report

abbrev pub first_deck : List ℕ
first_deck =
    codes "DECK 1\nCACHE 1\nSTORE 0\nDEVICE 0 3390 1\nPROGRAM 1 0\nCCW 63 40 16 40C01000 00000000 00000000 0000000E\n"
    ++ codes "CCW 47 40 16 06000001 00000000 00000000 00000000\nCCW 06 00 8\nEND\nEVENTS\nSTART 1 0\nRUN 0\n"

abbrev pub first_report : List ℕ
first_report =
    codes "START 1 0 ACCEPTED 1\nEND 1 0 1 0 0C 0 -\nEND 1 0 1 1 0C 0 -\nIO 1 0\nEND 1 0 1 2 0C 0 -\nDATA 0000000000000000\n"
    ++ codes "OVER 1 0 1 FULL\nDEVICE 0 READS 1 WRITES 0 LOST 0\nFRAME 0 0 CLEAN\nFINISH\n"
