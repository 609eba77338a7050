-- What is seen of a volume in memory, and what its calls make of it.
use Rattle.std.specs.Prelude.{ℕ, ◌+◌, ◌*◌, Bool, true, false, List, [], Option, Some, None, if◌then◌else◌, length, map, slice_index_or, slice_set}
use Rattle.std.specs.List.{range_with_len}
use Rattle.ckd_types.specs.Track.{empty_track, track_bytes}
use Rattle.ckd_outside.specs.Memory.{to_come}
use Rattle.device_outside.specs.Lists.{is_in}
use Rattle.device_outside.specs.Volume.{Plan, VolumeView, counted, counted_if}

pub record Disk : Type 0 where
  pub tracks : List (List ℕ)
  pub delivered : Option (List ℕ)  -- by the last read that didn't fail
  pub reads : ℕ
  pub writes : ℕ
  pub faults : ℕ
  pub plan : Plan
  pub spoiled : Bool  -- then it doesn't tell what it holds

unfoldable pub empty_bytes : ℕ → List ℕ
empty_bytes t = track_bytes (empty_track t)

abbrev pub empty_contents : ℕ → List (List ℕ)
empty_contents n = map empty_bytes (range_with_len 0 n)

abbrev pub new_disk : ℕ → List ℕ → List ℕ → Disk
new_disk cylinders fail_reads fail_writes = record {
  tracks = empty_contents (cylinders * 15);
  delivered =
      None;
  reads = 0;
  writes = 0;
  faults = 0;
  plan = record { reads = fail_reads; writes = fail_writes };
  spoiled =
      false;
}

-- its allowance: the listed calls that are still to come
abbrev pub disk_view : Disk → VolumeView (List ℕ)
disk_view d = record {
  contents = if d.spoiled then None else Some d.tracks;
  tracks = length d.tracks;
  delivered = d.delivered;
  reads = d.reads;
  writes = d.writes;
  faults = d.faults;
  plan = Some d.plan;
  allowance = Some (to_come d.reads d.plan.reads + to_come d.writes d.plan.writes);
}

abbrev pub read_fails : Disk → Bool
read_fails d = is_in (counted d.reads) d.plan.reads

abbrev pub write_fails : Disk → Bool
write_fails d = is_in (counted d.writes) d.plan.writes

abbrev pub read_of_disk : Disk → ℕ → Disk
read_of_disk d t = record d {
  delivered = (if read_fails d then d.delivered else Some
      (slice_index_or d.tracks t []));
  reads = counted d.reads;
  faults = counted_if (read_fails d) d.faults;
}

-- a write that fails leaves no bytes
abbrev pub written_disk : Disk → ℕ → List ℕ → Disk
written_disk d t bytes = record d {
  tracks = slice_set d.tracks t (if write_fails d then [] else bytes);
  writes =
      counted d.writes;
  faults = counted_if (write_fails d) d.faults;
}

abbrev pub spoiled_disk : Disk → ℕ → List ℕ → Disk
spoiled_disk d t bytes = record d { tracks = slice_set d.tracks t bytes; spoiled = true }
