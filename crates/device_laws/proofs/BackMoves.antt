-- The transfers of what a device does by itself: a copy, a track that is staged, and one with a frame that is saved.
use Rattle.std.proofs.Common.{◌≤◌, ◌||◌, ℕ, Bool, true, false, Option, Some, None, is_some, refl, arith}
use Rattle.std.specs.Prelude.{if◌then◌else◌}
use Rattle.ckd_types.specs.declared.paths.Side.{Side}
use Rattle.track_image.specs.Image.{Image}
use Rattle.device_outside.specs.Interaction.{Done, Ask}
use Rattle.device_defs.specs.declared.answers.Did.{Did}
use Rattle.device_defs.specs.declared.answers.Took.{Took}
use Rattle.device_defs.specs.declared.answers.Took.TheVariants.{Whole, Opened, Unwritten}
use Rattle.device_defs.specs.declared.answers.Did.TheVariants.{Skipped}
use Rattle.device_outside.specs.Pool.{WantFrame}
use Rattle.device_defs.specs.Memory.{tried}
use Rattle.device_defs.specs.Background.{other, saved_by, saved, copied, copy_read, copy_by, unfilled, staged_image, staged_bytes, staging_granted, stage}
use Rattle.device_defs.specs.Contents.{Contents}
use Rattle.device_defs.specs.Image.{Got, read_counted, level_bytes, image_of}
use Rattle.device_defs.specs.Store.{OfBackground, Store, frame_at, is_lost}
use Rattle.device_defs.specs.Transfers as M
use Rattle.device_defs.specs.Transfers.{Moves, Miss, FramedTrack, Copy, Staging, Within, Makes}
use Rattle.device_defs.specs.Writing.{write_counted, write_opened}
use Rattle.device_laws.proofs.QuietParts.{Quiet, quiet_done, quiet_try, quiet_ask, quiet_then, quiet_if, quiet_moves, then_quiet, failed_quiet, done_quiet}
use Rattle.device_laws.proofs.ReadMoves.{filled_quiet}
use Rattle.device_laws.proofs.counted.ReadCounts.{level_walk}
use Rattle.device_laws.proofs.counted.Counting.{moves_of, counts_weaker}
use Rattle.device_laws.proofs.counted.WriteCounts.{saved_counts}
use Rattle.device_laws.specs.Moved.{sides_writing}

module _ {F P H R : Type 0} (c : Contents F P H R) where
  -- A copy

  copied_quiet : (t : ℕ) (side : Side) (s : Store F P H) (ok : Bool) → Quiet (copied c t side s ok)
  copied_quiet t side s true = quiet_done
  copied_quiet t side s false = quiet_then (λ z _. Done z _) (failed_quiet c s side None) (λ z _. quiet_done)

  copy_fits : (s : Store F P H) (w : ℕ) → w ≤ 1 → Within s Copy 1 w
  copy_fits s w le = record { least_reads = omega arith; most_reads = omega arith; least_writes = omega arith; most_writes = le }

  read_moves : (s z : Store F P H) (t : ℕ) (side : Side) (bytes : Option R) → Moves (Within s Copy) 1 0 (copy_read c t side z bytes)
  unfolding M.Moves
  read_moves s z t side None =
      quiet_moves (Within s Copy) 1 0 (copy_read c t side z None)
      (quiet_then (λ y _. Done y _) (failed_quiet c z (other side) None) (λ y _. quiet_done)) (copy_fits s 0 (omega arith))
  read_moves s z t side (Some r) = λ ok. quiet_moves (Within s Copy) 1 1 (copied c t side (write_counted z ok) ok)
      (copied_quiet t side (write_counted z ok) ok) (copy_fits s 1 (omega arith))

  pub copy_moves : (s : Store F P H) (t : ℕ) (side : Side) → Makes s Copy (copy_by c s t (Some side))
  unfolding M.Moves
  copy_moves s t side = record { moves = λ bytes. read_moves s (read_counted s (is_some bytes)) t side bytes }

  -- A track that is staged

  unfilled_quiet : (s : Store F P H) (t : ℕ) (d : Option Did) → Quiet (unfilled c s t d)
  unfilled_quiet s t d = quiet_ask (λ _. quiet_done)

  image_quiet : (t : ℕ) (s : Store F P H) (g : Got R) (i : Option Image) → Quiet (staged_image c t s g i)
  image_quiet t s g None = unfilled_quiet s t _
  image_quiet t s g (Some i) = quiet_then (λ z _. Done z _) (filled_quiet c s t i) (λ z _. quiet_done)

  pub bytes_quiet : (t : ℕ) (s : Store F P H) (g : Got R) (bytes : Option R) → Quiet (staged_bytes c t s g bytes)
  bytes_quiet t s g None = unfilled_quiet s t _
  bytes_quiet t s g (Some r) = quiet_try (λ ok. quiet_if ok (image_quiet t s g (image_of c s t r)) (unfilled_quiet s t None))

  stage_fits : (s : Store F P H) (t r w : ℕ) → Within s (Miss t) r w → Within s (Staging t) r w
  stage_fits s t r w x = record { least_reads = omega arith; most_reads = x.most_reads; least_writes = omega arith; most_writes = x.most_writes }

  nothing_fits : (s : Store F P H) (t : ℕ) → Within s (Staging t) 0 0
  nothing_fits s t = record { least_reads = omega arith; most_reads = omega arith; least_writes = omega arith; most_writes = omega arith }

  granted_moves : (s : Store F P H) (t : ℕ) (given : Bool) → Moves (Within s (Staging t)) 0 0 (staging_granted c s t given)
  unfolding M.Moves
  granted_moves s t true =
      then_quiet (Within s (Staging t)) 0 0 (level_bytes c s t) (λ z g. staged_bytes c t z g g.bytes)
      (moves_of (counts_weaker (level_walk c s t) (λ r w z g x. stage_fits s t r w x.within)))
      (λ z g. bytes_quiet t z g g.bytes)
  granted_moves s t false = nothing_fits s t

  tried_moves : (s : Store F P H) (t : ℕ) (ok : Bool) → Moves (Within s (Staging t)) 0 0
      (if ok then Ask (WantFrame s.device t) (staging_granted c s t) else Done s None)
  unfolding M.Moves
  tried_moves s t true = λ given. granted_moves s t given
  tried_moves s t false = nothing_fits s t

  stage_by : (s : Store F P H) (t : ℕ) (b : Bool) → Moves (Within s (Staging t)) 0 0
      (if b then Done s (Some (Skipped t)) else tried s (Ask (WantFrame s.device t) (staging_granted c s t)))
  unfolding M.Moves
  stage_by s t true = nothing_fits s t
  stage_by s t false = λ ok. tried_moves s t ok

  pub stage_moves : (s : Store F P H) (t : ℕ) → Makes s (Staging t) (stage c s t)
  stage_moves s t = record { moves = stage_by s t (is_some (frame_at s t) || is_lost s t) }

  -- A track with a frame that is saved

  open_quiet : (s : Store F P H) (t : ℕ) (i : Image) (was_loose : Bool) → Quiet (write_opened c s t i OfBackground was_loose)
  open_quiet s t i true = quiet_ask (λ _. quiet_done)
  open_quiet s t i false = quiet_done

  pub saved_quiet : (t : ℕ) (i : Image) (d : Did) (fault : Option Side) (was_loose : Bool) (failed : Option Side) (s : Store F P H) (took : Took) →
      Quiet (saved_by c t i d fault was_loose failed s took)
  saved_quiet t i d fault was_loose failed s Whole = quiet_then (λ z _. Done z _) (done_quiet c s t i false) (λ z _. quiet_done)
  saved_quiet t i d fault was_loose failed s Opened = quiet_then (λ z _. Done z _) (open_quiet s t i was_loose) (λ z _. quiet_done)
  saved_quiet t i d fault was_loose failed s Unwritten = quiet_done

  pub saved_moves : (s : Store F P H) (t : ℕ) (i : Image) (d : Did) (fault : Option Side) → Makes s FramedTrack (saved c s t i d fault)
  saved_moves s t i d fault = record {
    moves = moves_of (counts_weaker (saved_counts c (sides_writing s) t i d s refl fault) (λ r w z o h. rw h.reads (record {
      least_reads = omega arith;
      most_reads = omega arith;
      least_writes = omega arith;
      most_writes = h.most;
    })));
  }
