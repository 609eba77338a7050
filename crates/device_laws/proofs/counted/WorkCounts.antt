-- The reads and writes of what a device does by itself.
use Rattle.std.proofs.Common.{◌≡◌, ◌≤◌, ℕ, Bool, true, false, List, [], ◌∷◌, Option, Some, None, is_some, refl, arith}
use Rattle.std.specs.Prelude.{◌||◌}
use Rattle.ckd_types.specs.declared.paths.Side.{Side}
use Rattle.track_image.specs.Image.{Image}
use Rattle.device_outside.specs.Interaction.{Done, and_then}
use Rattle.device_defs.specs.declared.answers.Did.{Did}
use Rattle.device_defs.specs.declared.answers.Did.TheVariants.{Nothing, Recovered, Staged, Skipped, Destaged, Fault, BadBytes}
use Rattle.device_defs.specs.Background as D
use Rattle.device_defs.specs.Background.{
  other,
  copies_to,
  to_copy,
  to_recover,
  to_destage,
  saved,
  recovered_image,
  recovered_bytes,
  recover,
  copied,
  copy_read,
  copy_by,
  unfilled,
  staged_image,
  staged_bytes,
  staging_granted,
  stage,
  destage_first,
  stage_first,
  copy_first,
  recover_first,
  work,
}
use Rattle.device_defs.specs.Contents.{Contents}
use Rattle.device_defs.specs.Image.{Got, got, read_counted, image_of, filled}
use Rattle.device_defs.specs.Losses.{framed_image}
use Rattle.device_defs.specs.Store.{Store, frame_at, is_lost}
use Rattle.device_defs.specs.Transfers.{both}
use Rattle.device_defs.specs.Writing.{write_counted}
use Rattle.device_laws.proofs.QuietParts.{failed_quiet}
use Rattle.device_laws.proofs.ReadMoves.{filled_quiet}
use Rattle.device_laws.specs.Moved.{sides_up, sides_writing, DidTransfers, WorkTransfers}
use Rattle.device_laws.proofs.counted.Counting.{
  Counts,
  counts_done,
  counts_try,
  counts_ask,
  counts_read,
  counts_write,
  counts_then,
  counts_weaker,
  counts_past,
  counts_if,
  counts_from,
}
use Rattle.device_laws.proofs.counted.ReadCounts.{LevelSo, level_gave, level_none, level_failed, level_reads}
use Rattle.device_laws.proofs.counted.SidesLeft.{writing_up}
use Rattle.device_laws.proofs.counted.WriteCounts.{SavedBy, no_room, was_fault, now_fault, saved_whole, saved_half, saved_none, saved_counts}

module _ {F P H R : Type 0} (c : Contents F P H R) where
  -- at a store of which this many sides are up, and take what is written
  module _ (up n : ℕ) where
    abbrev Ends : ℕ → ℕ → Store F P H → Option Did → Type 0
    Ends r w z o = WorkTransfers up n o r w

    lacking : (r w : ℕ) → r ≤ up → w ≤ up → WorkTransfers up n None r w
    lacking r w le less = record { most_reads = le; most_writes = less; by_answer = tt }

    -- a track that was read, or wasn't, and is saved
    abbrev Fits : Did → ℕ → Type 0
    Fits d r = DidTransfers n d r 1

    saved_fits : (d : Did) (r : ℕ) → r ≤ 1 → r ≤ up → Fits d r → {w : ℕ} {o : Option Did} → w ≤ up → SavedBy n d None w o → WorkTransfers up n o r w
    saved_fits d r one le fits less no_room = lacking r 0 le less
    saved_fits d r one le fits less (now_fault {w = w} more) =
        record { most_reads = le; most_writes = less; by_answer = omega (arith, more) }
    saved_fits d r one le fits less saved_whole = record { most_reads = le; most_writes = less; by_answer = fits }
    saved_fits d r one le fits less saved_half = record { most_reads = le; most_writes = less; by_answer = (one, refl) }
    saved_fits d r one le fits less (saved_none none) = record { most_reads = le; most_writes = less; by_answer = (one, refl, λ e. none) }

    faulty_fits : (d : Did) (side : Side) (m r : ℕ) → 1 ≤ r → r ≤ up → {w : ℕ} {o : Option Did} → w ≤ up → SavedBy m d (Some side) w o →
        WorkTransfers up n o r w
    faulty_fits d side m r one le less no_room = lacking r 0 le less
    faulty_fits d side m r one le less (was_fault {w = w}) =
        record { most_reads = le; most_writes = less; by_answer = omega (arith, one) }

    saved_here : (s : Store F P H) → sides_writing s ≡ n → sides_up s ≤ up → (t : ℕ) (i : Image) (d : Did) → Fits d 0 →
        Counts Ends 0 0 (saved c s t i d None)
    saved_here s same few t i d fits =
        counts_weaker (saved_counts c n t i d s same None)
        (λ r w z o h.
        let le = h.most in
        let most = writing_up s in
        rw h.reads (saved_fits d 0 (omega arith) (omega arith) fits (omega (arith, le, most, same, few)) h.by))

    -- behind one read
    saved_read : (s : Store F P H) → sides_writing s ≡ n → sides_up s ≤ up → 1 ≤ up → (t : ℕ) (i : Image) (d : Did) → Fits d 1 →
        Counts Ends 1 0 (saved c s t i d None)
    saved_read s same few one t i d fits =
        counts_weaker (counts_from 1 0 (saved_counts c n t i d s same None))
        (λ r w z o h.
        let le = h.is.most in
        let most = writing_up s in
        let e = h.more_reads in
        let f = h.is.reads in
        let is : r ≡ 1 = omega (arith, e, f) in
        let wrote : w ≡ h.writes = let k = h.more_writes in omega (arith, k) in
        rw is (rw wrote (saved_fits d 1 (omega arith) one fits (omega (arith, le, most, same, few)) h.is.by)))

    -- behind reads of which one failed
    saved_late : (s : Store F P H) → sides_up s ≤ up → (reads : ℕ) → 1 ≤ reads → reads ≤ up → (t : ℕ) (i : Image) (d : Did) (side : Side) →
        Counts Ends reads 0 (saved c s t i d (Some side))
    saved_late s few reads one le t i d side =
        counts_weaker (counts_from reads 0 (saved_counts c (sides_writing s) t i d s refl (Some side)))
        (λ r w z o h.
        let less = h.is.most in
        let most = writing_up s in
        let e = h.more_reads in
        let f = h.is.reads in
        let is : r ≡ reads = omega (arith, e, f) in
        let wrote : w ≡ h.writes = let k = h.more_writes in omega (arith, k) in
        rw is (rw wrote (faulty_fits d side (sides_writing s) reads one le (omega (arith, less, most, few)) h.is.by)))

    -- Recovery

    failed_fits : (side : Side) (r w : ℕ) → 1 ≤ r → r ≤ up → w ≤ up → WorkTransfers up n (Some (Fault side)) r w
    failed_fits side r w one le less = record { most_reads = le; most_writes = less; by_answer = omega (arith, one) }

    gave_so : (s : Store F P H) → sides_writing s ≡ n → sides_up s ≤ up → 1 ≤ up → (t : ℕ) (side : Side) (bytes : R) (o : Option Image) →
        Counts Ends 1 0 (recovered_image c t s (got side (Some bytes) None) o)
    gave_so s same few one t side bytes None = counts_done (record { most_reads = one; most_writes = omega arith; by_answer = (refl, refl) })
    gave_so s same few one t side bytes (Some i) = saved_read s same few one t i (Recovered t) (omega arith, refl)

    late_image : (s : Store F P H) → sides_up s ≤ up → (reads : ℕ) → 1 ≤ reads → reads ≤ up → (t : ℕ) (last side : Side) (bytes : R) (o : Option Image) →
        Counts Ends reads 0 (recovered_image c t s (got last (Some bytes) (Some side)) o)
    late_image s few reads one le t last side bytes None = counts_done (failed_fits side reads 0 one le (omega arith))
    late_image s few reads one le t last side bytes (Some i) = saved_late s few reads one le t i (Recovered t) side

    late_so : (s : Store F P H) → sides_up s ≤ up → (reads : ℕ) → 1 ≤ reads → reads ≤ up → (t : ℕ) (last side : Side) (bytes : Option R) →
        Counts Ends reads 0 (recovered_bytes c t s (got last bytes (Some side)) bytes)
    late_so s few reads one le t last side None = counts_done (failed_fits side reads 0 one le (omega arith))
    late_so s few reads one le t last side (Some x) =
        counts_try (λ ok. counts_if ok (λ _. late_image s few reads one le t last side x (image_of c s t x))
        (λ _. counts_done (lacking reads 0 le (omega arith))))

    recovered_so : (s : Store F P H) → sides_writing s ≡ n → sides_up s ≡ up → (t : ℕ) {r w : ℕ} {z : Store F P H} {g : Got R} → r ≤ up → LevelSo s r w z g →
        Counts Ends r w (recovered_bytes c t z g g.bytes)
    recovered_so s same few t le (level_gave {side = side} {bytes = bytes}) =
        let z = read_counted s true in
        counts_try (λ ok. counts_if ok (λ _. gave_so z same (omega (arith, few)) le t side bytes (image_of c z t bytes))
        (λ _. counts_done (lacking 1 0 le (omega arith))))
    recovered_so s same few t le level_none =
        counts_done (record { most_reads = omega arith; most_writes = omega arith; by_answer = (omega arith, refl, λ e. absurd (omega (arith, e))) })
    recovered_so s same few t {z = z} le (level_failed {r = r} {last = last} {side = side} {bytes = bytes} one less) =
        let e = less.is in late_so z (omega (arith, e, few)) r one le t last side bytes

    recover_so : (s : Store F P H) → sides_writing s ≡ n → sides_up s ≡ up → (t : ℕ) (o : Option F) → Counts Ends 0 0 (recover c s t o)
    recover_so s same few t (Some f) = saved_here s same (omega (arith, few)) t (framed_image c s t (Some f)) (Recovered t) (omega arith, refl)
    recover_so s same few t None =
        counts_then _ (level_reads c s t)
        (λ r w z g h. recovered_so s same few t (let le = h.most in omega (arith, le, few)) h.so)

    -- A copy

    copied_so : (t : ℕ) (side : Side) → 1 ≤ up → (s : Store F P H) (ok : Bool) → Counts Ends 1 1 (copied c t side s ok)
    copied_so t side one s true = counts_done (record { most_reads = one; most_writes = one; by_answer = (refl, refl) })
    copied_so t side one s false = counts_past _ (failed_quiet c s side None) (λ z _. counts_done (failed_fits side 1 1 (omega arith) one one))

    copy_read_so : (t : ℕ) (side : Side) → 1 ≤ up → (s : Store F P H) (bytes : Option R) → Counts Ends 1 0 (copy_read c t side s bytes)
    copy_read_so t side one s None =
        counts_past _ (failed_quiet c s (other side) None)
        (λ z _. counts_done (failed_fits (other side) 1 0 (omega arith) one (omega arith)))
    copy_read_so t side one s (Some r) = counts_write (λ ok. copied_so t side one (write_counted s ok) ok)

    nothing : WorkTransfers up n (Some Nothing) 0 0
    nothing = record { most_reads = omega arith; most_writes = omega arith; by_answer = (omega arith, refl, λ e. absurd (omega (arith, e))) }

    up_by : (s : Store F P H) (t : ℕ) (side : Side) → copies_to s t ≡ Some side → (a b : Bool) → s.a.up ≡ a → s.b.up ≡ b → 1 ≤ both a b
    up_by s t side is true true e f = omega arith
    up_by s t side is true false e f = omega arith
    up_by s t side is false true e f = omega arith
    up_by s t side is false false e f = let none : copies_to s t ≡ None = rw (e, f) refl in absurd (cc)

    copy_so : (s : Store F P H) → sides_up s ≡ up → (t : ℕ) (o : Option Side) → copies_to s t ≡ o → Counts Ends 0 0 (copy_by c s t o)
    copy_so s few t None is = counts_done nothing
    copy_so s few t (Some side) is =
        let one = up_by s t side is s.a.up s.b.up refl refl in
        counts_read (λ bytes. copy_read_so t side (omega (arith, one, few)) (read_counted s (is_some bytes)) bytes)

    -- A track that is staged

    unfilled_so : (r w : ℕ) (s : Store F P H) (t : ℕ) (d : Option Did) → WorkTransfers up n d r w → Counts Ends r w (unfilled c s t d)
    unfilled_so r w s t d h = counts_ask (λ _. counts_done h)

    staged_past : (s : Store F P H) (t r : ℕ) (i : Image) (d : Option Did) → WorkTransfers up n d r 0 →
        Counts Ends r 0 (and_then (filled c s t i) (λ z _. Done z d))
    staged_past s t r i d h = counts_past (λ z _. Done z d) (filled_quiet c s t i) (λ z _. counts_done h)

    module _ (s : Store F P H) (t : ℕ) where
      gave_image : 1 ≤ up → (z : Store F P H) (side : Side) (bytes : R) (o : Option Image) →
          Counts Ends 1 0 (staged_image c t z (got side (Some bytes) None) o)
      gave_image le z side bytes None =
          unfilled_so 1 0 z t (Some (BadBytes side)) (record { most_reads = le; most_writes = omega arith; by_answer = (refl, refl) })
      gave_image le z side bytes (Some i) =
          staged_past z t 1 i (Some (Staged t)) (record { most_reads = le; most_writes = omega arith; by_answer = (refl, refl) })

      module _ (r : ℕ) (one : 1 ≤ r) (le : r ≤ up) (z : Store F P H) (last side : Side) where
        fault_image : (x : R) (o : Option Image) → Counts Ends r 0 (staged_image c t z (got last (Some x) (Some side)) o)
        fault_image x None = unfilled_so r 0 z t (Some (Fault side)) (failed_fits side r 0 one le (omega arith))
        fault_image x (Some i) = staged_past z t r i (Some (Fault side)) (failed_fits side r 0 one le (omega arith))

        fault_bytes : (bytes : Option R) → Counts Ends r 0 (staged_bytes c t z (got last bytes (Some side)) bytes)
        fault_bytes None = unfilled_so r 0 z t (Some (Fault side)) (failed_fits side r 0 one le (omega arith))
        fault_bytes (Some x) =
            counts_try (λ ok. counts_if ok (λ _. fault_image x (image_of c z t x)) (λ _. unfilled_so r 0 z t None (lacking r 0 le (omega arith))))

      staged_so : {r w : ℕ} {z : Store F P H} {g : Got R} → r ≤ up → LevelSo s r w z g → Counts Ends r w (staged_bytes c t z g g.bytes)
      staged_so le (level_gave {side = side} {bytes = bytes}) =
          let z = read_counted s true in
          counts_try (λ ok. counts_if ok (λ _. gave_image le z side bytes (image_of c z t bytes))
          (λ _. unfilled_so 1 0 z t None (lacking 1 0 le (omega arith))))
      staged_so le level_none = unfilled_so 0 0 s t (Some Nothing) nothing
      staged_so le (level_failed {r = r} {z = z} {last = last} {side = side} {bytes = bytes} one less) = fault_bytes r one le z last side bytes

    skipped : (t : ℕ) → WorkTransfers up n (Some (Skipped t)) 0 0
    skipped t = record { most_reads = omega arith; most_writes = omega arith; by_answer = (refl, refl) }

    granted_so : (s : Store F P H) → sides_up s ≡ up → (t : ℕ) (given : Bool) → Counts Ends 0 0 (staging_granted c s t given)
    granted_so s few t true =
        counts_then _ (level_reads c s t)
        (λ r w z g h. staged_so s t (let le = h.most in omega (arith, le, few)) h.so)
    granted_so s few t false = counts_done (skipped t)

    stage_so : (s : Store F P H) → sides_up s ≡ up → (t : ℕ) → Counts Ends 0 0 (stage c s t)
    stage_so s few t =
        counts_if (is_some (frame_at s t) || is_lost s t) (λ _. counts_done (skipped t))
        (λ _. counts_try (λ ok. counts_if ok (λ _. counts_ask (λ given. granted_so s few t given))
        (λ _. counts_done (lacking 0 0 (omega arith) (omega arith)))))

    -- The order

    module _ (s : Store F P H) (same : sides_writing s ≡ n) (few : sides_up s ≡ up) where
      destage_so : (o : Option ℕ) → Counts Ends 0 0 (destage_first c s o)
      destage_so None = counts_done nothing
      destage_so (Some t) = saved_here s same (omega (arith, few)) t (framed_image c s t (frame_at s t)) (Destaged t) (refl, refl)

      queue_so : (ts : List ℕ) → Counts Ends 0 0 (stage_first c s ts)
      queue_so [] = destage_so (to_destage c s)
      queue_so (t ∷ ts) = stage_so (record s { queue = ts }) few t

      copies_so : (o : Option ℕ) → Counts Ends 0 0 (copy_first c s o)
      copies_so None = queue_so s.queue
      copies_so (Some t) = copy_so s few t (copies_to s t) refl

      recovers_so : (o : Option ℕ) → Counts Ends 0 0 (recover_first c s o)
      recovers_so None = copies_so (to_copy s)
      recovers_so (Some t) = recover_so s same few t (frame_at s t)

      pub work_counts : Counts Ends 0 0 (work c s)
      unfolding D.work
      work_counts = recovers_so (to_recover c s)
