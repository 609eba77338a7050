-- Work in the background makes exactly the transfers of the rules.
use Rattle.std.proofs.Common.{◌≡◌, ◌+◌, ℕ, Bool, true, false, List, [], ◌∷◌, Option, Some, None, is_some, refl, sym, subst, arith}
use Rattle.std.specs.Prelude.{if◌then◌else◌, ◌&&◌, ◌||◌}
use Rattle.ckd_types.specs.declared.paths.Side.{Side}
use Rattle.ckd_types.specs.declared.paths.Side.TheVariants.{A, B}
use Rattle.track_image.specs.Image.{Image}
use Rattle.device_outside.specs.Interaction.{Interaction, Done, Ask, Tell, and_then}
use Rattle.device_outside.specs.Keeper.{Firm}
use Rattle.device_outside.specs.Pool.{WantFrame, answer, after}
use Rattle.device_outside.specs.Told as T
use Rattle.device_outside.specs.Told.{Told, RunOutcome, hold, calls_of, read_fails, write_fails}
use Rattle.device_defs.specs.declared.answers.Did.{Did}
use Rattle.device_defs.specs.declared.answers.Did.TheVariants.{Recovered, Staged, Skipped, Destaged, Half, Fault}
use Rattle.device_defs.specs.declared.answers.Took.{Took}
use Rattle.device_defs.specs.declared.answers.Took.TheVariants.{Whole, Opened, Unwritten}
use Rattle.device_defs.specs.Background as B
use Rattle.device_defs.specs.Background.{
  did,
  other,
  copies_to,
  to_copy,
  to_recover,
  to_destage,
  saved_by,
  saving,
  saved,
  recovered_image,
  recovered_bytes,
  recover,
  copied,
  copy_read,
  copy_by,
  unfilled,
  staged_image,
  staged_bytes,
  staging_granted,
  stage,
  destage_first,
  stage_first,
  copy_first,
  recover_first,
  work,
}
use Rattle.device_defs.specs.Contents.{by_plain}
use Rattle.device_defs.specs.Device.{with_store, event_begun, event_ended}
use Rattle.device_defs.specs.Effects.{hardened}
use Rattle.device_defs.specs.Events as N
use Rattle.device_defs.specs.Events.{background}
use Rattle.device_defs.specs.Image.{Got, read_counted, level_bytes, image_of}
use Rattle.device_defs.specs.Losses.{framed_image, settled, stale_everywhere, call_failed}
use Rattle.device_defs.specs.Marks.{MarksStore, MarksDevice}
use Rattle.device_defs.specs.Memory.{tried}
use Rattle.device_defs.specs.Owed.{hear, waiting_count}
use Rattle.device_defs.specs.Store.{OfBackground, takes_b, frame_at, patch_at, is_lost, is_loose}
use Rattle.device_defs.specs.Writing as V
use Rattle.device_defs.specs.Writing.{
  Wrote,
  wrote,
  write_side,
  write_counted,
  alone_b,
  unwritten,
  failed_a,
  first_a,
  write_first,
  firm_first,
  write_done,
  write_opened,
}
use Rattle.device_laws.proofs.QuietParts.{Quiet, quiet_done, quiet_try, quiet_ask, quiet_then, quiet_if, failed_quiet, done_quiet, hear_quiet, ended_quiet}
use Rattle.move_laws.specs.Exactly.{
  Transfers,
  no_transfers,
  writes_alone,
  with_reads,
  missed_reads,
  first_writes,
  saved_transfers,
  recovery_transfers,
  copy_transfers,
  stage_transfers,
  destage_transfers,
  queue_transfers,
  copied_transfers,
  work_transfers,
  work_of,
}
use Rattle.move_laws.proofs.Holds.{Made, made_none, made_on, made_then, hold_then, quiet_made, made_past}
use Rattle.move_laws.proofs.Looks.{level_made}
use Rattle.device_laws.proofs.counted.WriteCounts.{opened_quiet}

-- from one write on
made_write : {m : ℕ} {w z : Told} (side : Side) → Made 0 m (T.told_write w side) z → Made 0 (1 + m) w z
made_write A x = let a = x.reads in let b = x.writes in record { reads = a; writes = omega (arith, b) }
made_write B x = let a = x.reads in let b = x.writes in record { reads = a; writes = omega (arith, b) }

made_read : {r m : ℕ} {w z : Told} (side : Side) → Made r m (T.told_read w side) z → Made (1 + r) m w z
made_read A x = let a = x.reads in let b = x.writes in record { reads = omega (arith, a); writes = b }
made_read B x = let a = x.reads in let b = x.writes in record { reads = omega (arith, a); writes = b }

-- The first part of a write

module _ (t : ℕ) (r : Bool) where
  alone_quiet : (fault : Option Side) (first : Side) (s : MarksStore) (ok : Bool) → Quiet (alone_b by_plain t fault first s ok)
  alone_quiet fault first s true = quiet_done
  alone_quiet fault first s false =
      quiet_then (λ z _. Done (unwritten by_plain z t) (wrote Unwritten (Some first))) (failed_quiet by_plain s B (Some t)) (λ z _. quiet_done)

  abbrev First : ℕ → Told → RunOutcome MarksStore Wrote → Type 0
  First m w o = Made 0 m w o.told

  b_made : (s : MarksStore) (w : Told) (fault : Option Side) (first : Side) (takes : Bool) (last : MarksStore → MarksStore) (x : Wrote) →
      First (if takes then 1 else 0) w
      (hold true (if takes then write_side by_plain s B t r (alone_b by_plain t fault first) else Done (last s) x) w)
  unfolding T.hold
  b_made s w fault first true last x =
      let ok = if write_fails w.b then false else true in
      made_write B (quiet_made true (alone_quiet fault first (write_counted s ok) ok) (T.told_write w B))
  b_made s w fault first false last x = made_none w

  a_failed : (s : MarksStore) (w : Told) (takes : Bool) → First (if takes then 1 else 0) w
      (hold true (and_then (call_failed by_plain s A (Some t)) (λ z _. failed_a by_plain t r takes z)) w)
  a_failed s w takes =
      let talk = call_failed by_plain s A (Some t) in
      let o = hold true talk w in
      subst (First (if takes then 1 else 0) w) (sym (hold_then true talk (λ z _. failed_a by_plain t r takes z) w))
      (made_on (quiet_made true (failed_quiet by_plain s A (Some t)) w)
      (b_made o.state o.told (Some A) A takes (λ z. unwritten by_plain z t) (wrote Unwritten (Some A))))

  writes_of_both : (takes : Bool) → (1 + (if takes then 1 else 0)) ≡ (if takes then 2 else 1)
  writes_of_both true = refl
  writes_of_both false = refl

  a_made : (s : MarksStore) (w : Told) (fails : Bool) → First (if fails && takes_b s then 2 else 1) w
      (hold true (first_a by_plain t r (write_counted s (if fails then false else true)) (if fails then false else true)) (T.told_write w A))
  unfolding T.hold
  a_made s w false = record { reads = omega arith; writes = refl }
  a_made s w true =
      subst (λ (m : ℕ). First m w (hold true (first_a by_plain t r (write_counted s false) false) (T.told_write w A))) (writes_of_both (takes_b s))
      (made_write A (a_failed (write_counted s false) (T.told_write w A) (takes_b s)))

  sides_made : (s : MarksStore) (w : Told) (up : Bool) →
      First (if up then (if write_fails w.a && takes_b s then 2 else 1) else if takes_b s then 1 else 0) w
      (hold true (if up then write_side by_plain s A t r (first_a by_plain t r)
      else if takes_b s then write_side by_plain s B t r (alone_b by_plain t None B) else Done (settled by_plain s t) (wrote Unwritten None)) w)
  unfolding T.hold
  sides_made s w true = a_made s w (write_fails w.a)
  sides_made s w false = b_made s w None B (takes_b s) (λ z. settled by_plain z t) (wrote Unwritten None)

  first_made : (s : MarksStore) (w : Told) → First (first_writes s w) w (hold true (write_first by_plain s t r) w)
  unfolding V.write_first
  first_made s w = sides_made s w s.a.up

-- A track is saved

module _ (t : ℕ) (i : Image) (d : Did) (fault : Option Side) where
  saved_quiet : (was_loose : Bool) (failed : Option Side) (s : MarksStore) (took : Took) → Quiet (saved_by by_plain t i d fault was_loose failed s took)
  saved_quiet was_loose failed s Whole = quiet_then (λ z _. Done z (did fault (did failed d))) (done_quiet by_plain s t i false) (λ z _. quiet_done)
  saved_quiet was_loose failed s Opened =
      quiet_then (λ z _. Done z (did fault (Half t))) (opened_quiet by_plain s t i OfBackground was_loose) (λ z _. quiet_done)
  saved_quiet was_loose failed s Unwritten = quiet_done

  written_made : (was_loose : Bool) (s : MarksStore) (w : Told) → Made 0 (first_writes s w) w
      (hold true (and_then (write_first by_plain s t (by_plain.bytes i)) (λ y x. saved_by by_plain t i d fault was_loose x.fault y x.took)) w).told
  written_made was_loose s w =
      made_past true (write_first by_plain s t (by_plain.bytes i)) (λ y x. saved_by by_plain t i d fault was_loose x.fault y x.took) w
      (first_made t (by_plain.bytes i) s w) (λ y x. saved_quiet was_loose x.fault y x.took)

  same_writes : (w : Told) (n : ℕ) (b : Bool) (s z : MarksStore) → first_writes s w ≡ n → first_writes z w ≡ n → first_writes (if b then s else z) w ≡ n
  same_writes w n true s z e f = e
  same_writes w n false s z e f = f

  firm_made : (s : MarksStore) (w : Told) (loose : Bool) → Made 0 (first_writes s w) w
      (hold true (and_then (if loose then Tell (Firm s.device t (framed_image by_plain s t (frame_at s t)))
      (λ _. Done (stale_everywhere (hardened s t) t) true) else Done s false)
      (λ z was_loose. and_then (write_first by_plain z t (by_plain.bytes i)) (λ y x. saved_by by_plain t i d fault was_loose x.fault y x.took))) w).told
  unfolding T.hold
  firm_made s w true =
      let z = stale_everywhere (hardened s t) t in
      subst (λ (m : ℕ). Made 0 m w
      (hold true (and_then (write_first by_plain z t (by_plain.bytes i)) (λ y x. saved_by by_plain t i d fault true x.fault y x.took)) w).told)
      (same_writes w (first_writes s w) s.paired _ _ refl refl) (written_made true z w)
  firm_made s w false = written_made false s w

  saved_made : (s : MarksStore) (w : Told) → Made 0 (first_writes s w) w (hold true (saved by_plain s t i d fault) w).told
  unfolding T.hold
  saved_made s w = made_past true (saving by_plain s t i d fault) (λ z e. Done z (Some e)) w (firm_made s w (is_loose s t)) (λ z e. quiet_done)

-- What there is to do

abbrev Does : Transfers → Told → RunOutcome MarksStore (Option Did) → Type 0
Does x w o = Made x.reads x.writes w o.told

-- a recovery
image_does : (t : ℕ) (s : MarksStore) (w : Told) (g : Got Bool) (is_track : Bool) →
    Does (if is_track then writes_alone (first_writes s w) else no_transfers) w
    (hold true (recovered_image by_plain t s g (image_of by_plain s t is_track)) w)
unfolding T.hold
image_does t s w g true = saved_made t _ (Recovered t) g.fault s w
image_does t s w g false = made_none w

bytes_do : (t : ℕ) (s : MarksStore) (w : Told) (g : Got Bool) (bytes : Option Bool) →
    Does (saved_transfers s w bytes) w (hold true (recovered_bytes by_plain t s g bytes) w)
unfolding T.hold
bytes_do t s w g (Some is_track) = image_does t s w g is_track
bytes_do t s w g None = made_none w

recovery_does : (s : MarksStore) (w : Told) (t : ℕ) (o : Option Bool) → Does (recovery_transfers s w t o) w (hold true (recover by_plain s t o) w)
recovery_does s w t (Some f) = saved_made t (framed_image by_plain s t (Some f)) (Recovered t) None s w
recovery_does s w t None =
    let talk = level_bytes by_plain s t in
    let o = hold true talk w in
    subst (Does (recovery_transfers s w t None) w) (sym (hold_then true talk (λ z g. recovered_bytes by_plain t z g g.bytes) w))
    (made_then (level_made t s w) (bytes_do t o.state o.told o.answer o.answer.bytes))

-- a copy
copied_quiet : (t : ℕ) (side : Side) (s : MarksStore) (ok : Bool) → Quiet (copied by_plain t side s ok)
copied_quiet t side s true = quiet_done
copied_quiet t side s false =
    quiet_then (λ z _. Done z (Some (Fault side))) (failed_quiet by_plain s side None) (λ z _. quiet_done)

read_does : (t : ℕ) (side : Side) (s : MarksStore) (w : Told) (fails : Bool) →
    Does (if fails then no_transfers else writes_alone 1) w (hold true (copy_read by_plain t side s (if fails then None else Some true)) w)
unfolding T.hold
read_does t side s w true =
    quiet_made true (quiet_then (λ z _. Done z (Some (Fault (other side)))) (failed_quiet by_plain s (other side) None) (λ z _. quiet_done)) w
read_does t side s w false =
    let ok = if write_fails (calls_of w side) then false else true in
    made_write side (quiet_made true (copied_quiet t side (write_counted s ok) ok) (T.told_write w side))

copy_does : (t : ℕ) (s : MarksStore) (w : Told) (o : Option Side) → Does (copy_transfers w o) w (hold true (copy_by by_plain s t o) w)
unfolding T.hold
copy_does t s w (Some side) =
    let fails = read_fails (calls_of w (other side)) in
    made_read (other side) (read_does t side (read_counted s (is_some (if fails then None else Some true))) (T.told_read w (other side)) fails)
copy_does t s w None = made_none w

-- a track is staged
staged_quiet : (t : ℕ) (s : MarksStore) (g : Got Bool) (o : Option Image) → Quiet (staged_image by_plain t s g o)
staged_quiet t s g (Some i) =
    quiet_then (λ z _. Done z (Some (did g.fault (Staged t)))) (quiet_if (is_some (patch_at s t)) (quiet_ask (λ _. quiet_done)) quiet_done)
    (λ z _. quiet_done)
staged_quiet t s g None = quiet_ask (λ _. quiet_done)

bytes_quiet : (t : ℕ) (s : MarksStore) (g : Got Bool) (bytes : Option Bool) → Quiet (staged_bytes by_plain t s g bytes)
bytes_quiet t s g (Some r) = quiet_try (λ ok. quiet_if ok (staged_quiet t s g (image_of by_plain s t r)) (quiet_ask (λ _. quiet_done)))
bytes_quiet t s g None = quiet_ask (λ _. quiet_done)

granted_does : (s : MarksStore) (w y : Told) (t : ℕ) → y.a ≡ w.a → Made 0 0 w y → (given : Bool) →
    Does (if given then with_reads (missed_reads s t w) no_transfers else no_transfers) w (hold true (staging_granted by_plain s t given) y)
unfolding T.hold
granted_does s w y t same x true =
    let z =
    made_past true (level_bytes by_plain s t) (λ z g. staged_bytes by_plain t z g g.bytes) y (level_made t s y) (λ z g. bytes_quiet t z g g.bytes) in
    let a = x.reads in
    let b = x.writes in
    let c = z.reads in
    let d = z.writes in
    let e : missed_reads s t y ≡ missed_reads s t w = cc in
    record { reads = omega (arith, a, c, e); writes = omega (arith, b, d) }
granted_does s w y t same x false = x

stage_if : (s : MarksStore) (w : Told) (t : ℕ) (skips : Bool) →
    Does (if skips then no_transfers
    else if answer w.pool (WantFrame s.device t) then with_reads (missed_reads s t w) no_transfers else no_transfers) w
    (hold true (if skips then Done s (Some (Skipped t)) else tried s (Ask (WantFrame s.device t) (staging_granted by_plain s t))) w)
unfolding T.hold
stage_if s w t true = made_none w
stage_if s w t false =
    let given = answer w.pool (WantFrame s.device t) in
    granted_does s w (record w { pool = after w.pool (WantFrame s.device t) given }) t refl (record { reads = omega arith; writes = omega arith }) given

stage_does : (s : MarksStore) (w : Told) (t : ℕ) → Does (stage_transfers s w t) w (hold true (stage by_plain s t) w)
stage_does s w t = stage_if s w t (is_some (frame_at s t) || is_lost s t)

-- the first that applies
destage_does : (s : MarksStore) (w : Told) (o : Option ℕ) → Does (destage_transfers s w o) w (hold true (destage_first by_plain s o) w)
unfolding T.hold
destage_does s w (Some t) = saved_made t (framed_image by_plain s t (frame_at s t)) (Destaged t) None s w
destage_does s w None = made_none w

queue_does : (s : MarksStore) (w : Told) (ts : List ℕ) → Does (queue_transfers s w ts) w (hold true (stage_first by_plain s ts) w)
queue_does s w [] = destage_does s w (to_destage by_plain s)
queue_does s w (t ∷ ts) = stage_does (record s { queue = ts }) w t

copied_does : (s : MarksStore) (w : Told) (o : Option ℕ) → Does (copied_transfers s w o) w (hold true (copy_first by_plain s o) w)
copied_does s w (Some t) = copy_does t s w (copies_to s t)
copied_does s w None = queue_does s w s.queue

first_does : (s : MarksStore) (w : Told) (o : Option ℕ) → Does (work_transfers s w o) w (hold true (recover_first by_plain s o) w)
first_does s w (Some t) = recovery_does s w t (frame_at s t)
first_does s w None = copied_does s w (to_copy s)

work_does : (s : MarksStore) (w : Told) → Does (work_transfers s w (to_recover by_plain s)) w (hold true (work by_plain s) w)
unfolding B.work
work_does s w = first_does s w (to_recover by_plain s)

-- Its event

over_quiet : (d z : MarksDevice) (a : Option Did) → Quiet (event_ended by_plain d z a)
over_quiet d z a = quiet_then (λ s _. Done (record z { store = s }) a) (ended_quiet by_plain (waiting_count by_plain d.store) z.store) (λ s _. quiet_done)

module _ (d : MarksDevice) (w : Told) where
  abbrev Heard : RunOutcome MarksStore (Unit {0})
  Heard = hold true (hear by_plain 960 (event_begun d).store) w

  abbrev Body : MarksStore → Unit {0} → Interaction Bool Image MarksDevice (Option Did)
  Body s u = and_then (work by_plain s) (λ z did. Done (with_store (record (event_begun d) { store = s }) z) did)

  body_does : Made (work_of Heard).reads (work_of Heard).writes w (hold true (and_then (hear by_plain 960 (event_begun d).store) Body) w).told
  body_does =
      subst (λ (o : RunOutcome MarksDevice (Option Did)). Made (work_of Heard).reads (work_of Heard).writes w o.told)
      (sym (hold_then true (hear by_plain 960 (event_begun d).store) Body w))
      (made_on (quiet_made true (hear_quiet by_plain 960 (event_begun d).store) w)
      (made_past true (work by_plain Heard.state) (λ z did. Done (with_store (record (event_begun d) { store = Heard.state }) z) did) Heard.told
      (work_does Heard.state Heard.told) (λ z did. quiet_done)))

  pub background_does : Made (work_of Heard).reads (work_of Heard).writes w (hold true (background by_plain d) w).told
  unfolding N.background
  background_does = made_past true (and_then (hear by_plain 960 (event_begun d).store) Body) (event_ended by_plain d) w body_does (over_quiet d)
