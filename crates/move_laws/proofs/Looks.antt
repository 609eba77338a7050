-- A look at a track makes exactly the reads of the rules, and no write.
use Rattle.std.proofs.Common.{◌≡◌, ◌+◌, ℕ, Bool, true, false, Option, Some, None, is_some, refl, sym, ap, subst, arith}
use Rattle.std.specs.Prelude.{if◌then◌else◌, ◌&&◌, ◌||◌, not}
use Rattle.ckd_types.specs.declared.parameters.Mode.{Mode}
use Rattle.ckd_types.specs.declared.paths.Side.{Side}
use Rattle.ckd_types.specs.declared.paths.Side.TheVariants.{A, B}
use Rattle.ckd_types.specs.Parameters.{is_bypass}
use Rattle.track_image.specs.Image.{Image}
use Rattle.device_outside.specs.Interaction.{Done, Ask, and_then}
use Rattle.device_outside.specs.Pool as O
use Rattle.device_outside.specs.Pool.{SetModified, Touch, after, is_listed}
use Rattle.device_outside.specs.Told as T
use Rattle.device_outside.specs.Told.{Told, RunOutcome, hold, read_fails}
use Rattle.device_defs.specs.declared.usage.Usage.{Usage}
use Rattle.device_defs.specs.Contents.{by_plain}
use Rattle.device_defs.specs.Image as I
use Rattle.device_defs.specs.Image.{
  Got,
  got,
  Imaged,
  Has,
  first_faulty_side,
  read_counted,
  ahead,
  loads,
  read_side,
  second_read,
  read_b,
  first_read,
  level_bytes,
  image_of,
  framed,
  granted,
  loaded,
  delivered,
  missed,
  miss,
  hit,
  clean_image,
  image_by,
  image,
}
use Rattle.device_defs.specs.Losses.{call_failed}
use Rattle.device_defs.specs.Marks.{MarksStore}
use Rattle.device_defs.specs.Store.{SideMarks, level_at, frame_at, patch_at, with_frame}
use Rattle.device_laws.proofs.QuietParts.{Quiet, quiet_done, quiet_try, quiet_ask, quiet_then, quiet_if, failed_quiet}
use Rattle.device_laws.proofs.counted.SidesLeft.{failed_leaves}
use Rattle.move_laws.specs.Exactly.{missed_reads, is_hit_by, look_reads}
use Rattle.move_laws.proofs.Holds.{Made, made_none, made_on, hold_then, held_behind, quiet_made, made_past}

-- from one read on
made_read : {r m : ℕ} {w z : Told} (side : Side) → Made r m (T.told_read w side) z → Made (1 + r) m w z
made_read A x = let a = x.reads in let b = x.writes in record { reads = omega (arith, a); writes = b }
made_read B x = let a = x.reads in let b = x.writes in record { reads = omega (arith, a); writes = b }

module _ (t : ℕ) where
  abbrev Level : ℕ → Told → RunOutcome MarksStore (Got Bool) → Type 0
  Level r w o = Made r 0 w o.told

  -- Side B

  second_quiet : (fault : Option Side) (s : MarksStore) (bytes : Option Bool) → Quiet (second_read by_plain fault s bytes)
  second_quiet fault s (Some r) = quiet_done
  second_quiet fault s None =
      quiet_then (λ z _. Done z (got B None (Some (first_faulty_side fault B)))) (failed_quiet by_plain s B None) (λ z _. quiet_done)

  b_made : (s : MarksStore) (fault : Option Side) (w : Told) (l : Bool) →
      Level (if l then 1 else 0) w (hold true (if l then read_side by_plain s B t (second_read by_plain fault) else Done s (got B None fault)) w)
  unfolding T.hold
  b_made s fault w true =
      let bytes = if read_fails w.b then None else Some true in
      made_read B (quiet_made true (second_quiet fault (read_counted s (is_some bytes)) bytes) (T.told_read w B))
  b_made s fault w false = made_none w

  -- Side A first

  a_failed : (s : MarksStore) (w : Told) → Level (if level_at s.b t then 1 else 0) w
      (hold true (and_then (call_failed by_plain (read_counted s false) A None) (λ z _. read_b by_plain z t (Some A))) w)
  a_failed s w =
      let y = read_counted s false in
      let o = hold true (call_failed by_plain y A None) w in
      let same : s.b ≡ o.state.b = sym (held_behind true (call_failed by_plain y A None) (λ z _. z.b ≡ y.b) w (failed_leaves by_plain y None).holds) in
      let level : level_at s.b t ≡ level_at o.state.b t = ap (λ (m : SideMarks). level_at m t) same in
      subst (λ (x : RunOutcome MarksStore (Got Bool)). Level (if level_at s.b t then 1 else 0) w x)
      (sym (hold_then true (call_failed by_plain y A None) (λ z _. read_b by_plain z t (Some A)) w))
      (made_on (quiet_made true (failed_quiet by_plain y A None) w)
      (subst (λ (l : Bool). Level (if l then 1 else 0) o.told (hold true (read_b by_plain o.state t (Some A)) o.told)) (sym level)
      (b_made o.state (Some A) o.told (level_at o.state.b t))))

  reads_of_both : (l : Bool) → (1 + (if l then 1 else 0)) ≡ (if l then 2 else 1)
  reads_of_both true = refl
  reads_of_both false = refl

  a_made : (s : MarksStore) (w : Told) (fails : Bool) → Level (if fails && level_at s.b t then 2 else 1) w
      (hold true (first_read by_plain t (read_counted s (is_some (if fails then None else Some true))) (if fails then None else Some true))
      (T.told_read w A))
  unfolding T.hold
  a_made s w false = record { reads = refl; writes = omega arith }
  a_made s w true =
      subst (λ (r : ℕ). Level r w (hold true (first_read by_plain t (read_counted s false) None) (T.told_read w A))) (reads_of_both (level_at s.b t))
      (made_read A (a_failed s (T.told_read w A)))

  sides_made : (s : MarksStore) (w : Told) (l : Bool) →
      Level (if l then (if read_fails w.a && level_at s.b t then 2 else 1) else if level_at s.b t then 1 else 0) w
      (hold true (if l then read_side by_plain s A t (first_read by_plain t) else read_b by_plain s t None) w)
  unfolding T.hold
  sides_made s w true = a_made s w (read_fails w.a)
  sides_made s w false = b_made s None w (level_at s.b t)

  pub level_made : (s : MarksStore) (w : Told) → Level (missed_reads s t w) w (hold true (level_bytes by_plain s t) w)
  unfolding I.level_bytes
  level_made s w = sides_made s w (level_at s.a t)

  -- A miss

  module _ (u : Usage) where
    abbrev Looked : ℕ → Told → RunOutcome MarksStore (Option Imaged) → Type 0
    Looked r w o = Made r 0 w o.told

    granted_quiet : (s : MarksStore) (i : Image) (given : Bool) → Quiet (granted by_plain s t i given)
    granted_quiet s i true =
        quiet_then (λ z _. Done z (Some (Has i))) (quiet_if (is_some (patch_at s t)) (quiet_ask (λ _. quiet_done)) quiet_done) (λ z _. quiet_done)
    granted_quiet s i false = quiet_done

    loaded_quiet : (s : MarksStore) (i : Image) (mode : Mode) → Quiet (loaded by_plain s t i mode)
    loaded_quiet s i mode =
        quiet_if (loads mode) (quiet_try (λ ok. quiet_if ok (quiet_ask (λ given. granted_quiet s i given)) quiet_done)) quiet_done

    delivered_quiet : (side : Side) (s : MarksStore) (o : Option Image) → Quiet (delivered by_plain u t side s o)
    delivered_quiet side s None = quiet_done
    delivered_quiet side s (Some i) = loaded_quiet (ahead u s t) i u.mode

    missed_quiet : (s : MarksStore) (g : Got Bool) (bytes : Option Bool) → Quiet (missed by_plain u t s g bytes)
    missed_quiet s g None = quiet_done
    missed_quiet s g (Some r) = quiet_try (λ ok. quiet_if ok (delivered_quiet g.side s (image_of by_plain s t r)) quiet_done)

    miss_made : (s : MarksStore) (w : Told) → Looked (missed_reads s t w) w (hold true (miss by_plain s u t) w)
    miss_made s w =
        made_past true (level_bytes by_plain s t) (λ z g. missed by_plain u t z g g.bytes) w (level_made s w) (λ z g. missed_quiet z g g.bytes)

    -- A look

    listed_made : (s : MarksStore) (f : Bool) (w y : Told) → missed_reads s t w ≡ missed_reads (with_frame s t None) t y → Made 0 0 w y → (listed : Bool) →
        Looked (if listed then 0 else missed_reads s t w) w (hold true (if listed then hit by_plain s t f else miss by_plain (with_frame s t None) u t) y)
    unfolding T.hold
    listed_made s f w y same x true = x
    listed_made s f w y same x false =
        subst (λ (r : ℕ). Looked r w (hold true (miss by_plain (with_frame s t None) u t) y)) (sym same) (made_on x (miss_made (with_frame s t None) y))

    clean_made : (s : MarksStore) (f : Bool) (w : Told) (bypass : Bool) →
        Looked (if not bypass && is_listed w.pool.frames s.device t then 0 else missed_reads s t w) w
        (hold true (if bypass then miss by_plain s u t
        else Ask (Touch s.device t) (λ listed. if listed then hit by_plain s t f else miss by_plain (with_frame s t None) u t)) w)
    unfolding T.hold O.answer
    clean_made s f w true = miss_made s w
    clean_made s f w false =
        let listed = is_listed w.pool.frames s.device t in
        let y = record w { pool = after w.pool (Touch s.device t) listed } in
        listed_made s f w y refl (record { reads = omega arith; writes = omega arith }) listed

    frame_made : (s : MarksStore) (f : Bool) (w : Told) (modified : Bool) →
        Looked (if modified || (not (is_bypass u.mode) && is_listed w.pool.frames s.device t) then 0 else missed_reads s t w) w
        (hold true (if modified then hit by_plain s t f else clean_image by_plain s u t f) w)
    unfolding T.hold
    frame_made s f w true = made_none w
    frame_made s f w false = clean_made s f w (is_bypass u.mode)

    by_frame : (s : MarksStore) (w : Told) (o : Option Bool) →
        Looked (if is_hit_by s u t w.pool o then 0 else missed_reads s t w) w (hold true (image_by by_plain s u t o) w)
    by_frame s w None = miss_made s w
    by_frame s w (Some f) = frame_made s f w f

    pub look_made : (s : MarksStore) (w : Told) → Looked (look_reads s u t w) w (hold true (image by_plain s u t) w)
    unfolding I.image
    look_made s w = by_frame s w (frame_at s t)
