-- Copying and staging leave all right, with their twins on marks.
use Rattle.std.proofs.Common.{◌≡◌, ◌<◌, ◌&&◌, ◌||◌, not, ℕ, Bool, true, false, List, [], Option, Some, None, is_some, get_or, refl, sym, ap, ◌∙◌, arith}
use Rattle.std.specs.Prelude.{if◌then◌else◌}
use Rattle.ckd_types.specs.declared.paths.Side.{Side}
use Rattle.ckd_types.specs.declared.paths.Side.TheVariants.{A, B}
use Rattle.ckd_types.specs.declared.record.Track.{Track}
use Rattle.device_outside.specs.After.{with_held}
use Rattle.device_outside.specs.Both.{both_try, both_read, both_write}
use Rattle.device_outside.specs.Interaction.{Done, and_then}
use Rattle.device_outside.proofs.BothRules.{on_test, on_tests}
use Rattle.device_defs.specs.declared.answers.Did.{Did}
use Rattle.device_defs.specs.declared.answers.Did.TheVariants.{Nothing, Staged, Skipped, Fault}
use Rattle.device_defs.specs.Background.{did, copies_to, copy_by, unfilled, staged_bytes, staging_granted, stage}
use Rattle.device_defs.specs.Contents.{contents, by_plain, patched_by, image_read}
use Rattle.device_defs.specs.Image.{Got, read_counted, image_of}
use Rattle.device_defs.specs.Losses.{call_failed}
use Rattle.device_defs.specs.Marks.{marks_of}
use Rattle.device_defs.specs.Sound.{DeviceStore}
use Rattle.device_defs.specs.Store.{tracks_of, stale_at, level_at, takes_b, frame_at, is_lost, is_loose, half_is, with_stale}
use Rattle.device_defs.specs.Writing.{write_counted}
use Rattle.device_laws.specs.Agrees.{Held, image_in}
use Rattle.device_laws.specs.Twin.{Twins}
use Rattle.device_laws.proofs.Bools.{neither, or_left, or_right}
use Rattle.device_laws.proofs.ContentChanges.{Altered, altered_on_a, altered_on_b, altered_stale_a, altered_stale_b, altered_then}
use Rattle.device_laws.proofs.TrackContents as T
use Rattle.device_laws.proofs.TrackContents.{TrackContents, contents_at, Keeps, not_both}
use Rattle.device_laws.proofs.TrackImage.{level_bytes_keeps_good}
use Rattle.device_laws.proofs.TrackMarks as M
use Rattle.device_laws.proofs.TrackMarks.{track_at, device_is_faithful}
use Rattle.device_laws.proofs.TwinAsks.{
  ask_drop,
  ask_frame,
  Stays,
  stays_same,
  stays_on,
  stays_by,
  stays_fell,
  stays_off,
  InOrder,
  Ordered,
  keeps_at,
  right_keeps,
  altered_order,
  beside_order,
  size_of,
}
use Rattle.device_laws.proofs.TwinChanges.{has_frame_twin}
use Rattle.device_laws.proofs.TwinFailed.{fell, failed_twin}
use Rattle.device_laws.proofs.TwinImage.{Delivers, bytes_twin, filled_twin, not_lost}
use Rattle.device_laws.proofs.TwinSaving.{Works}
use Rattle.device_laws.proofs.TwinThrough.{none_off}
use Rattle.device_laws.proofs.TwinWalks.{twin_done, twin_then, twin_always}
use Rattle.device_laws.proofs.WholeImage.{unframed_is_firm}

counted_read : (v w : List Track) (s : DeviceStore) (h : Held) (ok : Bool) → Ordered v w s h → Ordered v w (read_counted s ok) h
counted_read v w s h ok o = beside_order o

counted_write : (v w : List Track) (s : DeviceStore) (h : Held) (ok : Bool) → Ordered v w s h → Ordered v w (write_counted s ok) h
counted_write v w s h ok o = beside_order o

-- Copying, while no half write is open

module _ (u : List Track) (y : DeviceStore) (t : ℕ) where
  abbrev Ends : List Track → List Track → DeviceStore → Option Did → Option Did → Held → Type 0
  Ends v w z a b k = Works u y v w z a b k

  -- a call failed
  fault_twin : (v w : List Track) (s : DeviceStore) (h : Held) (side : Side) → Ordered v w s h → v ≡ u → Stays y s →
      Twins Ends (and_then (call_failed contents s side None) (λ z _. Done z (Some (Fault side))))
      (and_then (call_failed by_plain (marks_of v w s) side None) (λ z _. Done z (Some (Fault side)))) h
  fault_twin v w s h side o plain stays =
      twin_then _ _ (failed_twin None h v w s side o.sure o.told)
      (λ v' w' z _ _ k f.
      let st = stays_on y s z stays (stays_on s (fell s.paired s side) z (stays_fell s.paired s side) (stays_by (fell s.paired s side) h z k f.base)) in
      twin_done (record { order = record { sure = f.but; told = f.told }; same = refl; plain = f.plain ∙ plain; size = size_of st }))

  module _ (v w : List Track) (s : DeviceStore) (h : Held) (o : Ordered v w s h) (lt : t < tracks_of s) (there : is_lost s t ≡ false)
      (off : half_is s.half t ≡ false) (plain : v ≡ u) (stays : Stays y s) where
    abbrev x : TrackContents
    x = contents_at s h t

    kept : Keeps s.geometry t x (image_in s v t) (image_in s w t)
    kept = keeps_at v w s h t o.sure lt there off

    level_a : x.a ≡ level_at s.a t
    unfolding T.contents_at
    level_a = refl

    level_b : x.b ≡ level_at s.b t
    unfolding T.contents_at
    level_b = refl

    bytes_a : x.on_a ≡ get_or h.a t []
    unfolding T.contents_at
    bytes_a = refl

    bytes_b : x.on_b ≡ get_or h.b t []
    unfolding T.contents_at
    bytes_b = refl

    -- the track as it is, but for what a side has
    sided : (z : DeviceStore) (k : Held) (c : TrackContents) → Altered s h z k t c → c.loose ≡ x.loose → c.patch ≡ x.patch → c.freed ≡ x.freed →
        c.debt ≡ x.debt →
        k.slots ≡ h.slots → Keeps s.geometry t c (image_in s v t) (image_in s w t) → Ordered v w z k
    sided z k c e loose patch freed debt slots keeps =
        altered_order o e lt (record { loose = loose; patch = patch; freed = freed }) debt slots
        (λ _. right_keeps s.geometry t s.half c (image_in s v t) (image_in s w t) off keeps)

    -- to side A

    a_garbage : (bytes : List ℕ) → level_at s.a t ≡ false → s.a.up ≡ true → Ordered v w s (with_held h A t bytes)
    a_garbage bytes stale up =
        sided s (with_held h A t bytes) (record x { on_a = bytes }) (altered_on_a s h t lt o.sure.ground.sizes bytes
        (o.sure.ground.long A up)) refl refl refl refl refl
        (record { frame = kept.frame; a = λ l. absurd (not_both x.a (level_a ∙ stale) l); b = kept.b; patch = kept.patch })

    a_copied : level_at s.b t ≡ true → s.a.up ≡ true → Ordered v w (with_stale s A t false) (with_held h A t (get_or h.b t []))
    a_copied level up =
        let r = get_or h.b t [] in
        let n = with_held h A t r in
        let e = altered_on_a s h t lt o.sure.ground.sizes r (o.sure.ground.long A up) in
        let f = altered_stale_a s n t lt o.sure.ground.sizes false in
        let z = with_stale s A t false in
        let c = record x { on_a = r; a = s.a.up && not false } in
        sided z n c
        (altered_then (λ (d : TrackContents). record d { a = s.a.up && not false }) e f) refl refl refl refl refl
        (record {
          frame = kept.frame;
          a = λ l. ap (λ (d : List ℕ). patched_by x.patch (image_read s.geometry t d)) (sym bytes_b)
              ∙ kept.b (level_b ∙ level);
          b = kept.b;
          patch = kept.patch;
        })

    -- to side B

    b_garbage : (bytes : List ℕ) → level_at s.b t ≡ false → s.b.up ≡ true → Ordered v w s (with_held h B t bytes)
    b_garbage bytes stale up =
        sided s (with_held h B t bytes) (record x { on_b = bytes }) (altered_on_b s h t lt o.sure.ground.sizes bytes
        (o.sure.ground.long B up)) refl refl refl refl refl
        (record { frame = kept.frame; a = kept.a; b = λ l. absurd (not_both x.b (level_b ∙ stale) l); patch = kept.patch })

    b_copied : level_at s.a t ≡ true → s.b.up ≡ true → Ordered v w (with_stale s B t false) (with_held h B t (get_or h.a t []))
    b_copied level up =
        let r = get_or h.a t [] in
        let n = with_held h B t r in
        let e = altered_on_b s h t lt o.sure.ground.sizes r (o.sure.ground.long B up) in
        let f = altered_stale_b s n t lt o.sure.ground.sizes false in
        let z = with_stale s B t false in
        let c = record x { on_b = r; b = s.b.up && not false } in
        sided z n c
        (altered_then (λ (d : TrackContents). record d { b = s.b.up && not false }) e f) refl refl refl refl refl
        (record {
          frame = kept.frame;
          a = kept.a;
          b = λ l. ap (λ (d : List ℕ). patched_by x.patch (image_read s.geometry t d)) (sym bytes_a)
              ∙ kept.a (level_a ∙ level);
          patch = kept.patch;
        })

  -- from side B to side A, and from A to B
  module _ (v w : List Track) (s : DeviceStore) (h : Held) (o : Ordered v w s h) (lt : t < tracks_of s) (there : is_lost s t ≡ false)
      (off : half_is s.half t ≡ false) (plain : v ≡ u) (stays : Stays y s) where
    still_read : (ok : Bool) → Stays y (read_counted s ok)
    still_read ok = record { geometry = stays.geometry; cylinders = stays.cylinders; half = stays.half }

    still_write : (ok : Bool) → Stays y (write_counted (read_counted s true) ok)
    still_write ok = record { geometry = stays.geometry; cylinders = stays.cylinders; half = stays.half }

    both_counted : (ok : Bool) → Ordered v w (write_counted (read_counted s true) ok) h
    both_counted ok = counted_write v w (read_counted s true) h ok (counted_read v w s h true o)

    to_a : level_at s.a t ≡ false → s.a.up ≡ true → level_at s.b t ≡ true →
        Twins Ends (copy_by contents s t (Some A)) (copy_by by_plain (marks_of v w s) t (Some A)) h
    to_a stale up level =
        both_read (fault_twin v w (read_counted s false) h B (counted_read v w s h false o) plain (still_read false))
        (both_write
        (twin_done (record {
          order = a_copied v w (write_counted (read_counted s true) true) h (both_counted true) lt there off plain (still_write true) level up;
          same = refl;
          plain = plain;
          size = size_of stays;
        }))
        (λ bytes. fault_twin v w (write_counted (read_counted s true) false) (with_held h A t bytes) A
        (a_garbage v w (write_counted (read_counted s true) false) h (both_counted false) lt there off plain
        (still_write false) bytes stale up) plain (still_write false)))

    to_b : level_at s.b t ≡ false → s.b.up ≡ true → level_at s.a t ≡ true →
        Twins Ends (copy_by contents s t (Some B)) (copy_by by_plain (marks_of v w s) t (Some B)) h
    to_b stale up level =
        both_read (fault_twin v w (read_counted s false) h A (counted_read v w s h false o) plain (still_read false))
        (both_write
        (twin_done (record {
          order = b_copied v w (write_counted (read_counted s true) true) h (both_counted true) lt there off plain (still_write true) level up;
          same = refl;
          plain = plain;
          size = size_of stays;
        }))
        (λ bytes. fault_twin v w (write_counted (read_counted s true) false) (with_held h B t bytes) B
        (b_garbage v w (write_counted (read_counted s true) false) h (both_counted false) lt there off plain
        (still_write false) bytes stale up) plain (still_write false)))

  -- Staging

  ended : (v w : List Track) (s : DeviceStore) (h : Held) (d e : Option Did) → d ≡ e → Ordered v w s h → v ≡ u → Stays y s →
      Twins Ends (Done s d) (Done (marks_of v w s) e) h
  ended v w s h d e same o plain stays =
      twin_done (record { order = o; same = same; plain = plain; size = size_of stays })

  unfilled_twin : (v w : List Track) (s : DeviceStore) (h : Held) (d e : Option Did) → d ≡ e → Ordered v w s h → v ≡ u → Stays y s →
      Twins Ends (unfilled contents s t d) (unfilled by_plain (marks_of v w s) t e) h
  unfilled_twin v w s h d e same o plain stays = ask_drop s.device t (ended v w s h d e same o plain stays)

  staged_by : (v w : List Track) (s : DeviceStore) (h : Held) (g : Got (List ℕ)) (m : Got Bool) (r : Option (List ℕ)) (b : Option Bool) → Delivers w s t r b →
      g.fault ≡ m.fault → t < tracks_of s → (is_some r ≡ true → is_lost s t ≡ false) → is_loose s t ≡ false → half_is s.half t ≡ false →
      Ordered v w s h → v ≡ u →
      Stays y s → Twins Ends (staged_bytes contents t s g r) (staged_bytes by_plain t (marks_of v w s) m b) h
  staged_by v w s h g m None None del fault lt there firm off o plain stays =
      unfilled_twin v w s h (Some (did g.fault Nothing)) (Some (did m.fault Nothing)) (ap (λ (x : Option Side). Some (did x Nothing)) fault) o plain stays
  staged_by v w s h g m (Some r) (Some true) del fault lt there firm off o plain stays =
      let gave : image_of contents s t r ≡ Some (image_in s v t) =
      del.1 ∙ ap (λ (x : Track). Some (record { geometry = s.geometry; track = x })) (o.sure.ground.same t lt firm) in
      both_try (rw gave (twin_then _ _ (filled_twin v w s h t (image_in s v t) refl lt (there refl) off o)
      (λ v' w' z _ _ k f. ended v' w' z k (Some (did g.fault (Staged t))) (Some (did m.fault (Staged t))) (ap (λ (x : Option Side). Some (did x
      (Staged t))) fault)
      f.order (f.plain ∙ plain) (stays_on y s z stays f.stays))))
      (unfilled_twin v w s h None None refl o plain stays)
  staged_by v w s h g m (Some r) (Some false) del fault lt there firm off o plain stays = let e : false ≡ true = del.0 in absurd (cc)
  staged_by v w s h g m None (Some b) del fault lt there firm off o plain stays = absurd del
  staged_by v w s h g m (Some r) None del fault lt there firm off o plain stays = absurd del

  track_loose : (s : DeviceStore) → (track_at contents s t).loose ≡ is_loose s t
  unfolding M.track_at
  track_loose s = refl

  granted_twin : (v w : List Track) (s : DeviceStore) (h : Held) (given : Bool) → t < tracks_of s → is_loose s t ≡ false → half_is s.half t ≡ false →
      InOrder v w s h →
      v ≡ u → Stays y s → Twins Ends (staging_granted contents s t given) (staging_granted by_plain (marks_of v w s) t given) h
  granted_twin v w s h given lt firm off o plain stays =
      on_test given
      (λ _. twin_then _ _ (twin_always (bytes_twin v w s h t o lt off) (level_bytes_keeps_good contents device_is_faithful s t o.well))
      (λ v' w' z g m k f.
      let below : t < tracks_of z = let same = f.1.goes.tracks in omega arith in
      staged_by v' w' z k g m g.bytes m.bytes f.0.bytes f.0.fault below (λ l. not_lost z t below f.1.goes.well (f.1.level l))
      (sym (track_loose z) ∙ f.1.goes.firm t lt (track_loose s ∙ firm)) (stays_off s z t f.0.stays off) f.0.order (f.0.plain
      ∙ plain) (stays_on y s z stays f.0.stays)))
      (λ _. ended v w s h (Some (Skipped t)) (Some (Skipped t)) refl (record { sure = o.sure; told = o.told }) plain stays)

frameless_mark : (s : DeviceStore) (t : ℕ) → is_some (frame_at s t) ≡ false → (track_at contents s t).frame ≡ None
unfolding M.track_at
frameless_mark s t e = by_frame (frame_at s t) e
  where
    by_frame : (f : Option _) → is_some f ≡ false → M.frame_mark contents f ≡ None
    by_frame None e = refl
    by_frame (Some f) e = absurd (cc)

-- while no half write is open
pub stage_twin : (v w : List Track) (s : DeviceStore) (h : Held) (t : ℕ) → t < tracks_of s → s.half ≡ None → InOrder v w s h →
    Twins (λ v' w' z a b k. Works v s v' w' z a b k) (stage contents s t) (stage by_plain (marks_of v w s) t) h
stage_twin v w s h t lt none o =
    let order : Ordered v w s h = record { sure = o.sure; told = o.told } in
    on_tests (is_some (frame_at s t) || is_lost s t) (is_some (frame_at (marks_of v w s) t) || is_lost s t)
    (ap (λ (b : Bool). b || is_lost s t) (has_frame_twin v w s t))
    (λ _. ended v s t v w s h (Some (Skipped t)) (Some (Skipped t)) refl order refl (stays_same s))
    (λ free.
    let firm = unframed_is_firm (track_at contents s t) (frameless_mark s t (neither (is_some (frame_at s t)) (is_lost s t) free).0) (o.well.good t lt) in
    both_try
    (ask_frame s.device t (λ given. granted_twin v s t v w s h given lt (sym (track_loose v s t s) ∙ firm) (none_off s.half t none) o refl (stays_same s)))
    (ended v s t v w s h None None refl order refl (stays_same s)))

-- The copy of a track that a side has stale and the other level

and_parts : (x y : Bool) → (x && y) ≡ true → (x ≡ true) × (y ≡ true)
and_parts true y e = (refl, e)
and_parts false y e = absurd (cc)

stale_off : (up stale : Bool) → stale ≡ true → (up && not stale) ≡ false
stale_off true stale e = rw e refl
stale_off false stale e = refl

pub copy_twin : (v w : List Track) (s : DeviceStore) (h : Held) (t : ℕ) → t < tracks_of s → s.half ≡ None → InOrder v w s h →
    Twins (λ v' w' z a b k. Works v s v' w' z a b k) (copy_by contents s t (copies_to s t)) (copy_by by_plain (marks_of v w s) t (copies_to
    (marks_of v w s) t)) h
copy_twin v w s h t lt none o =
    by_tests (s.a.up && stale_at s.a t && level_at s.b t) (takes_b s && stale_at s.b t && level_at s.a t) refl refl
  where
    order : Ordered v w s h
    order = record { sure = o.sure; told = o.told }

    off : half_is s.half t ≡ false
    off = none_off s.half t none

    by_tests : (a b : Bool) → (s.a.up && stale_at s.a t && level_at s.b t) ≡ a → (takes_b s && stale_at s.b t && level_at s.a t) ≡ b →
        Twins (λ v' w' z a b k. Works v s v' w' z a b k) (copy_by contents s t (if a then Some A else if b then Some B else None))
        (copy_by by_plain (marks_of v w s) t (if a then Some A else if b then Some B else None)) h
    by_tests true b e f =
        let p = and_parts (s.a.up && stale_at s.a t) (level_at s.b t) e in
        let q = and_parts s.a.up (stale_at s.a t) p.0 in
        to_a v s t v w s h order lt (not_lost s t lt o.well (or_right (level_at s.a t) (level_at s.b t) p.1)) off refl (stays_same s)
        (stale_off s.a.up (stale_at s.a t) q.1) q.0 p.1
    by_tests false true e f =
        let p = and_parts (takes_b s && stale_at s.b t) (level_at s.a t) f in
        let q = and_parts (takes_b s) (stale_at s.b t) p.0 in
        to_b v s t v w s h order lt (not_lost s t lt o.well (or_left (level_at s.a t) (level_at s.b t) p.1)) off refl (stays_same s)
        (stale_off s.b.up (stale_at s.b t) q.1) (and_parts s.b.up (not s.held) q.0).0 p.1
    by_tests false false e f = ended v s t v w s h (Some Nothing) (Some Nothing) refl order refl (stays_same s)
