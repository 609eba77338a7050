-- The second part of a write keeps good marks good, whose write it may be and whatever is answered.
use Rattle.std.proofs.Common.{◌≡◌, ◌≢◌, ◌<◌, ◌==◌, ℕ, Bool, true, false, Option, Some, None, refl, sym, ap, subst, ◌∙◌, arith}
use Rattle.std.specs.Prelude.{if◌then◌else◌}
use Rattle.track_image.specs.Image.{Image}
use Rattle.device_defs.specs.Between.{HasSizes}
use Rattle.device_defs.specs.Contents.{Contents}
use Rattle.device_defs.specs.Effects.{with_edit}
use Rattle.device_defs.specs.Losses.{settled, without_patch}
use Rattle.device_defs.specs.Second as D
use Rattle.device_defs.specs.Second.{half_closed, half_image_of, finished, second_done, cut_kept, left_by, second_absent, second_by, second_part}
use Rattle.device_defs.specs.Store.{
  Origin,
  OfCommand,
  OfCut,
  OfBackground,
  HalfWrite,
  Store,
  tracks_of,
  has_level,
  frame_at,
  half_is,
  with_frame,
}
use Rattle.device_laws.proofs.Always.{Always, always_done, always_tell, always_then, always_weaker}
use Rattle.device_laws.proofs.Changes as C
use Rattle.device_laws.proofs.Changes.{Changed, rest_of, unchanged, changed_twice, changed_frame, changed_unpatched}
use Rattle.device_laws.proofs.Choices.{changed_edit}
use Rattle.device_laws.proofs.Done.{Keeps, write_done_keeps_good}
use Rattle.device_laws.proofs.FailedCall.{IsKept, settled_kept, settled_firm, IsWell, Goes}
use Rattle.device_laws.proofs.Others.{Others, Open, others_changed, shut_goes}
use Rattle.device_laws.proofs.Settled.{settled_changes_one_track}
use Rattle.device_laws.proofs.Sweeps.{IsHere, is_free}
use Rattle.device_laws.proofs.TrackMarks as M
use Rattle.device_laws.proofs.TrackMarks.{TrackMarks, marks, IsFaithful, settled_marks, is_good, track_at}
use Rattle.device_laws.proofs.WriteMarks.{absent_good}
use Rattle.device_laws.proofs.Writes.{write_second_keeps_others}

-- the track of an open half write isn't loose
firm_by : (f : Option Bool) (p l o v : Bool) → is_good (marks f p l o true v) ≡ true → o ≡ false
firm_by f p l false v e = refl
firm_by f p false true v e = absurd (cc)
firm_by (Some m) p true true v e = absurd (cc)
firm_by None true true true v e = absurd (cc)
firm_by None false true true v e = absurd (cc)

half_is_firm : (x : TrackMarks) → x.half ≡ true → is_good x ≡ true → x.loose ≡ false
half_is_firm x half good =
    firm_by x.frame x.patched x.lost x.loose x.level
    (subst (λ (h : Bool). is_good (marks x.frame x.patched x.lost x.loose h x.level) ≡ true) half good)

is_own : {H : Type 0} (o : Option (HalfWrite H)) (h : HalfWrite H) → o ≡ Some h → half_is o h.track ≡ true
is_own {H} o h e = ap (λ (k : Option (HalfWrite H)). half_is k h.track) e ∙ (let same : (h.track == h.track) ≡ true = grind arith in same)

is_other : {H : Type 0} (o : Option (HalfWrite H)) (h : HalfWrite H) (q : ℕ) → o ≡ Some h → q ≢ h.track → half_is o q ≡ false
is_other {H} o h q e ne = ap (λ (k : Option (HalfWrite H)). half_is k q) e ∙ (let other : (h.track == q) ≡ false = grind arith in other)

module _ {F P H R : Type 0} (c : Contents F P H R) (faithful : IsFaithful c) where
  -- the half write is closed, and its track is settled or done

  pub closed_here : (y : Store F P H) (h : HalfWrite H) → y.half ≡ Some h → track_at c (half_closed y) h.track ≡ record (track_at c y h.track) { half = false }
  unfolding M.track_at
  closed_here y h e = refl

  pub closed_elsewhere : (y : Store F P H) (h : HalfWrite H) → y.half ≡ Some h → (q : ℕ) → q ≢ h.track → track_at c (half_closed y) q ≡ track_at c y q
  unfolding M.track_at
  closed_elsewhere y h e q ne = ap (λ (b : Bool). record (track_at c y q) { half = b }) (sym (is_other y.half h q e ne))

  closed_loose : (y : Store F P H) (q : ℕ) → (track_at c (half_closed y) q).loose ≡ (track_at c y q).loose
  unfolding M.track_at
  closed_loose y q = refl

  closed_is_here : (y : Store F P H) → IsHere (rest_of y) → IsHere (rest_of (half_closed y))
  unfolding C.rest_of
  closed_is_here y h = record { free = h.free; alone = h.alone; whole = λ e. refl; within = λ k e. absurd (cc); queued = h.queued }

  own_half : (s : Store F P H) (h : HalfWrite H) → s.half ≡ Some h → (track_at c s h.track).half ≡ true
  unfolding M.track_at
  own_half s h e = is_own s.half h e

  closed_others : (s y : Store F P H) (h : HalfWrite H) → s.half ≡ Some h → Open c h.track s y → Others c h.track (half_closed s) (half_closed y)
  closed_others s y h e o =
      let i = o.others in
      let same = closed_elsewhere y h (i.half ∙ e) in
      record {
        sizes = record { are = i.sizes.are };
        here = closed_is_here y i.here;
        tracks = i.tracks;
        half = refl;
        good = λ q ne lt. ap is_good (same q ne) ∙ i.good q ne lt;
        kept = λ q ne lt. subst IsKept (sym (same q ne)) (i.kept q ne lt);
        firm = λ q ne lt f. closed_loose y q ∙ i.firm q ne lt (sym (closed_loose s q) ∙ f);
      }

  level_mark : (s : Store F P H) (t : ℕ) (b : Bool) → has_level s t ≡ b → (track_at c s t).level ≡ b
  unfolding M.track_at
  level_mark s t b e = e

  -- z is what is closed
  module _ (t : ℕ) (s z : Store F P H) (lt : t < tracks_of z) (o : Others c t s z) (there : (track_at c z t).lost ≡ false)
      (firm : (track_at c z t).loose ≡ false) where
    finished_goes : (i : Image) (bypass : Bool) → (track_at c z t).level ≡ true → Always (finished c z t i bypass) (λ y _. Goes c s y)
    finished_goes i bypass level =
        always_then (write_done_keeps_good c faithful t s z lt o there firm i bypass level) (λ y _ g. always_done g)

    absent_goes : (y : Store F P H) → t < tracks_of y → Others c t s y → (track_at c y t).lost ≡ false → (track_at c y t).loose ≡ false →
        (track_at c y t).level ≡ false → Goes c s (settled c y t)
    absent_goes y below i there firm level =
        let x = track_at c y t in
        let e = settled_changes_one_track c faithful y t below i.sizes (is_free y i.here) in
        let v = shut_goes c t s (settled c y t) (others_changed c t s y (settled c y t) _ i e) in
        v (ap is_good e.here ∙ absent_good x there firm level)
        (subst IsKept (sym e.here) (settled_kept x (λ h. there)))
        (λ f. ap (λ (m : TrackMarks). m.loose) e.here ∙ settled_firm x firm)

  done_by : (t : ℕ) (s z : Store F P H) (i : Image) (origin : Origin) → t < tracks_of z → Others c t s z → (track_at c z t).lost ≡ false →
      (track_at c z t).loose ≡ false → (track_at c z t).level ≡ true → Always (second_done c z t i origin) (λ y _. Goes c s y)
  done_by t s z i (OfCommand bypass e) lt o there firm level =
      let f = changed_edit c t e (unchanged c z t o.sizes) in
      let u = with_edit z t e in
      always_tell
      (λ _. finished_goes t s u lt (others_changed c t s z u _ o f) (ap (λ (x : TrackMarks). x.lost) f.here ∙ there)
      (ap (λ (x : TrackMarks). x.loose) f.here ∙ firm) i bypass (ap (λ (x : TrackMarks). x.level) f.here ∙ level))
  done_by t s z i (OfCut bypass) lt o there firm level = finished_goes t s z lt o there firm i bypass level
  done_by t s z i OfBackground lt o there firm level = finished_goes t s z lt o there firm i false level

  -- a cut command's frame has the new track, and its patch goes
  refit : (t : ℕ) (z : Store F P H) (i : Image) (f : F) → t < tracks_of z → HasSizes z →
      Changed c z (without_patch c (with_frame z t (Some (c.frame i (c.modified f)))) t) t
      (record (track_at c z t) { frame = Some (c.modified (c.frame i (c.modified f))); patched = false })
  refit t z i f lt sizes =
      let a = changed_frame c z t (Some (c.frame i (c.modified f))) lt sizes in
      let u = with_frame z t (Some (c.frame i (c.modified f))) in
      let b = changed_unpatched c u t lt a.sizes in
      changed_twice c a (record {
        sizes = b.sizes;
        rest = b.rest;
        elsewhere = b.elsewhere;
        here = b.here ∙ ap (λ (x : TrackMarks). record x { patched = false }) a.here;
      })

  by_frame : (t : ℕ) (s z : Store F P H) (i : Image) (o : Option F) → t < tracks_of z → Others c t s z → (track_at c z t).lost ≡ false →
      (track_at c z t).loose ≡ false → (track_at c z t).level ≡ false → Goes c s (settled c (cut_kept c z t i o) t)
  by_frame t s z i None lt o there firm level = absent_goes t s z lt o there firm z lt o there firm level
  by_frame t s z i (Some f) lt o there firm level =
      let e = refit t z i f lt o.sizes in
      let y = without_patch c (with_frame z t (Some (c.frame i (c.modified f)))) t in
      let v = others_changed c t s z y _ o e in
      absent_goes t s z lt o there firm y (let a = v.tracks in let b = o.tracks in omega arith) v
      (ap (λ (x : TrackMarks). x.lost) e.here ∙ there) (ap (λ (x : TrackMarks). x.loose) e.here ∙ firm)
      (ap (λ (x : TrackMarks). x.level) e.here ∙ level)

  left_goes : (t : ℕ) (s z : Store F P H) (i : Image) (origin : Origin) → t < tracks_of z → Others c t s z → (track_at c z t).lost ≡ false →
      (track_at c z t).loose ≡ false → (track_at c z t).level ≡ false → Goes c s (settled c (left_by c z t i origin) t)
  left_goes t s z i (OfCommand bypass e) lt o there firm level = absent_goes t s z lt o there firm z lt o there firm level
  left_goes t s z i (OfCut bypass) lt o there firm level = by_frame t s z i (frame_at z t) lt o there firm level
  left_goes t s z i OfBackground lt o there firm level = absent_goes t s z lt o there firm z lt o there firm level

  by_level : (t : ℕ) (s z : Store F P H) (i : Image) (origin : Origin) (b : Bool) → has_level z t ≡ b → t < tracks_of z →
      Others c t (half_closed s) (half_closed z) → (track_at c (half_closed z) t).lost ≡ false → (track_at c (half_closed z) t).loose ≡ false →
      (track_at c (half_closed z) t).level ≡ b →
      Always (if b then second_done c (half_closed z) t i origin else second_absent c (half_closed z) t i origin) (λ y _. Goes c (half_closed s) y)
  by_level t s z i origin true e lt o there firm level = done_by t (half_closed s) (half_closed z) i origin lt o there firm level
  by_level t s z i origin false e lt o there firm level = always_done (left_goes t (half_closed s) (half_closed z) i origin lt o there firm level)

  pub second_part_keeps_good : (s : Store F P H) (h : HalfWrite H) → h.track < tracks_of s → IsWell c s → s.half ≡ Some h →
      Always (second_part c s h) (λ y _. Keeps c faithful s y)
  unfolding D.second_part
  second_part_keeps_good s h lt w e =
      let t = h.track in
      let half = own_half s h e in
      let there = w.kept t lt half in
      let firm = half_is_firm (track_at c s t) half (w.good t lt) in
      let i = half_image_of c s h in
      always_then (write_second_keeps_others c faithful t s lt there (c.bytes i) w)
      (λ z _ o. let here = closed_here z h (o.others.half ∙ e) in
      always_weaker (by_level t s z i h.origin (has_level z t) refl (let same = o.others.tracks in omega arith) (closed_others s z h e o)
      (ap (λ (x : TrackMarks). x.lost) here ∙ o.lost ∙ there) (ap (λ (x : TrackMarks). x.loose) here ∙ o.loose ∙ firm)
      (ap (λ (x : TrackMarks). x.level) here ∙ level_mark z t (has_level z t) refl))
      (λ y _ g. record { well = g.well; tracks = g.tracks }))
