-- A write that is done leaves a clean frame or none, and no patch; a write that is half done leaves an open half write. Both keep good marks good.
use Rattle.std.proofs.Common.{◌≡◌, ◌≢◌, ◌<◌, ◌==◌, ℕ, Bool, true, false, Option, Some, None, is_some, refl, sym, ap, subst, ◌∙◌, arith, ◌⊎◌, inl, inr}
use Rattle.std.proofs.lemmas.Bool.{cases_eq}
use Rattle.track_image.specs.Image.{Image}
use Rattle.device_defs.specs.Between.{HasSizes}
use Rattle.device_defs.specs.Contents.{Contents}
use Rattle.device_defs.specs.Losses.{slot_in}
use Rattle.device_defs.specs.Store.{Origin, HalfWrite, Store, tracks_of, frame_at, patch_at, half_is, with_frame}
use Rattle.device_defs.specs.Writing as W
use Rattle.device_defs.specs.Writing.{slot_freed, unpatched, done_by, write_done, half_opened, cleaned, write_opened}
use Rattle.device_laws.proofs.Always.{Always, always_done, always_ask, always_weaker}
use Rattle.device_laws.proofs.Changes as C
use Rattle.device_laws.proofs.Changes.{Changed, rest_of, unchanged, changed_twice, changed_frame, changed_patch}
use Rattle.device_laws.proofs.FailedCall.{IsKept, IsWell, Goes}
use Rattle.device_laws.proofs.Others.{Others, others_changed, shut_goes}
use Rattle.device_laws.proofs.Sweeps.{IsHere}
use Rattle.device_laws.proofs.TrackMarks as M
use Rattle.device_laws.proofs.TrackMarks.{TrackMarks, IsFaithful, is_good, frame_mark, track_at}
use Rattle.device_laws.proofs.WriteMarks.{done_without_frame, done_with_frame, half_good}

module _ {F P H R : Type 0} (c : Contents F P H R) (faithful : IsFaithful c) where
  -- the patch goes
  slot_by : (z : Store F P H) (t : ℕ) (o : Option P) → patch_at z t ≡ o → t < tracks_of z → HasSizes z →
      Always (slot_freed c z t (slot_in c o)) (λ y _. Changed c z y t (record (track_at c z t) { patched = false }))
  unfolding M.track_at C.rest_of
  slot_by z t None e lt sizes = always_done (record {
    sizes = sizes;
    rest = refl;
    elsewhere = λ q ne. refl;
    here = ap (λ (p : Option P). record (track_at c z t) { patched = is_some p }) e;
  })
  slot_by z t (Some p) e lt sizes = always_ask (λ _. always_done (changed_patch c z t None lt sizes))

  module _ (t : ℕ) (s z : Store F P H) (lt : t < tracks_of z) (o : Others c t s z) (there : (track_at c z t).lost ≡ false)
      (firm : (track_at c z t).loose ≡ false) where
    unpatched_goes : (u : Store F P H) (f : Option Bool) → Changed c z u t (record (track_at c z t) { frame = f }) → t < tracks_of u →
        is_good (record (track_at c z t) { frame = f; patched = false }) ≡ true → Always (unpatched c u t) (λ y _. Goes c s y)
    unpatched_goes u f e below good =
        always_weaker (slot_by u t (patch_at u t) refl below e.sizes)
        (λ y _ g.
        let here = g.here ∙ ap (λ (x : TrackMarks). record x { patched = false }) e.here in
        let h = changed_twice c e (record { sizes = g.sizes; rest = g.rest; elsewhere = g.elsewhere; here = here }) in
        shut_goes c t s y (others_changed c t s z y _ o h) (ap is_good here ∙ good) (subst IsKept (sym here) (λ h. there))
        (λ k. ap (λ (x : TrackMarks). x.loose) here ∙ firm))

    by_bypass : (i : Image) (bypass : Bool) → (track_at c z t).level ≡ true → Always (done_by c z t i bypass true) (λ y _. Goes c s y)
    by_bypass i true level =
        always_ask (λ _. unpatched_goes (with_frame z t None) None (changed_frame c z t None lt o.sizes) lt
        (done_without_frame (track_at c z t) there firm level))
    by_bypass i false level =
        let e = changed_frame c z t (Some (c.frame i false)) lt o.sizes in
        let here = e.here ∙ ap (λ (m : Bool). record (track_at c z t) { frame = Some m }) (faithful.made i false) in
        always_ask (λ _. unpatched_goes (with_frame z t (Some (c.frame i false))) (Some false)
        (record { sizes = e.sizes; rest = e.rest; elsewhere = e.elsewhere; here = here }) lt
        (done_with_frame (track_at c z t) there firm level))

    no_frame : (f : Option F) → frame_at z t ≡ f → is_some f ≡ false → track_at c z t ≡ record (track_at c z t) { frame = None }
    unfolding M.track_at
    no_frame None e none = ap (λ (f : Option F). record (track_at c z t) { frame = frame_mark c f }) e
    no_frame (Some f) e none = absurd (cc)

    by_frame : (i : Image) (bypass : Bool) (b : Bool) → is_some (frame_at z t) ≡ b → (track_at c z t).level ≡ true →
        Always (done_by c z t i bypass b) (λ y _. Goes c s y)
    by_frame i bypass true e level = by_bypass i bypass level
    by_frame i bypass false e level =
        let u = unchanged c z t o.sizes in
        unpatched_goes z None
        (record { sizes = u.sizes; rest = u.rest; elsewhere = u.elsewhere; here = no_frame (frame_at z t) refl e }) lt
        (done_without_frame (track_at c z t) there firm level)

    pub write_done_keeps_good : (i : Image) (bypass : Bool) → (track_at c z t).level ≡ true → Always (write_done c z t i bypass) (λ y _. Goes c s y)
    unfolding W.write_done
    write_done_keeps_good i bypass level = by_frame i bypass (is_some (frame_at z t)) refl level

  -- A half write is opened while none is open

  same_place : (t q : ℕ) → q ≡ t → (t == q) ≡ true
  same_place t q e = grind arith

  other_place : (t q : ℕ) → q ≢ t → (t == q) ≡ false
  other_place t q ne = grind arith

  pub none_is : (h : Option (HalfWrite H)) (q : ℕ) → h ≡ None → half_is h q ≡ false
  none_is None q e = refl
  none_is (Some h) q e = absurd (cc)

  module _ (t : ℕ) (s z : Store F P H) (i : Image) (origin : Origin) where
    abbrev now : Store F P H
    now = half_opened c z t i origin

    now_here : t < tracks_of z → z.b.up ≡ true → IsHere (rest_of z) → IsHere (rest_of now)
    unfolding C.rest_of
    now_here lt up h = record {
      free = h.free;
      alone = h.alone;
      whole = λ e. absurd (let off = h.alone e in cc);
      within = λ k e. let is : k.track ≡ t = ap_track k e in omega arith;
      queued = h.queued;
    }
      where
        track_or : Option (HalfWrite H) → ℕ
        track_or None = 0
        track_or (Some k) = k.track

        ap_track : (k : HalfWrite H) → now.half ≡ Some k → k.track ≡ t
        ap_track k e = ap track_or (sym e)

    marks_here : track_at c now t ≡ record (track_at c z t) { half = true }
    unfolding M.track_at
    marks_here = ap (λ (h : Bool). record (track_at c z t) { half = h }) (same_place t t refl)

    marks_elsewhere : z.half ≡ None → (q : ℕ) → q ≢ t → track_at c now q ≡ track_at c z q
    unfolding M.track_at
    marks_elsewhere none q ne = ap (λ (h : Bool). record (track_at c z q) { half = h }) (other_place t q ne ∙ sym (none_is z.half q none))

    by_place : Others c t s z → z.half ≡ None → (track_at c z t).lost ≡ false → (track_at c z t).loose ≡ false →
        (q : ℕ) → q < tracks_of s → ((q ≡ t) ⊎ (q ≢ t)) → (is_good (track_at c now q) ≡ true) × (IsKept (track_at c now q))
    by_place o none there firm q lt (inl is) =
        subst (λ (p : ℕ). (is_good (track_at c now p) ≡ true) × (IsKept (track_at c now p))) (sym is)
        (ap is_good marks_here ∙ half_good (track_at c z t) there firm, subst IsKept (sym marks_here) (λ h. there))
    by_place o none there firm q lt (inr ne) =
        (ap is_good (marks_elsewhere none q ne) ∙ o.good q ne lt, subst IsKept (sym (marks_elsewhere none q ne)) (o.kept q ne lt))

    half_well : t < tracks_of z → z.b.up ≡ true → Others c t s z → z.half ≡ None → (track_at c z t).lost ≡ false → (track_at c z t).loose ≡ false → IsWell c now
    half_well lt up o none there firm = record {
      sizes = record { are = o.sizes.are };
      here = now_here lt up o.here;
      good = λ q below. (by_place o none there firm q (let same = o.tracks in omega arith) (cases_eq q t)).0;
      kept = λ q below. (by_place o none there firm q (let same = o.tracks in omega arith) (cases_eq q t)).1;
    }

  -- good marks in as many tracks
  pub record Keeps (s z : Store F P H) : Type 0 where
    pub well : IsWell c z
    pub tracks : tracks_of z ≡ tracks_of s

  pub goes_keeps : (s z : Store F P H) → Goes c s z → Keeps s z
  goes_keeps s z g = record { well = g.well; tracks = g.tracks }

  pub keeps_on : (s z y : Store F P H) → Keeps s z → Keeps z y → Keeps s y
  keeps_on s z y f g = record { well = g.well; tracks = g.tracks ∙ f.tracks }

  pub opened_keeps_good : (t : ℕ) (s z : Store F P H) (i : Image) (origin : Origin) (was_loose : Bool) → t < tracks_of z → Others c t s z →
      z.half ≡ None → (track_at c z t).lost ≡ false → (track_at c z t).loose ≡ false → z.b.up ≡ true →
      Always (write_opened c z t i origin was_loose) (λ y _. Keeps s y)
  opened_keeps_good t s z i origin true lt o none there firm up =
      let u = with_frame z t (cleaned c (frame_at z t)) in
      let e = changed_frame c z t (cleaned c (frame_at z t)) lt o.sizes in
      always_ask (λ _. always_done (record {
        well = half_well t s u i origin lt up (others_changed c t s z u _ o e) none
            (ap (λ (x : TrackMarks). x.lost) e.here ∙ there) (ap (λ (x : TrackMarks). x.loose) e.here ∙ firm);
        tracks = o.tracks;
      }))
  opened_keeps_good t s z i origin false lt o none there firm up =
      always_done (record { well = half_well t s z i origin lt up o none there firm; tracks = o.tracks })
