-- The loss of power takes every frame, all data of cache fast write and an open half write, and keeps good marks good.
use Rattle.std.proofs.Common.{◌≡◌, ◌≢◌, ◌<◌, ℕ, Bool, true, false, [], ◌∷◌, Option, Some, None, length, refl, sym, ap, subst, ◌∙◌, arith, ◌⊎◌, inl, inr}
use Rattle.std.proofs.lemmas.Bool.{cases_eq}
use Rattle.std.proofs.lemmas.List.{length-replicate}
use Rattle.std.specs.Prelude.{if◌then◌else◌}
use Rattle.loss_model.specs.declared.Loss.TheVariants as losses
use Rattle.track_table.proofs.Places.{empty_places}
use Rattle.device_outside.specs.Interaction.{Done, and_then}
use Rattle.device_defs.specs.Between.{HasSizes}
use Rattle.device_defs.specs.Contents.{Contents}
use Rattle.device_defs.specs.Cutting as U
use Rattle.device_defs.specs.Cutting.{half_cut, half_ended, half_lost, loose_gone, powerless, powered_off, power}
use Rattle.device_defs.specs.Device.{Device, event_begun}
use Rattle.device_defs.specs.Effects.{gone_back}
use Rattle.device_defs.specs.Events.{with_loss}
use Rattle.device_defs.specs.Losses.{over, without_frame, without_patch, settled}
use Rattle.device_defs.specs.Second.{half_closed}
use Rattle.device_defs.specs.Store.{Origin, OfCommand, OfCut, OfBackground, HalfWrite, Store, tracks_of, has_loose, is_loose, half_is}
use Rattle.device_laws.proofs.Always.{Always, always_done, always_then}
use Rattle.device_laws.proofs.CacheLost.{none_below, unframed_settled, step}
use Rattle.device_laws.proofs.Changes as C
use Rattle.device_laws.proofs.Changes.{Changed, rest_of, changed_unpatched}
use Rattle.device_laws.proofs.Done.{Keeps, goes_keeps, keeps_on}
use Rattle.device_laws.proofs.FailedCall.{settled_kept, IsWell, goes_same}
use Rattle.device_laws.proofs.LossEvents.{begun_same, counted_same}
use Rattle.device_laws.proofs.Sweeps.{IsHere, Swept, swept, half_within, same_tracks, same_half}
use Rattle.device_laws.proofs.TrackMarks as M
use Rattle.device_laws.proofs.TrackMarks.{TrackMarks, marks, IsFaithful, is_near, is_good, track_at, settling_makes_good}
use Rattle.device_laws.proofs.WholeEvents.{quiet_event_keeps, cutting_keeps_good}

-- a good track without its frame, with no half write and not loose, and with its patch or without, may be settled
gone_near : (f : Option Bool) (p l o h v : Bool) → is_good (marks f p l o h v) ≡ true → (x : Bool) → (p ≡ false → x ≡ false) →
    is_near (marks None x l false false v) ≡ true
gone_near f p false o h v e x g = refl
gone_near (Some m) p true o h v e x g = absurd (cc)
gone_near None true true o h v e x g = absurd (cc)
gone_near None false true true h v e x g = absurd (cc)
gone_near None false true false h true e x g = absurd (cc)
gone_near None false true false h false e true g = absurd (let f = g refl in cc)
gone_near None false true false h false e false g = refl

module _ {F P H R : Type 0} (c : Contents F P H R) (faithful : IsFaithful c) where
  -- of each track before its frame goes
  pub record Bare (x y : TrackMarks) : Type 0 where
    pub patched : x.patched ≡ false → y.patched ≡ false
    pub lost : y.lost ≡ x.lost
    pub loose : y.loose ≡ false
    pub level : y.level ≡ x.level

  pub record Cleared (s z : Store F P H) : Type 0 where
    pub sizes : HasSizes z
    pub here : IsHere (rest_of z)
    pub tracks : tracks_of z ≡ tracks_of s
    pub marks : (q : ℕ) → q < tracks_of s → Bare (track_at c s q) (track_at c z q)

  gone_by : (s : Store F P H) (b : Bool) → has_loose s ≡ b → IsWell c s → Cleared s (if b then gone_back s else s)
  unfolding M.track_at C.rest_of
  gone_by s true e w =
      let all : length s.loose ≡ tracks_of s = cc (w.sizes.are) in
      record {
        sizes = record {
          are =
              ap (λ (k : ℕ). length s.a.stale ∷ length s.b.stale ∷ length s.frames ∷ length s.patches ∷ length s.lost ∷ k ∷ length s.owed ∷ [])
              (length-replicate (tracks_of s) false ∙ sym all) ∙ w.sizes.are;
        };
        here = record { free = w.here.free; alone = w.here.alone; whole = w.here.whole; within = w.here.within; queued = w.here.queued };
        tracks = refl;
        marks = λ q lt. record { patched = λ f. f; lost = refl; loose = empty_places (tracks_of s) q false; level = refl };
      }
  gone_by s false e w = record {
    sizes = w.sizes;
    here = w.here;
    tracks = refl;
    marks = λ q lt. record { patched = λ f. f; lost = refl; loose = none_below (tracks_of s) (is_loose s) e q lt; level = refl };
  }

  gone_half : (s : Store F P H) (b : Bool) → (if b then gone_back s else s).half ≡ s.half
  gone_half s true = refl
  gone_half s false = refl

  closed_cleared : (s z : Store F P H) → Cleared s z → Cleared s (half_closed z)
  unfolding M.track_at C.rest_of
  closed_cleared s z f = record {
    sizes = record { are = f.sizes.are };
    here = record { free = f.here.free; alone = f.here.alone; whole = λ e. refl; within = λ k e. absurd (cc); queued = f.here.queued };
    tracks = f.tracks;
    marks = λ q lt. let m = f.marks q lt in record { patched = m.patched; lost = m.lost; loose = m.loose; level = m.level };
  }

  bare_on : (x y z : TrackMarks) → Bare x y → z ≡ record y { patched = false } → Bare x z
  bare_on x y z f e = record {
    patched = λ p. ap (λ (m : TrackMarks). m.patched) e;
    lost = ap (λ (m : TrackMarks). m.lost) e ∙ f.lost;
    loose = ap (λ (m : TrackMarks). m.loose) e ∙ f.loose;
    level = ap (λ (m : TrackMarks). m.level) e ∙ f.level;
  }

  bare_at : (s z y : Store F P H) (t : ℕ) → Cleared s z → Changed c z y t (record (track_at c z t) { patched = false }) →
      (q : ℕ) → q < tracks_of s → ((q ≡ t) ⊎ (q ≢ t)) → Bare (track_at c s q) (track_at c y q)
  bare_at s z y t f e q lt (inl is) =
      bare_on (track_at c s q) (track_at c z q) (track_at c y q) (f.marks q lt) (rw is e.here)
  bare_at s z y t f e q lt (inr ne) = subst (λ (m : TrackMarks). Bare (track_at c s q) m) (sym (e.elsewhere q ne)) (f.marks q lt)

  patch_cleared : (s z : Store F P H) (t : ℕ) → t < tracks_of z → Cleared s z → Cleared s (without_patch c z t)
  patch_cleared s z t lt f =
      let e = changed_unpatched c z t lt f.sizes in
      let y = without_patch c z t in
      record {
        sizes = e.sizes;
        here = subst IsHere (sym e.rest) f.here;
        tracks = same_tracks z y e.rest ∙ f.tracks;
        marks = λ q below. bare_at s z y t f e q below (cases_eq q t);
      }

  patch_half : (z : Store F P H) (t : ℕ) → t < tracks_of z → HasSizes z → (without_patch c z t).half ≡ z.half
  patch_half z t lt sizes = let e = changed_unpatched c z t lt sizes in same_half z (without_patch c z t) e.rest

  pub record Ended (s z : Store F P H) : Type 0 where
    pub cleared : Cleared s z
    pub none : z.half ≡ None

  ended_by : (s z : Store F P H) (h : HalfWrite H) (origin : Origin) → h.track < tracks_of z → Cleared s z → Ended s (half_ended c z h origin)
  ended_by s z h (OfCommand bypass e) lt f =
      let g = closed_cleared s z f in
      record { cleared = patch_cleared s (half_closed z) h.track lt g; none = patch_half (half_closed z) h.track lt g.sizes }
  ended_by s z h (OfCut bypass) lt f =
      let g = closed_cleared s z f in
      record { cleared = patch_cleared s (half_closed z) h.track lt g; none = patch_half (half_closed z) h.track lt g.sizes }
  ended_by s z h OfBackground lt f = record { cleared = closed_cleared s z f; none = refl }

  lost_by : (s z : Store F P H) (o : Option (HalfWrite H)) → z.half ≡ o → Cleared s z → Ended s (half_lost c z o)
  lost_by s z (Some h) e f = ended_by s z h h.origin (half_within z f.here h e) f
  lost_by s z None e f = record { cleared = f; none = e }

  unqueued : (s z : Store F P H) → Ended s z → Ended s (record z { queue = [] })
  unfolding M.track_at C.rest_of
  unqueued s z f = record {
    cleared = record {
      sizes = record { are = f.cleared.sizes.are };
      here = record { free = f.cleared.here.free; alone = f.cleared.here.alone; whole = f.cleared.here.whole; within = f.cleared.here.within; queued = tt };
      tracks = f.cleared.tracks;
      marks = f.cleared.marks;
    };
    none = f.none;
  }

  abbrev before : Store F P H → Store F P H
  before s = record (half_lost c (loose_gone c s) s.half) { queue = [] }

  before_ended : (s : Store F P H) → IsWell c s → Ended s (before s)
  before_ended s w =
      unqueued s (half_lost c (loose_gone c s) s.half)
      (lost_by s (loose_gone c s) s.half (gone_half s (has_loose s)) (gone_by s (has_loose s) refl w))

  none_half : (z : Store F P H) (q : ℕ) → z.half ≡ None → (track_at c z q).half ≡ false
  unfolding M.track_at
  none_half z q e = ap (λ (o : Option (HalfWrite H)). half_is o q) e

  bare_near : (x y : TrackMarks) → is_good x ≡ true → Bare x y → y.half ≡ false → is_near (record y { frame = None }) ≡ true
  bare_near x y good b half =
      rw half (rw b.loose (rw b.lost (rw b.level (gone_near x.frame x.patched x.lost x.loose x.half x.level good y.patched b.patched))))

  swept_off : (n : ℕ) (z : Store F P H) → n ≡ tracks_of z → HasSizes z → IsHere (rest_of z) →
      Swept c unframed_settled z (over n (λ t y. settled c (without_frame y t) t) z) n
  swept_off n z e sizes here =
      swept c unframed_settled (λ t y. settled c (without_frame y t) t) (step c faithful) n z (omega arith) sizes here

  pub powerless_keeps : (s : Store F P H) → IsWell c s → Keeps c faithful s (powerless c s)
  powerless_keeps s w =
      let f = before_ended s w in
      let i = f.cleared in
      let z = before s in
      let n = tracks_of s in
      let y = over n (λ t v. settled c (without_frame v t) t) z in
      let e = swept_off n z (sym i.tracks) i.sizes i.here in
      let same : tracks_of y ≡ tracks_of s = same_tracks z y e.rest ∙ i.tracks in
      record {
        well = record {
          sizes = e.sizes;
          here = subst IsHere (sym e.rest) i.here;
          good = λ q lt. let below : q < tracks_of s = omega arith in
              ap is_good (e.changed q below)
              ∙ settling_makes_good (record (track_at c z q) { frame = None })
              (bare_near (track_at c s q) (track_at c z q) (w.good q below) (i.marks q below) (none_half z q f.none));
          kept = λ q lt. let below : q < tracks_of s = omega arith in
              rw (e.changed q below) (settled_kept (record (track_at c z q) { frame = None }) (λ h. absurd (let g = none_half z q f.none in cc)));
        };
        tracks = same;
      }

  pub off_keeps : (s : Store F P H) → IsWell c s → Keeps c faithful s (powerless c (with_loss s losses.Cache))
  off_keeps s w =
      let z = with_loss s losses.Cache in
      let g = goes_same c s z w (counted_same c faithful s losses.Cache w) in
      keeps_on c faithful s z (powerless c z) (goes_keeps c faithful s z g) (powerless_keeps z g.well)

  -- the loss of power, as an event
  pub power_keeps_good : (d : Device F P H) → IsWell c d.store → Always (power c d) (λ y _. Keeps c faithful d.store y.store)
  unfolding U.power
  power_keeps_good d w =
      let front = goes_same c d.store (event_begun d).store w (begun_same c faithful d w) in
      quiet_event_keeps c faithful d
      (λ z. and_then (half_cut c z.store z.store.half) (λ s _. Done (powered_off c z s) tt))
      (always_then (cutting_keeps_good c faithful (event_begun d).store front.well)
      (λ s _ k. always_done (keeps_on c faithful d.store s (powerless c (with_loss s losses.Cache))
      (keeps_on c faithful d.store (event_begun d).store s (goes_keeps c faithful d.store (event_begun d).store front) k) (off_keeps s k.well))))
