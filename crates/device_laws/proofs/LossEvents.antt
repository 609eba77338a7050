-- The losses of the cache, of the store and of a side, as events, keep good marks good whatever is answered.
use Rattle.std.proofs.Common.{◌≡◌, ◌<◌, Bool, true, false, None, refl, sym, ap, subst, ◌∙◌, arith}
use Rattle.std.specs.Prelude.{if◌then◌else◌}
use Rattle.loss_model.specs.declared.Loss.{Loss}
use Rattle.loss_model.specs.declared.Loss.TheVariants as losses
use Rattle.track_image.specs.Image.{Image}
use Rattle.device_outside.specs.Interaction.{Interaction, Done, and_then}
use Rattle.device_defs.specs.Contents.{Contents}
use Rattle.device_defs.specs.Device.{Device, with_store, event_begun, event}
use Rattle.device_defs.specs.Events as E
use Rattle.device_defs.specs.Events.{with_loss, lost_by, losing, lose}
use Rattle.device_defs.specs.Losses.{cache_lost, store_lost}
use Rattle.device_defs.specs.Owed.{waiting_count}
use Rattle.device_defs.specs.Store.{Store, tracks_of, has_loose}
use Rattle.device_laws.proofs.Always.{Always, always_done, always_then, always_weaker}
use Rattle.device_laws.proofs.CacheLost.{begun, begun_by, begun_here, begun_tracks, lost_cache_sweeps, lost_cache_settles, lost_cache_keeps_good}
use Rattle.device_laws.proofs.Changes as C
use Rattle.device_laws.proofs.Changes.{rest_of}
use Rattle.device_laws.proofs.FailedCall.{IsKept, settled_kept, IsWell, IsSame, Goes, goes_on, goes_same, side_goes, told_same, settled_firm}
use Rattle.device_laws.proofs.Notices.{hearing_keeps_good, ending_changes_no_mark}
use Rattle.device_laws.proofs.StoreLost.{unpatched_by, lost_store_sweeps, lost_store_keeps_good}
use Rattle.device_laws.proofs.Sweeps.{IsHere, same_tracks, same_half}
use Rattle.device_laws.proofs.TrackMarks as M
use Rattle.device_laws.proofs.TrackMarks.{TrackMarks, IsFaithful, track_at}

gone_by : (x : TrackMarks) (h : Bool) → x.loose ≡ false → (unpatched_by h x).loose ≡ false
gone_by x true e = e
gone_by x false e = settled_firm (record x { patched = false; level = false }) e

gone_firm : (x : TrackMarks) (p : Bool) → x.loose ≡ false → (if p then unpatched_by x.half x else x).loose ≡ false
gone_firm x true e = gone_by x x.half e
gone_firm x false e = e

kept_by : (x : TrackMarks) (h : Bool) → IsKept x → IsKept (unpatched_by h x)
kept_by x true k = k
kept_by x false k = settled_kept (record x { patched = false; level = false }) k

gone_kept : (x : TrackMarks) (p : Bool) → IsKept x → IsKept (if p then unpatched_by x.half x else x)
gone_kept x true k = kept_by x x.half k
gone_kept x false k = k

module _ {F P H R : Type 0} (c : Contents F P H R) (faithful : IsFaithful c) where
  begun_half : (s : Store F P H) (b : Bool) → (begun_by c faithful b s).half ≡ s.half
  begun_half s true = refl
  begun_half s false = refl

  cache_goes : (s : Store F P H) → IsWell c s → Goes c s (cache_lost c s)
  cache_goes s w =
      let e = lost_cache_sweeps c faithful s w.sizes w.here in
      let same : tracks_of (cache_lost c s) ≡ tracks_of s =
      same_tracks (begun c faithful s) (cache_lost c s) e.rest ∙ begun_tracks c faithful s (has_loose s) in
      record {
        well = record {
          sizes = e.sizes;
          here = subst IsHere (sym e.rest) (begun_here c faithful s (has_loose s) w.here);
          good = λ q lt. let below : q < tracks_of s = omega arith in
              lost_cache_keeps_good c faithful s w.sizes w.here q below (w.good q below);
          kept = λ q lt. let below : q < tracks_of s = omega arith in
              rw (lost_cache_settles c faithful s w.sizes w.here q below)
              (settled_kept (record (track_at c s q) { frame = None; loose = false }) (w.kept q below));
        };
        tracks = same;
        firm = λ q lt f. ap (λ (x : TrackMarks). x.loose) (lost_cache_settles c faithful s w.sizes w.here q lt)
            ∙ settled_firm (record (track_at c s q) { frame = None; loose = false }) refl;
        half = same_half (begun c faithful s) (cache_lost c s) e.rest ∙ begun_half s (has_loose s);
      }

  store_goes : (s : Store F P H) → IsWell c s → Goes c s (store_lost c s)
  store_goes s w =
      let e = lost_store_sweeps c faithful s w.sizes w.here in
      let same : tracks_of (store_lost c s) ≡ tracks_of s = same_tracks s (store_lost c s) e.rest in
      record {
        well = record {
          sizes = e.sizes;
          here = subst IsHere (sym e.rest) w.here;
          good = λ q lt. let below : q < tracks_of s = omega arith in
              lost_store_keeps_good c faithful s w.sizes w.here q below (w.good q below);
          kept = λ q lt. let below : q < tracks_of s = omega arith in
              subst IsKept (sym (e.changed q below)) (gone_kept (track_at c s q) (track_at c s q).patched (w.kept q below));
        };
        tracks = same;
        firm = λ q lt f. ap (λ (x : TrackMarks). x.loose) (e.changed q lt) ∙ gone_firm (track_at c s q) (track_at c s q).patched f;
        half = same_half s (store_lost c s) e.rest;
      }

  pub loss_goes : (s : Store F P H) (loss : Loss) → IsWell c s → Goes c s (lost_by c s loss)
  loss_goes s losses.Cache w = cache_goes s w
  loss_goes s losses.Store w = store_goes s w
  loss_goes s (losses.Side side) w = side_goes c faithful s side w

  pub counted_same : (s : Store F P H) (loss : Loss) → IsWell c s → IsSame c s (with_loss s loss)
  unfolding M.track_at C.rest_of
  counted_same s loss w = record { sizes = record { are = w.sizes.are }; rest = refl; marks = λ q. refl }

  pub losing_goes : (s : Store F P H) (loss : Loss) → IsWell c s → Always (losing c s loss) (λ z _. Goes c s z)
  losing_goes s loss w =
      let counted = goes_same c s (with_loss s loss) w (counted_same s loss w) in
      let lost = loss_goes (with_loss s loss) loss counted.well in
      let gone = goes_on c s (with_loss s loss) (lost_by c (with_loss s loss) loss) counted lost in
      always_weaker (told_same c (tracks_of s) (lost_by c (with_loss s loss) loss) lost.well.sizes)
      (λ z _ e. goes_on c s (lost_by c (with_loss s loss) loss) z gone (goes_same c (lost_by c (with_loss s loss) loss) z lost.well e))

  pub begun_same : (d : Device F P H) → IsWell c d.store → IsSame c d.store (event_begun d).store
  unfolding M.track_at C.rest_of
  begun_same d w = record { sizes = record { are = w.sizes.are }; rest = refl; marks = λ q. refl }

  -- an event keeps good marks good where what it does between its front and its end does
  pub event_keeps_good : {A : Type 0} (d : Device F P H) (body : Device F P H → Interaction R Image (Device F P H) A) → IsWell c d.store →
      ((z : Device F P H) → IsWell c z.store → Always (body z) (λ y _. Goes c z.store y.store)) →
      Always (event c d body) (λ y _. Goes c d.store y.store)
  event_keeps_good d body w does =
      let front = goes_same c d.store (event_begun d).store w (begun_same d w) in
      always_then {p = λ y _. Goes c d.store y.store}
      (always_then (hearing_keeps_good c 960 (event_begun d).store front.well)
      (λ s _ f. always_weaker (does (record (event_begun d) { store = s }) f.well)
      (λ y _ g. goes_on c d.store (event_begun d).store y.store front (goes_on c (event_begun d).store s y.store f g))))
      (λ y a g. always_then (ending_changes_no_mark c (waiting_count c d.store) y.store g.well.sizes)
      (λ z _ e. always_done (goes_on c d.store y.store z g (goes_same c y.store z g.well e))))

  -- a loss as an event
  pub loss_keeps_good : (d : Device F P H) (loss : Loss) → IsWell c d.store → Always (lose c d loss) (λ y _. Goes c d.store y.store)
  unfolding E.lose
  loss_keeps_good d loss w =
      event_keeps_good d (λ z. and_then (losing c z.store loss) (λ s _. Done (with_store z s) tt)) w
      (λ z v. always_then (losing_goes z.store loss v) (λ s _ f. always_done f))
