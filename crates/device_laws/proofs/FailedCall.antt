-- A failed call between two writes keeps good marks good, and makes no track loose.
use Rattle.std.proofs.Common.{◌≡◌, ◌≢◌, ◌<◌, zero, suc, ℕ, Bool, true, false, Option, Some, None, refl, sym, ap, subst, ◌∙◌, arith, ◌⊎◌, inl, inr}
use Rattle.std.proofs.lemmas.Bool.{cases_eq}
use Rattle.std.proofs.lemmas.List.{length-set}
use Rattle.std.specs.Prelude.{if◌then◌else◌}
use Rattle.ckd_types.specs.declared.paths.Side.{Side}
use Rattle.ckd_types.specs.declared.paths.Side.TheVariants.{A, B}
use Rattle.track_image.specs.Image.{Image}
use Rattle.device_outside.specs.Interaction.{Interaction, Done, Tell}
use Rattle.device_outside.specs.Keeper.{Firm}
use Rattle.device_defs.specs.Between.{HasSizes}
use Rattle.device_defs.specs.Contents.{Contents}
use Rattle.device_defs.specs.Losses as L
use Rattle.device_defs.specs.Losses.{down, side_lost, framed_image, all_firm_told, call_failed}
use Rattle.device_defs.specs.Store.{Store, tracks_of, frame_at, owed_at, with_owed}
use Rattle.device_laws.proofs.Always.{Always, always_done, always_tell, always_then, always_weaker}
use Rattle.device_laws.proofs.Changes as C
use Rattle.device_laws.proofs.Changes.{Changed, rest_of}
use Rattle.device_laws.proofs.SideLost.{down_here, down_tracks, lost_side_settles, lost_side_keeps_good}
use Rattle.device_laws.proofs.Sweeps.{IsHere, same_tracks, same_half}
use Rattle.device_laws.proofs.TrackMarks as M
use Rattle.device_laws.proofs.TrackMarks.{TrackMarks, marks, IsFaithful, settled_marks, is_good, track_at, good_is_near}

-- settling makes no track loose
still_firm : (f : Option Bool) (p l h v : Bool) → (settled_marks (marks f p l false h v)).loose ≡ false
still_firm f p true h v = refl
still_firm f p false h true = refl
still_firm (Some m) p false h false = refl
still_firm None p false true false = refl
still_firm None p false false false = refl

pub settled_firm : (x : TrackMarks) → x.loose ≡ false → (settled_marks x).loose ≡ false
settled_firm x e = rw e (still_firm x.frame x.patched x.lost x.half x.level)

-- the track of an open half write isn't lost
abbrev pub IsKept : TrackMarks → Type 0
IsKept x = x.half ≡ true → x.lost ≡ false

still_kept : (f : Option Bool) (p l o h v : Bool) → IsKept (marks f p l o h v) → IsKept (settled_marks (marks f p l o h v))
still_kept f p true o h v k e = k e
still_kept f p false o h true k e = refl
still_kept (Some m) p false true h false k e = refl
still_kept (Some m) p false false h false k e = refl
still_kept None p false o true false k e = refl
still_kept None p false o false false k e = absurd (cc)

pub settled_kept : (x : TrackMarks) → IsKept x → IsKept (settled_marks x)
settled_kept x k = still_kept x.frame x.patched x.lost x.loose x.half x.level k

module _ {F P H R : Type 0} (c : Contents F P H R) where
  -- a device that isn't lent, all marks of which are good
  pub record IsWell (s : Store F P H) : Type 0 where
    pub sizes : HasSizes s
    pub here : IsHere (rest_of s)
    pub good : (q : ℕ) → q < tracks_of s → is_good (track_at c s q) ≡ true
    pub kept : (q : ℕ) → q < tracks_of s → IsKept (track_at c s q)

  -- the marks are the same
  pub record IsSame (s z : Store F P H) : Type 0 where
    pub sizes : HasSizes z
    pub rest : rest_of z ≡ rest_of s
    pub marks : (q : ℕ) → track_at c z q ≡ track_at c s q

  pub same_is_well : (s z : Store F P H) → IsWell s → IsSame s z → IsWell z
  same_is_well s z w e = record {
    sizes = e.sizes;
    here = subst IsHere (sym e.rest) w.here;
    good = λ q lt. ap is_good (e.marks q) ∙ w.good q (let same = same_tracks s z e.rest in omega arith);
    kept = λ q lt. subst IsKept (sym (e.marks q)) (w.kept q (let same = same_tracks s z e.rest in omega arith));
  }

  abbrev told_if : Store F P H → ℕ → Bool → Interaction R Image (Store F P H) (Unit {0})
  told_if s t b =
      if b then Tell (Firm s.device t (framed_image c s t (frame_at s t))) (λ _. Done (with_owed s t (record (owed_at s t) { firm = false })) tt)
      else Done s tt

  told_by : (s : Store F P H) (t : ℕ) (b : Bool) → HasSizes s → Always (told_if s t b) (λ z _. IsSame s z)
  unfolding M.track_at C.rest_of
  told_by s t true sizes = always_tell (λ r. always_done (record { sizes = record { are = simp length-set sizes.are }; rest = refl; marks = λ q. refl }))
  told_by s t false sizes = always_done (record { sizes = sizes; rest = refl; marks = λ q. refl })

  pub told_same : (n : ℕ) (s : Store F P H) → HasSizes s → Always (all_firm_told c n s) (λ z _. IsSame s z)
  unfolding L.all_firm_told
  told_same zero s sizes = always_done (record { sizes = sizes; rest = refl; marks = λ q. refl })
  told_same (suc n) s sizes =
      always_then (told_same n s sizes)
      (λ z _ e. always_weaker (told_by z n (owed_at z n).firm e.sizes)
      (λ y _ f. record { sizes = f.sizes; rest = f.rest ∙ e.rest; marks = λ q. f.marks q ∙ e.marks q }))

  -- behind a failed call
  pub record Goes (s z : Store F P H) : Type 0 where
    pub well : IsWell z
    pub tracks : tracks_of z ≡ tracks_of s
    pub firm : (q : ℕ) → q < tracks_of s → (track_at c s q).loose ≡ false → (track_at c z q).loose ≡ false
    pub half : z.half ≡ s.half

  pub stays : (s : Store F P H) → IsWell s → Goes s s
  stays s w = record { well = w; tracks = refl; firm = λ q lt e. e; half = refl }

  pub goes_on : (s z y : Store F P H) → Goes s z → Goes z y → Goes s y
  goes_on s z y f g = record {
    well = g.well;
    tracks = g.tracks ∙ f.tracks;
    firm = λ q lt e. g.firm q (let same = f.tracks in omega arith) (f.firm q lt e);
    half = g.half ∙ f.half;
  }

  pub goes_same : (s z : Store F P H) → IsWell s → IsSame s z → Goes s z
  goes_same s z w e = record {
    well = same_is_well s z w e;
    tracks = same_tracks s z e.rest;
    firm = λ q lt f. ap (λ (x : TrackMarks). x.loose) (e.marks q) ∙ f;
    half = same_half s z e.rest;
  }

  down_loose : (s : Store F P H) (side : Side) (q : ℕ) → (track_at c (down s side) q).loose ≡ (track_at c s q).loose
  unfolding M.track_at
  down_loose s A q = refl
  down_loose s B q = refl

  down_half : (s : Store F P H) (side : Side) → (down s side).half ≡ s.half
  down_half s A = refl
  down_half s B = refl

  pub down_kept : (s : Store F P H) (side : Side) (q : ℕ) → IsKept (track_at c s q) → IsKept (track_at c (down s side) q)
  unfolding M.track_at
  down_kept s A q k = k
  down_kept s B q k = k

  module _ (faithful : IsFaithful c) where
    pub side_goes : (s : Store F P H) (side : Side) → IsWell s → Goes s (side_lost c s side None)
    side_goes s side w =
        let e = lost_side_settles c faithful s side None w.sizes w.here in
        let same : tracks_of (side_lost c s side None) ≡ tracks_of s =
        same_tracks (down s side) (side_lost c s side None) e.rest ∙ down_tracks c faithful s side in
        record {
          well = record {
            sizes = e.sizes;
            here = subst IsHere (sym e.rest) (down_here c faithful s side w.here);
            good = λ q lt. let below : q < tracks_of s = omega arith in
                lost_side_keeps_good c faithful s side None w.sizes w.here q below (good_is_near (track_at c s q) (w.good q below)) (λ f. absurd (cc));
            kept = λ q lt. let below : q < tracks_of s = omega arith in
                subst IsKept (sym (e.changed q below)) (settled_kept (track_at c (down s side) q) (down_kept s side q (w.kept q below)));
          };
          tracks = same;
          firm = λ q lt f. ap (λ (x : TrackMarks). x.loose) (e.changed q lt)
              ∙ settled_firm (track_at c (down s side) q) (down_loose s side q ∙ f);
          half = same_half (down s side) (side_lost c s side None) e.rest ∙ down_half s side;
        }

    failed_by : (s : Store F P H) (side : Side) (b : Bool) → IsWell s →
        Always (if b then all_firm_told c (tracks_of s) (side_lost c s side None) else Done s tt) (λ z _. Goes s z)
    failed_by s side true w =
        let f = side_goes s side w in
        always_weaker (told_same (tracks_of s) (side_lost c s side None) f.well.sizes)
        (λ z _ e. goes_on s (side_lost c s side None) z f (goes_same (side_lost c s side None) z f.well e))
    failed_by s side false w = always_done (stays s w)

    -- a failed call that isn't a write's
    pub failed_call_keeps_good : (s : Store F P H) (side : Side) → IsWell s → Always (call_failed c s side None) (λ z _. Goes s z)
    failed_call_keeps_good s side w = failed_by s side s.paired w

  by_place : (s z : Store F P H) (t : ℕ) (x : TrackMarks) → IsWell s → Changed c s z t x → is_good x ≡ true →
      (q : ℕ) → q < tracks_of s → ((q ≡ t) ⊎ (q ≢ t)) → is_good (track_at c z q) ≡ true
  by_place s z t x w e good q lt (inl is) =
      subst (λ (p : ℕ). is_good (track_at c z p) ≡ true) (sym is) (ap is_good e.here ∙ good)
  by_place s z t x w e good q lt (inr ne) = ap is_good (e.elsewhere q ne) ∙ w.good q lt

  kept_by : (s z : Store F P H) (t : ℕ) (x : TrackMarks) → IsWell s → Changed c s z t x → IsKept x →
      (q : ℕ) → q < tracks_of s → ((q ≡ t) ⊎ (q ≢ t)) → IsKept (track_at c z q)
  kept_by s z t x w e k q lt (inl is) = subst (λ (p : ℕ). IsKept (track_at c z p)) (sym is) (subst IsKept (sym e.here) k)
  kept_by s z t x w e k q lt (inr ne) = subst IsKept (sym (e.elsewhere q ne)) (w.kept q lt)

  loose_by : (s z : Store F P H) (t : ℕ) (x : TrackMarks) → Changed c s z t x → ((track_at c s t).loose ≡ false → x.loose ≡ false) →
      (q : ℕ) → ((q ≡ t) ⊎ (q ≢ t)) → (track_at c s q).loose ≡ false → (track_at c z q).loose ≡ false
  loose_by s z t x e firm q (inl is) f =
      rw is (ap (λ (y : TrackMarks). y.loose) e.here ∙ firm (subst (λ (p : ℕ). (track_at c s p).loose ≡ false) is f))
  loose_by s z t x e firm q (inr ne) f = ap (λ (y : TrackMarks). y.loose) (e.elsewhere q ne) ∙ f

  -- a change of one track that leaves it good, and doesn't make it loose
  pub changed_goes : (s z : Store F P H) (t : ℕ) (x : TrackMarks) → IsWell s → Changed c s z t x → is_good x ≡ true → IsKept x →
      ((track_at c s t).loose ≡ false → x.loose ≡ false) → Goes s z
  changed_goes s z t x w e good kept firm =
      let same : tracks_of z ≡ tracks_of s = same_tracks s z e.rest in
      record {
        well = record {
          sizes = e.sizes;
          here = subst IsHere (sym e.rest) w.here;
          good = λ q lt. by_place s z t x w e good q (omega arith) (cases_eq q t);
          kept = λ q lt. kept_by s z t x w e kept q (omega arith) (cases_eq q t);
        };
        tracks = same;
        firm = λ q lt f. loose_by s z t x e firm q (cases_eq q t) f;
        half = same_half s z e.rest;
      }
