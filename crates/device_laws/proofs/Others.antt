-- While one track is written, all others stay good.
use Rattle.std.proofs.Common.{◌≡◌, ◌≢◌, ◌<◌, ◌==◌, ℕ, Bool, true, false, Some, refl, sym, ap, subst, ◌∙◌, arith, ◌⊎◌, inl, inr}
use Rattle.std.proofs.lemmas.Bool.{cases_eq}
use Rattle.std.proofs.lemmas.List.{get_or-set_other, length-set}
use Rattle.std.specs.Prelude.{if◌then◌else◌}
use Rattle.ckd_types.specs.declared.paths.Side.{Side}
use Rattle.ckd_types.specs.declared.paths.Side.TheVariants.{A, B}
use Rattle.device_outside.specs.Interaction.{Done}
use Rattle.device_defs.specs.Between.{HasSizes}
use Rattle.device_defs.specs.Contents.{Contents}
use Rattle.device_defs.specs.Losses.{down, side_lost, settled, all_firm_told, call_failed}
use Rattle.device_defs.specs.Store.{Store, tracks_of, has_level, with_stale}
use Rattle.device_laws.proofs.Always.{Always, always_done, always_weaker}
use Rattle.device_laws.proofs.Changes as C
use Rattle.device_laws.proofs.Changes.{Rest, Changed, rest_of}
use Rattle.device_laws.proofs.FailedCall.{IsKept, settled_kept, settled_firm, down_kept, IsWell, IsSame, Goes, told_same}
use Rattle.device_laws.proofs.Settled.{settled_changes_one_track}
use Rattle.device_laws.proofs.SideLost.{down_near, down_here, down_tracks, lost_side_settles, lost_side_keeps_good}
use Rattle.device_laws.proofs.Sweeps.{IsHere, same_tracks, same_half, is_free}
use Rattle.device_laws.proofs.TrackMarks as M
use Rattle.device_laws.proofs.TrackMarks.{
  TrackMarks,
  IsFaithful,
  settled_marks,
  is_near,
  is_good,
  track_at,
  good_is_near,
  settling_makes_good,
  near_with_fewer_sides,
}

unless_kept : (x : TrackMarks) (b : Bool) → IsKept x → IsKept (if b then x else settled_marks x)
unless_kept x true k = k
unless_kept x false k = settled_kept x k

unless_firm : (x : TrackMarks) (b : Bool) → x.loose ≡ false → (if b then x else settled_marks x).loose ≡ false
unless_firm x true e = e
unless_firm x false e = settled_firm x e

unless_own : (x : TrackMarks) (b : Bool) → b ≡ true → (if b then x else settled_marks x) ≡ x
unless_own x true e = refl
unless_own x false e = absurd (cc)

module _ {F P H R : Type 0} (c : Contents F P H R) where
  -- z is what became of s, where track t is being written
  pub record Others (t : ℕ) (s z : Store F P H) : Type 0 where
    pub sizes : HasSizes z
    pub here : IsHere (rest_of z)
    pub tracks : tracks_of z ≡ tracks_of s
    pub half : z.half ≡ s.half
    pub good : (q : ℕ) → q ≢ t → q < tracks_of s → is_good (track_at c z q) ≡ true
    pub kept : (q : ℕ) → q ≢ t → q < tracks_of s → IsKept (track_at c z q)
    pub firm : (q : ℕ) → q ≢ t → q < tracks_of s → (track_at c s q).loose ≡ false → (track_at c z q).loose ≡ false

  -- of t itself it is still known whether it is lost or loose
  pub record Open (t : ℕ) (s z : Store F P H) : Type 0 where
    pub others : Others t s z
    pub near : is_near (track_at c z t) ≡ true
    pub lost : (track_at c z t).lost ≡ (track_at c s t).lost
    pub loose : (track_at c z t).loose ≡ (track_at c s t).loose
    pub own : (track_at c z t).half ≡ (track_at c s t).half

  pub opens : (s : Store F P H) (t : ℕ) → t < tracks_of s → IsWell c s → Open t s s
  opens s t lt w = record {
    others = record {
      sizes = w.sizes;
      here = w.here;
      tracks = refl;
      half = refl;
      good = λ q ne below. w.good q below;
      kept = λ q ne below. w.kept q below;
      firm = λ q ne below e. e;
    };
    near = good_is_near (track_at c s t) (w.good t lt);
    lost = refl;
    loose = refl;
    own = refl;
  }

  pub others_changed : (t : ℕ) (s z y : Store F P H) (x : TrackMarks) → Others t s z → Changed c z y t x → Others t s y
  others_changed t s z y x o e = record {
    sizes = e.sizes;
    here = subst IsHere (sym e.rest) o.here;
    tracks = same_tracks z y e.rest ∙ o.tracks;
    half = same_half z y e.rest ∙ o.half;
    good = λ q ne lt. ap is_good (e.elsewhere q ne) ∙ o.good q ne lt;
    kept = λ q ne lt. subst IsKept (sym (e.elsewhere q ne)) (o.kept q ne lt);
    firm = λ q ne lt f. ap (λ (m : TrackMarks). m.loose) (e.elsewhere q ne) ∙ o.firm q ne lt f;
  }

  others_same : (t : ℕ) (s z y : Store F P H) → Others t s z → IsSame c z y → Others t s y
  others_same t s z y o e = record {
    sizes = e.sizes;
    here = subst IsHere (sym e.rest) o.here;
    tracks = same_tracks z y e.rest ∙ o.tracks;
    half = same_half z y e.rest ∙ o.half;
    good = λ q ne lt. ap is_good (e.marks q) ∙ o.good q ne lt;
    kept = λ q ne lt. subst IsKept (sym (e.marks q)) (o.kept q ne lt);
    firm = λ q ne lt f. ap (λ (m : TrackMarks). m.loose) (e.marks q) ∙ o.firm q ne lt f;
  }

  pub open_same : (t : ℕ) (s z y : Store F P H) → Open t s z → IsSame c z y → Open t s y
  open_same t s z y o e = record {
    others = others_same t s z y o.others e;
    near = ap is_near (e.marks t) ∙ o.near;
    lost = ap (λ (m : TrackMarks). m.lost) (e.marks t) ∙ o.lost;
    loose = ap (λ (m : TrackMarks). m.loose) (e.marks t) ∙ o.loose;
    own = ap (λ (m : TrackMarks). m.half) (e.marks t) ∙ o.own;
  }

  -- t is good, too
  all_good : (t : ℕ) (s z : Store F P H) → Others t s z → is_good (track_at c z t) ≡ true →
      (q : ℕ) → q < tracks_of s → ((q ≡ t) ⊎ (q ≢ t)) → is_good (track_at c z q) ≡ true
  all_good t s z o good q lt (inl is) = subst (λ (p : ℕ). is_good (track_at c z p) ≡ true) (sym is) good
  all_good t s z o good q lt (inr ne) = o.good q ne lt

  all_kept : (t : ℕ) (s z : Store F P H) → Others t s z → IsKept (track_at c z t) →
      (q : ℕ) → q < tracks_of s → ((q ≡ t) ⊎ (q ≢ t)) → IsKept (track_at c z q)
  all_kept t s z o kept q lt (inl is) = subst (λ (p : ℕ). IsKept (track_at c z p)) (sym is) kept
  all_kept t s z o kept q lt (inr ne) = o.kept q ne lt

  all_firm : (t : ℕ) (s z : Store F P H) → Others t s z → ((track_at c s t).loose ≡ false → (track_at c z t).loose ≡ false) →
      (q : ℕ) → q < tracks_of s → ((q ≡ t) ⊎ (q ≢ t)) → (track_at c s q).loose ≡ false → (track_at c z q).loose ≡ false
  all_firm t s z o firm q lt (inl is) f =
      subst (λ (p : ℕ). (track_at c z p).loose ≡ false) (sym is) (firm (subst (λ (p : ℕ). (track_at c s p).loose ≡ false) is f))
  all_firm t s z o firm q lt (inr ne) f = o.firm q ne lt f

  pub shut_well : (t : ℕ) (s z : Store F P H) → Others t s z → is_good (track_at c z t) ≡ true → IsKept (track_at c z t) → IsWell c z
  shut_well t s z o good kept = record {
    sizes = o.sizes;
    here = o.here;
    good = λ q lt. all_good t s z o good q (let same = o.tracks in omega arith) (cases_eq q t);
    kept = λ q lt. all_kept t s z o kept q (let same = o.tracks in omega arith) (cases_eq q t);
  }

  pub shut_goes : (t : ℕ) (s z : Store F P H) → Others t s z → is_good (track_at c z t) ≡ true → IsKept (track_at c z t) →
      ((track_at c s t).loose ≡ false → (track_at c z t).loose ≡ false) → Goes c s z
  shut_goes t s z o good kept firm = record {
    well = shut_well t s z o good kept;
    tracks = o.tracks;
    firm = λ q lt f. all_firm t s z o firm q lt (cases_eq q t) f;
    half = o.half;
  }

  -- a side's mark of t alone
  pub changed_stale : (s : Store F P H) (side : Side) (t : ℕ) (b : Bool) → HasSizes s →
      Changed c s (with_stale s side t b) t (record (track_at c s t) { level = has_level (with_stale s side t b) t })
  unfolding M.track_at C.rest_of
  changed_stale s A t b sizes = record {
    sizes = record { are = simp length-set sizes.are };
    rest = refl;
    elsewhere = λ q ne. grind (arith, get_or-set_other);
    here = refl;
  }
  changed_stale s B t b sizes = record {
    sizes = record { are = simp length-set sizes.are };
    rest = refl;
    elsewhere = λ q ne. grind (arith, get_or-set_other);
    here = refl;
  }

  level_of : (s : Store F P H) (t : ℕ) → (track_at c s t).level ≡ has_level s t
  unfolding M.track_at
  level_of s t = refl

  module _ (faithful : IsFaithful c) where
    -- behind a failed call while t is being written
    pub record Failed (t : ℕ) (s z : Store F P H) (side : Side) (y : Store F P H) : Type 0 where
      pub still : Open t s y
      pub up : side ≡ A → y.b.up ≡ z.b.up

    down_half : (s : Store F P H) (side : Side) → (down s side).half ≡ s.half
    down_half s A = refl
    down_half s B = refl

    down_marks : (s : Store F P H) (side : Side) (q : ℕ) →
        track_at c (down s side) q ≡ record (track_at c s q) { level = has_level (down s side) q }
    unfolding M.track_at
    down_marks s A q = refl
    down_marks s B q = refl

    down_up : (s : Store F P H) (side : Side) → side ≡ A → (down s side).b.up ≡ s.b.up
    down_up s A e = refl
    down_up s B e = absurd (cc)

    same_up : (s z : Store F P H) → rest_of z ≡ rest_of s → z.b.up ≡ s.b.up
    unfolding C.rest_of
    same_up s z e = ap (λ (r : Rest H). r.up_b) e

    side_open : (t : ℕ) (s z : Store F P H) (side : Side) → t < tracks_of s → Open t s z → Failed t s z side (side_lost c z side (Some t))
    side_open t s z side lt o =
        let i = o.others in
        let y = side_lost c z side (Some t) in
        let e = lost_side_settles c faithful z side (Some t) i.sizes i.here in
        let rest = e.rest in
        let same : tracks_of z ≡ tracks_of s = i.tracks in
        let own : track_at c y t ≡ track_at c (down z side) t =
        e.changed t (omega arith) ∙ unless_own (track_at c (down z side) t) (t == t) (grind arith) in
        let all : track_at c y t ≡ record (track_at c z t) { level = has_level (down z side) t } = own ∙ down_marks z side t in
        record {
          still = record {
            others = record {
              sizes = e.sizes;
              here = subst IsHere (sym rest) (down_here c faithful z side i.here);
              tracks = same_tracks (down z side) y rest ∙ down_tracks c faithful z side ∙ same;
              half = same_half (down z side) y rest ∙ down_half z side ∙ i.half;
              good = λ q ne below. lost_side_keeps_good c faithful z side (Some t) i.sizes i.here q (omega arith)
                  (good_is_near (track_at c z q) (i.good q ne below)) (λ f. ne (cc));
              kept = λ q ne below. rw (e.changed q (omega arith))
                  (unless_kept (track_at c (down z side) q) (q == t) (down_kept c z side q (i.kept q ne below)));
              firm = λ q ne below f. ap (λ (m : TrackMarks). m.loose) (e.changed q (omega arith))
                  ∙ unless_firm (track_at c (down z side) q) (q == t)
                  (ap (λ (m : TrackMarks). m.loose) (down_marks z side q) ∙ i.firm q ne below f);
            };
            near = ap is_near own ∙ down_near c faithful z side t o.near;
            lost = ap (λ (m : TrackMarks). m.lost) all ∙ o.lost;
            loose = ap (λ (m : TrackMarks). m.loose) all ∙ o.loose;
            own = ap (λ (m : TrackMarks). m.half) all ∙ o.own;
          };
          up = λ a. same_up (down z side) y rest ∙ down_up z side a;
        }

    failed_by : (t : ℕ) (s z : Store F P H) (side : Side) (b : Bool) → t < tracks_of s → Open t s z →
        Always (if b then all_firm_told c (tracks_of z) (side_lost c z side (Some t)) else Done z tt) (λ y _. Failed t s z side y)
    failed_by t s z side true lt o =
        let f = side_open t s z side lt o in
        let y = side_lost c z side (Some t) in
        always_weaker (told_same c (tracks_of z) y f.still.others.sizes)
        (λ x _ e. record { still = open_same t s y x f.still e; up = λ a. same_up y x e.rest ∙ f.up a })
    failed_by t s z side false lt o = always_done (record { still = o; up = λ a. refl })

    pub failed_write_keeps_others : (t : ℕ) (s z : Store F P H) (side : Side) → t < tracks_of s → Open t s z →
        Always (call_failed c z side (Some t)) (λ y _. Failed t s z side y)
    failed_write_keeps_others t s z side lt o = failed_by t s z side z.paired lt o

    -- settling leaves the track good
    pub settled_goes : (t : ℕ) (s z : Store F P H) → t < tracks_of s → Open t s z → IsKept (track_at c s t) → Goes c s (settled c z t)
    settled_goes t s z lt o kept =
        let same : tracks_of z ≡ tracks_of s = o.others.tracks in
        let x = track_at c z t in
        let e = settled_changes_one_track c faithful z t (omega arith) o.others.sizes (is_free z o.others.here) in
        shut_goes t s (settled c z t) (others_changed t s z (settled c z t) _ o.others e)
        (ap is_good e.here ∙ settling_makes_good x o.near)
        (subst IsKept (sym e.here) (settled_kept x (λ h. o.lost ∙ kept (sym o.own ∙ h))))
        (λ f. ap (λ (m : TrackMarks). m.loose) e.here ∙ settled_firm x (o.loose ∙ f))

    -- t is stale on side A
    pub stale_open : (t : ℕ) (s z : Store F P H) → Open t s z → ((track_at c (with_stale z A t true) t).level ≡ true → (track_at c z t).level ≡ true) →
        Open t s (with_stale z A t true)
    stale_open t s z o less =
        let e = changed_stale z A t true o.others.sizes in
        let y = with_stale z A t true in
        let v = has_level y t in
        record {
          others = others_changed t s z y _ o.others e;
          near = ap is_near e.here ∙ near_with_fewer_sides (track_at c z t) v o.near (λ f. less (level_of y t ∙ f));
          lost = ap (λ (m : TrackMarks). m.lost) e.here ∙ o.lost;
          loose = ap (λ (m : TrackMarks). m.loose) e.here ∙ o.loose;
          own = ap (λ (m : TrackMarks). m.half) e.here ∙ o.own;
        }
