-- A device of which no side was lost, no call failed, and neither the cache nor the power was lost, loses no track, however often its store was.
use Rattle.std.proofs.Common.{
  ◌≡◌,
  ◌<◌,
  ◌≤◌,
  ◌==◌,
  zero,
  suc,
  ℕ,
  Bool,
  true,
  false,
  not,
  Option,
  Some,
  None,
  is_some,
  length,
  get_or,
  option_map,
  refl,
  sym,
  ap,
  subst,
  ◌∙◌,
  arith,
  ◌⊎◌,
  inl,
  inr,
}
use Rattle.std.proofs.lemmas.Bool.{cases_lt, eqb-true}
use Rattle.std.proofs.lemmas.List.{get_or_past}
use Rattle.std.specs.Prelude.{◌*◌, ◌&&◌, ◌||◌}
use Rattle.ckd_chain.specs.State.{ChainState}
use Rattle.ckd_types.specs.declared.geometry.Geometry.{Geometry}
use Rattle.ckd_types.specs.declared.paths.Side.{Side}
use Rattle.ckd_types.specs.declared.paths.Side.TheVariants as sides
use Rattle.loss_model.specs.declared.Loss.{Loss}
use Rattle.loss_model.specs.declared.Loss.TheVariants as losses
use Rattle.track_image.specs.Image.{Image}
use Rattle.track_table.proofs.Places.{empty_places}
use Rattle.device_outside.specs.Interaction.{Interaction}
use Rattle.device_outside.specs.Keeper.{Hearing}
use Rattle.device_outside.specs.Outside.{Outside, Ran}
use Rattle.device_defs.specs.declared.answers.Did.{Did}
use Rattle.device_defs.specs.declared.answers.SecondEnd.{SecondEnd}
use Rattle.device_defs.specs.declared.answers.Stepped.{Stepped}
use Rattle.device_defs.specs.declared.counts.Losses.{Losses}
use Rattle.device_defs.specs.Command.{command}
use Rattle.device_defs.specs.Contents.{Contents}
use Rattle.device_defs.specs.Cutting.{reset, power}
use Rattle.device_defs.specs.Device.{Device, event_begun, event_ended}
use Rattle.device_defs.specs.Events as E
use Rattle.device_defs.specs.Events.{with_loss, losing, second, background, lose}
use Rattle.device_defs.specs.Losses as L
use Rattle.device_defs.specs.Losses.{store_lost, firm_told, all_firm_told}
use Rattle.device_defs.specs.Excused.{count_lost, may_lose}
use Rattle.device_defs.specs.Orders.{join, split, replace, hold_side, resume}
use Rattle.device_defs.specs.Owed.{is_clean, waiting_count, noted_end}
use Rattle.device_defs.specs.Start as S
use Rattle.device_defs.specs.Start.{start}
use Rattle.device_defs.specs.Store.{HalfWrite, Store, tracks_of, stale_at, has_level, takes_b, frame_at, patch_at, is_lost, is_loose, half_is, owed_at, side_of}
use Rattle.device_laws.specs.NewDevice.{new_contents}
use Rattle.device_laws.specs.Standing.{IsChainOf}
use Rattle.device_laws.specs.Unharmed.{MarksAreGood, IsUnharmed, IsFramed, IsUncached}
use Rattle.device_laws.proofs.Always.{Always}
use Rattle.device_laws.proofs.Based.{kept, Any, Based, based_any}
use Rattle.device_laws.proofs.BasedEvents.{base_in, command_based, second_based, background_based, lose_based, power_based, reset_body}
use Rattle.device_laws.proofs.FailedCall.{IsWell}
use Rattle.device_laws.proofs.FramesKept.{Plates, plates_of, HasFrames, hear_framed}
use Rattle.device_laws.proofs.Harmless.{reset_goes, firm_goes}
use Rattle.device_laws.proofs.invariants.PatchesHaveFrames.{command_frames, second_event_frames, background_frames, reset_frames}
use Rattle.device_laws.proofs.KeepLaws.{always_ran, ran_same}
use Rattle.device_laws.proofs.LossLaws.{some_counted, more_ran, kept_counts, unharmed_counts, none_less}
use Rattle.device_laws.proofs.Lucky.{Lucky, lucky_done, lucky_tell, lucky_then, lucky_weaker, lucky_if, top, failed_in, with_always, where_none_failed}
use Rattle.device_laws.proofs.PoolWalks.{asks_lucky, ended_asks}
use Rattle.device_laws.proofs.TrackMarks as M
use Rattle.device_laws.proofs.TrackMarks.{IsFaithful, marks, is_good, frame_mark}
use Rattle.device_laws.proofs.Unchecked.{lucky_both}
use Rattle.device_laws.proofs.Unlost.{core_of, Fine, Steady, steady_on, steady_tried}
use Rattle.device_laws.proofs.invariants.NoTrackIsLost.{command_goes, background_goes, second_event_goes}
use Rattle.device_laws.proofs.UnlostParts.{hear_goes, marks_well, end_goes}
use Rattle.device_laws.proofs.WholeLosses.{where_quiet, lose_quiet, lose_store_steady, store_framed}

-- A frame that is clean has no patch, where the marks are good

pub clean_bare : (f : Option Bool) (p l o h v : Bool) → l ≡ false → h ≡ false → (is_some f && not (M.is_true f)) ≡ true → is_good (marks f p l o h v) ≡ true →
    p ≡ false
clean_bare f false l o h v e g clean good = refl
clean_bare f true true o h v e g clean good = absurd (cc)
clean_bare f true false o true v e g clean good = absurd (cc)
clean_bare None true false o false v e g clean good = absurd (cc)
clean_bare (Some true) true false o false v e g clean good = absurd (cc)
clean_bare (Some false) true false o false true e g clean good = absurd (cc)
clean_bare (Some false) true false o false false e g clean good = absurd (cc)

half_track : {H : Type 0} (o : Option (HalfWrite H)) (q : ℕ) → option_map (λ (h : HalfWrite H). h.track) o ≡ Some q → (P : ℕ → Type 0) →
    ((h : HalfWrite H) → o ≡ Some h → P h.track) → P q
half_track (Some h) q e P f = subst P (let same : h.track ≡ q = cc in same) (f h refl)
half_track None q e P f = absurd (cc)

module _ {F P H R : Type 0} (c : Contents F P H R) where
  pub clean_is : (f : Option F) → is_clean c f ≡ true → (is_some (frame_mark c f) && not (M.is_true (frame_mark c f))) ≡ true
  clean_is (Some f) e = e
  clean_is None e = absurd (cc)

  pub framed_frames : (s : Store F P H) → IsWell c s → IsFramed s → HasFrames c (plates_of s)
  unfolding M.track_at
  framed_frames s w x = record { framed = x.framed; clean = λ q none clean. by_place q none clean (cases_lt q (tracks_of s)) } where
    long : length s.frames ≡ tracks_of s
    long = cc (w.sizes.are)

    good_at : (q : ℕ) → q < tracks_of s → half_is s.half q ≡ false → is_clean c (frame_at s q) ≡ true → is_some (patch_at s q) ≡ false
    good_at q lt none clean =
        clean_bare (frame_mark c (frame_at s q)) (is_some (patch_at s q)) (is_lost s q) (is_loose s q) (half_is s.half q) (has_level s q)
        (x.kept q) none (clean_is (frame_at s q) clean) (w.good q lt)

    by_place : (q : ℕ) → half_is s.half q ≡ false → is_clean c (frame_at s q) ≡ true → ((q < tracks_of s) ⊎ (tracks_of s ≤ q)) → is_some (patch_at s q) ≡ false
    by_place q none clean (inl lt) = good_at q lt none clean
    by_place q none clean (inr le) =
        let past = get_or_past s.frames q None (let same = long in omega (arith, same, le)) in
        absurd (let both : false ≡ true = sym (ap (λ (f : Option F). is_clean c f) past) ∙ clean in cc)

  pub framed_steady : (s : Store F P H) → IsFramed s → Steady (core_of s)
  framed_steady s x = record {
    kept = x.kept;
    takes = ap (λ (b : Bool). b || takes_b s) x.up;
    half = λ t e up. half_track s.half t e (λ q. stale_at s.a q ≡ false) x.half;
  }

  -- what is kept without a loss
  pub framed_behind : (s z : Store F P H) → Fine (core_of s) (core_of z) → HasFrames c (plates_of z) → IsFramed s → IsFramed z
  framed_behind s z f g x =
      let y = steady_on (core_of s) (core_of z) f (framed_steady s x) in
      record {
        up = f.up ∙ x.up;
        kept = y.kept;
        half = λ h is. y.half h.track (ap (option_map (λ (k : HalfWrite H). k.track)) is) (f.up ∙ x.up);
        framed = g.framed;
      }

-- The loss of the store

abbrev IsFramedIn : {F P H : Type 0} → Plates F P H → Type 0
IsFramedIn x = (q : ℕ) → half_is x.half q ≡ false → is_some (get_or x.patches q None) ≡ true → is_some (get_or x.frames q None) ≡ true

module _ {F P H R : Type 0} (c : Contents F P H R) where
  told_plates : (p : Plates F P H → Type 0) (n : ℕ) (s : Store F P H) → p (plates_of s) → Lucky (λ z (a : Unit {0}). p (plates_of z)) (all_firm_told c n s)
  unfolding L.all_firm_told
  told_plates p zero s f = lucky_done f
  told_plates p (suc n) s f =
      lucky_then (λ z _. firm_told c n z) (told_plates p n s f)
      (λ z _ g. lucky_if (owed_at z n).firm (λ _. lucky_tell (λ _. lucky_done g)) (λ _. lucky_done g))

  end_keeps : (before : ℕ) (s : Store F P H) → IsFramedIn (plates_of s) → Lucky (λ z (a : Unit {0}). IsFramedIn (plates_of z)) (noted_end c before s)
  end_keeps before s f = asks_lucky (ended_asks c (λ z. IsFramedIn (plates_of z)) (λ z t g. g) before s f)

  abbrev UpAndFramed : Store F P H → Type 0
  UpAndFramed s = (s.a.up ≡ true) × IsFramedIn (plates_of s)

  store_goes : (s : Store F P H) → HasFrames c (plates_of s) → s.a.up ≡ true → Lucky (λ z (a : Unit {0}). UpAndFramed z) (losing c s losses.Store)
  store_goes s f up =
      let y = with_loss s losses.Store in
      let z = store_lost c y in
      let w = store_framed c y f in
      lucky_weaker (lucky_both (firm_goes c (tracks_of s) z) (told_plates IsFramedIn (tracks_of s) z w.1)) (λ x _ g. (g.0.up ∙ w.0 ∙ up, g.1))

  module _ (faithful : IsFaithful c) where
    store_event : (d : Device F P H) → HasFrames c (plates_of d.store) → d.store.a.up ≡ true →
        Lucky (λ e (a : Unit {0}). UpAndFramed e.store) (lose c d losses.Store)
    unfolding E.lose
    store_event d f up =
        lucky_then {p = λ (y : Device F P H) (a : Unit {0}). UpAndFramed y.store} (event_ended c d)
        (lucky_then _ (lucky_both (hear_framed c 960 (event_begun d).store f) (hear_goes c 960 (event_begun d).store))
        (λ s _ g. lucky_then _ (store_goes s g.0 (g.1.up ∙ up))
        (λ y _ h. lucky_done h)))
        (λ y a g. lucky_then _ (lucky_both (end_goes c faithful (waiting_count c d.store) y.store) (end_keeps (waiting_count c d.store) y.store g.1))
        (λ z _ h. lucky_done (h.0.up ∙ g.0, h.1)))

    pub lose_store_framed : (d : Device F P H) → HasFrames c (plates_of d.store) → IsFramed d.store →
        Always (lose c d losses.Store) (λ y (a : Unit {0}). IsFramed y.store)
    lose_store_framed d f w =
        where_quiet (lose_quiet c faithful d losses.Store)
        (lucky_weaker (with_always (lose_store_steady c faithful d f (framed_steady c d.store w)) (store_event d f w.up))
        (λ e a g. record {
          up = g.1.0;
          kept = g.0.kept;
          half = λ h is. g.0.half h.track (ap (option_map (λ (k : HalfWrite H). k.track)) is) g.1.0;
          framed = g.1.1;
        }))

-- Events of a run

module _ {F P H R K : Type 0} (c : Contents F P H R) {hears : Hearing Image K} (faithful : IsFaithful c) (d : Device F P H)
    (lt : d.store.counts.failed < top) (un : IsUncached d.store) {e : Device F P H} {u z : Outside R K} where
  event_uncached : {X : Type 0} {a : X} (i : Interaction R Image (Device F P H) X) → Based base_in Any (kept d.store) i →
      (IsFramed d.store → Lucky (λ y (a : X). Fine (core_of d.store) (core_of y.store) × HasFrames c (plates_of y.store)) i) →
      Ran (λ ok. Unit {0}) hears i u e a z → IsUncached e.store
  event_uncached {X} i x goes r n =
      let same = (ran_same x r).losses in
      let none = none_less d.store.counts.failed e.store.counts.failed (more_ran c d i refl x lt r) n.failed in
      let w = un (record {
        sides = ap (λ (l : Losses). l.sides) (sym same) ∙ n.sides;
        failed = none;
        cache = ap (λ (l : Losses). l.cache) (sym same) ∙ n.cache;
      }) in
      let k = always_ran i
      (λ y (a : X). failed_in (base_in y) ≡ failed_in (kept d.store) → Fine (core_of d.store) (core_of y.store) × HasFrames c (plates_of y.store))
      (where_none_failed (λ y (a : X). Fine (core_of d.store) (core_of y.store) × HasFrames c (plates_of y.store)) x lt (goes w)).holds r
      (n.failed ∙ sym none) in
      framed_behind c d.store e.store k.0 k.1 w

  pub command_uncached : {a : Option Stepped} → MarksAreGood c d.store → d.store.half ≡ None →
      ((chain : ChainState) → d.chain ≡ Some chain → IsChainOf d.store.cylinders chain) → Ran (λ ok. Unit {0}) hears (command c d) u e a z →
      IsUncached e.store
  command_uncached good none chains r =
      let well = marks_well c d.store good in
      event_uncached (command c d) (command_based c d)
      (λ w. lucky_both (command_goes c faithful d well)
      (command_frames c faithful d none (framed_frames c d.store well w))) r

  pub background_uncached : {a : Option Did} → MarksAreGood c d.store → d.store.half ≡ None → Ran (λ ok. Unit {0}) hears (background c d) u e a z →
      IsUncached e.store
  background_uncached good none r =
      let well = marks_well c d.store good in
      event_uncached (background c d) (background_based c d)
      (λ w. lucky_both (background_goes c faithful d well) (background_frames c faithful d none (framed_frames c d.store well w))) r

  pub second_uncached : {a : SecondEnd} → MarksAreGood c d.store → Ran (λ ok. Unit {0}) hears (second c d) u e a z → IsUncached e.store
  second_uncached good r =
      let well = marks_well c d.store good in
      event_uncached (second c d) (second_based c d)
      (λ w. lucky_both (second_event_goes c faithful d well (steady_tried d.store (framed_steady c d.store w)))
      (second_event_frames c faithful d (steady_tried d.store (framed_steady c d.store w)) (framed_frames c d.store well w))) r

  pub reset_uncached : (path : ℕ) {a : Unit {0}} → MarksAreGood c d.store → Ran (λ ok. Unit {0}) hears (reset c d path) u e a z → IsUncached e.store
  reset_uncached path good r =
      event_uncached (reset c d path) (based_any (reset_body c d path))
      (λ w. lucky_both (reset_goes c faithful d path) (reset_frames c faithful d path (steady_tried d.store (framed_steady c d.store w))
      (framed_frames c d.store (marks_well c d.store good) w))) r

  -- losses

  pub loss_uncached : (loss : Loss) {a : Unit {0}} → MarksAreGood c d.store → Ran (λ ok. Unit {0}) hears (lose c d loss) u e a z → IsUncached e.store
  loss_uncached losses.Cache good r n =
      absurd (some_counted d.store.counts.losses.cache
      (ap (λ (l : Losses). l.cache) (sym (ran_same (lose_based c d losses.Cache) r).losses) ∙ n.cache))
  loss_uncached losses.Store good r n =
      let x = lose_based c d losses.Store in
      let same = (ran_same x r).losses in
      let none = none_less d.store.counts.failed e.store.counts.failed (more_ran c d (lose c d losses.Store) refl x lt r) n.failed in
      let w = un (record {
        sides = ap (λ (l : Losses). l.sides) (sym same) ∙ n.sides;
        failed = none;
        cache = ap (λ (l : Losses). l.cache) (sym same) ∙ n.cache;
      }) in
      always_ran (lose c d losses.Store) (λ y (a : Unit {0}). IsFramed y.store)
      (lose_store_framed c faithful d (framed_frames c d.store (marks_well c d.store good) w) w).holds r
  loss_uncached (losses.Side side) good r n =
      absurd (some_counted d.store.counts.losses.sides
      (ap (λ (l : Losses). l.sides) (sym (ran_same (lose_based c d (losses.Side side)) r).losses) ∙ n.sides))

  pub power_uncached : {a : Unit {0}} → Ran (λ ok. Unit {0}) hears (power c d) u e a z → IsUncached e.store
  power_uncached r n =
      absurd (some_counted d.store.counts.losses.cache (ap (λ (l : Losses). l.cache) (sym (ran_same (power_based c d) r).losses) ∙ n.cache))

-- Orders

module _ {F P H : Type 0} (d : Device F P H) (un : IsUncached d.store) where
  pub held_uncached : IsUncached (hold_side d).store × IsUncached (resume d).store
  held_uncached = (
    λ n. let w = un (record { sides = n.sides; failed = n.failed; cache = n.cache }) in record { up = w.up; kept = w.kept; half = w.half; framed = w.framed },
    λ n. let w = un (record { sides = n.sides; failed = n.failed; cache = n.cache }) in record { up = w.up; kept = w.kept; half = w.half; framed = w.framed },
  )

  pub joined_uncached : IsUncached (join d).store × IsUncached (split d).store
  joined_uncached = (
    λ n. let w = un (record { sides = n.sides; failed = n.failed; cache = n.cache }) in record { up = w.up; kept = w.kept; half = w.half; framed = w.framed },
    λ n. let w = un (record { sides = n.sides; failed = n.failed; cache = n.cache }) in record { up = w.up; kept = w.kept; half = w.half; framed = w.framed },
  )

  -- a side that isn't up is replaced
  pub replaced_uncached : (side : Side) → (side_of d.store side).up ≡ false → IsUncached (replace d side).store
  replaced_uncached sides.A down n =
      let w = un (record { sides = n.sides; failed = n.failed; cache = n.cache }) in
      absurd (let both : true ≡ false = sym w.up ∙ down in cc)
  replaced_uncached sides.B down n =
      let w = un (record { sides = n.sides; failed = n.failed; cache = n.cache }) in
      record { up = w.up; kept = w.kept; half = w.half; framed = w.framed }

pub started_uncached : {F P H : Type 0} (d : Device F P H) (path : ℕ) → IsUncached d.store → IsUncached (start d path).store
unfolding S.start
started_uncached d path un = un

pub new_uncached : (d : ℕ) (g : Geometry) (n : ℕ) → IsUncached (new_contents d g n)
new_uncached d g n none = record {
  up = refl;
  kept = λ t. empty_places (n * 15) t false;
  half = λ h is. absurd (cc);
  framed = λ q other patched. absurd (let past = empty_places (n * 15) q _ in let both : false ≡ true = sym (ap is_some past) ∙ patched in cc);
}

-- What is excused

sides_none : (a b x y : Bool) → (not a || not b || (not x && not y)) ≡ false → (a ≡ true) × (b ≡ true) × ((x ≡ true) ⊎ (y ≡ true))
sides_none true true true y e = (refl, refl, inl refl)
sides_none true true false true e = (refl, refl, inr refl)
sides_none true true false false e = absurd (cc)
sides_none true false x y e = absurd (cc)
sides_none false b x y e = absurd (cc)

pub excused_tracks : {F P H : Type 0} (s : Store F P H) → IsUnharmed s → IsUncached s → may_lose s.counts ≡ false → count_lost s.lost ≡ 0
excused_tracks s unharmed uncached may = by_which which.2
  where
    which : ((s.counts.losses.sides == 0) ≡ true) × ((s.counts.failed == 0) ≡ true) ×
        (((s.counts.losses.cache == 0) ≡ true) ⊎ ((s.counts.losses.store == 0) ≡ true))
    which = sides_none (s.counts.losses.sides == 0) (s.counts.failed == 0) (s.counts.losses.cache == 0) (s.counts.losses.store == 0) may

    by_which : (((s.counts.losses.cache == 0) ≡ true) ⊎ ((s.counts.losses.store == 0) ≡ true)) → count_lost s.lost ≡ 0
    by_which (inl cache) =
        kept_counts s (uncached (record {
          sides = eqb-true s.counts.losses.sides 0 which.0;
          failed = eqb-true s.counts.failed 0 which.1;
          cache = eqb-true s.counts.losses.cache 0 cache;
        })).kept
    by_which (inr store) =
        unharmed_counts s unharmed (record {
          sides = eqb-true s.counts.losses.sides 0 which.0;
          failed = eqb-true s.counts.failed 0 which.1;
          store = eqb-true s.counts.losses.store 0 store;
        })
