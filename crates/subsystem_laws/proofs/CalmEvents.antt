-- What each event and order makes of a device of a calm run: no track is lost, and no command ends with equipment check but behind a loss of its
-- own program's data of cache fast write.
use Rattle.std.proofs.Common.{
  ◌≡◌,
  ◌<◌,
  ◌≤◌,
  ◌+◌,
  ◌==◌,
  ℕ,
  Bool,
  true,
  false,
  not,
  Option,
  Some,
  None,
  is_some,
  [],
  ◌∷◌,
  option_map,
  refl,
  sym,
  ap,
  subst,
  ◌∙◌,
  arith,
  ◌⊎◌,
  inl,
  inr,
}
use Rattle.std.specs.Prelude.{◌&&◌, ◌||◌}
use Rattle.ckd_chain.specs.State.{ChainState}
use Rattle.ckd_types.specs.declared.paths.Side.{Side}
use Rattle.ckd_types.specs.declared.paths.Side.TheVariants as sides
use Rattle.loss_model.specs.declared.Loss.{Loss}
use Rattle.loss_model.specs.declared.Loss.TheVariants as losses
use Rattle.plain_defs.specs.declared.journal.Item.TheVariants as items
use Rattle.plain_defs.specs.History.{OpenEntry, has_used}
use Rattle.track_image.specs.Image.{Image}
use Rattle.track_table.proofs.Places.{empty_places}
use Rattle.device_outside.specs.Interaction.{Interaction, Done}
use Rattle.device_defs.specs.declared.counts.Counts.{Counts}
use Rattle.device_defs.specs.Command.{has_loss, command}
use Rattle.device_defs.specs.Contents.{by_plain}
use Rattle.device_defs.specs.Cutting as U
use Rattle.device_defs.specs.Cutting.{half_cut, counts_one_by, reset_noted, reset_by, reset, powered_off, power}
use Rattle.device_defs.specs.Device.{all_reset, with_store, event_begun, event_ended}
use Rattle.device_defs.specs.Events as E
use Rattle.device_defs.specs.Events.{second_ended, second_of, second, lose, background}
use Rattle.device_defs.specs.Marks.{MarksDevice, MarksStore}
use Rattle.device_defs.specs.Orders.{join, split, restore, hold_side, resume, replace, lend}
use Rattle.device_defs.specs.Second as D
use Rattle.device_defs.specs.Second.{half_image_of, half_closed, finished, second_done, second_absent, second_by, second_part}
use Rattle.device_defs.specs.Start as S
use Rattle.device_defs.specs.Start.{start}
use Rattle.device_defs.specs.Store.{Origin, OfCommand, OfCut, OfBackground, HalfWrite, tracks_of, has_level, level_at, stale_at, takes_b, side_of}
use Rattle.plain_defs.specs.PlainState.{reset_path}
use Rattle.device_laws.specs.Unharmed.{RunsUnharmed}
use Rattle.device_laws.proofs.Bools.{up_level}
use Rattle.device_laws.proofs.Always.{Always}
use Rattle.device_laws.proofs.Based.{Any, Based, kept}
use Rattle.device_laws.proofs.BasedEvents.{base_in, command_based, second_based, background_based, lose_based, power_based, reset_body}
use Rattle.device_laws.proofs.Based as B
use Rattle.device_laws.proofs.Harmless.{cache_goes, power_goes, reset_goes}
use Rattle.device_laws.proofs.KeptEvents as K
use Rattle.device_laws.proofs.KeptHistories.{count_more}
use Rattle.device_laws.proofs.Lucky.{top, failed_in, Lucky, lucky_weaker, lucky_if, never_falls, where_none_failed}
use Rattle.device_laws.proofs.Once.{Once, once_then, once_quiet, where_one_failed}
use Rattle.device_laws.proofs.OneFailed.{sides_of, OnSideA, steady_b, second_once, still_level}
use Rattle.device_laws.proofs.HeldPlaces.{never}
use Rattle.device_laws.proofs.OneFailedEvents.{hear_same, end_quiet, end_steady, command_comes, background_comes}
use Rattle.device_laws.proofs.QuietParts.{Quiet, quiet_done, quiet_tell, quiet_if, quiet_then, cut_quiet, done_quiet}
use Rattle.device_laws.proofs.TrackMarks.{marks_are_faithful}
use Rattle.device_laws.proofs.Unchecked.{lucky_both}
use Rattle.device_laws.proofs.UncheckedEvents.{equipment_checks, acts_same, command_unchecked_within}
use Rattle.device_laws.proofs.Unlost.{core_of, fine, Steady, steady_on, closed_fine, fine_on, steady_tried}
use Rattle.device_laws.proofs.invariants.NoTrackIsLost.{command_goes, background_goes, second_event_goes}
use Rattle.device_laws.proofs.UnlostParts.{second_done_goes, second_ended_goes}
use Rattle.device_laws.proofs.WholeLosses.{where_quiet, lose_quiet, lose_store_steady, lose_a_steady, lose_b_steady}
use Rattle.subsystem_defs.specs.Calm.{is_whole_device}
use Rattle.subsystem_defs.specs.declared.end.OrderFault.TheVariants.{Unpaired, Half, Down}
use Rattle.subsystem_defs.specs.Refusals as R
use Rattle.subsystem_defs.specs.Refusals.{pair_fault, suspend_fault, fail_fault, replace_fault, unpair_fault}
use Rattle.subsystem_laws.specs.Came.{CameTo}
use Rattle.subsystem_laws.proofs.Came.{at}
use Rattle.subsystem_laws.proofs.CalmDevices.{
  Calm,
  is_unserved,
  unserved,
  served_on,
  itself,
  command_served,
  whole_on_a,
  whole_b,
  whole_side_a,
  whole_both,
  whole_somewhere,
  whole_frames,
}
use Rattle.subsystem_laws.proofs.CheckCauses.{decided, second_checks, loss_unchecked}
use Rattle.subsystem_laws.proofs.GoodMarks.{Good, good_kept, by_lent, home_before, runs_home, half_home, within}
use Rattle.subsystem_laws.proofs.LendBase.{stays_still, lend_lends, lend_based, lent_counts}
use Rattle.subsystem_laws.proofs.NothingChecked.{lend_past}
use Rattle.subsystem_laws.proofs.PastChecks.{reset_counts, power_counts}
use Rattle.subsystem_laws.proofs.SecondChecks.{done_by, end_so, background_unchecked}
use Rattle.subsystem_laws.proofs.TracksKept.{Fair}
use Rattle.subsystem_laws.proofs.Walks.{fail_home}
use Rattle.subsystem_defs.proofs.Unrefused.{first_none, where_none, is_not}
use Rattle.subsystem_laws.proofs.WholeUnpairs.{not_some}

-- of no loss that was ordered: no call failed, or one did of a pair where everything is repaired; of one: everything is repaired, and the volume isn't alone
abbrev pub Losing : Bool → Bool → MarksDevice → MarksDevice → Type 0
Losing false alone x y =
    (y.store.counts.failed ≡ x.store.counts.failed)
    ⊎ ((x.store.paired ≡ true) × (is_whole_device x ≡ true) × (y.store.counts.failed ≡ x.store.counts.failed + 1))
Losing true alone x y = (alone ≡ false) × (is_whole_device x ≡ true)

pub record StillCalm (x y : MarksDevice) : Type 0 where
  pub more : x.store.counts.failed ≤ y.store.counts.failed
  pub calm : Calm x → Calm y

pub record MadeCalm (lossy alone : Bool) (x y : MarksDevice) : Type 0 where
  pub more : Fair x → x.store.counts.failed ≤ y.store.counts.failed
  pub calm : Losing lossy alone x y → Fair x → x.store.counts.failed + 1 < top → Calm x → Calm y

calm_of : (y : MarksDevice) → Good y → (is_some y.store.lent ≡ false → Steady (core_of y.store)) → unserved y.history ≡ 0 → Calm y
calm_of y g steady served = record {
  steady = steady;
  kept = λ q. by_lent y (λ home. (steady home).kept q) (λ away. (g.gone away).store.lost q);
  served = served;
}

below : (n : ℕ) → n + 1 < top → n < top
below n lt = omega (arith, lt)

-- The second part, where the call fails

quiet_finish : (s : MarksStore) (t : ℕ) (i : Image) (bypass : Bool) → Quiet (finished by_plain s t i bypass)
quiet_finish s t i bypass = quiet_then (λ z _. Done z true) (done_quiet by_plain s t i bypass) (λ z _. quiet_done)

quiet_second : (s : MarksStore) (t : ℕ) (i : Image) (origin : Origin) → Quiet (second_by by_plain t i origin s)
quiet_second s t i origin = quiet_if (has_level s t) (by_origin origin) quiet_done where
  by_origin : (origin : Origin) → Quiet (second_done by_plain (half_closed s) t i origin)
  by_origin (OfCommand bypass e) = quiet_tell (λ _. quiet_finish _ t i bypass)
  by_origin (OfCut bypass) = quiet_finish (half_closed s) t i bypass
  by_origin OfBackground = quiet_finish (half_closed s) t i false

part_once : (s : MarksStore) (h : HalfWrite (Unit {0})) → OnSideA (sides_of s) →
    Once (λ z a. Unit {0}) (λ z done. (done ≡ true) × Steady (core_of z)) (second_part by_plain s h)
unfolding D.second_part
part_once s h o =
    let i = half_image_of by_plain s h in
    once_then (λ z _. second_by by_plain h.track i h.origin z) (second_once by_plain s h.track (by_plain.bytes i) o)
    (λ z _ _. once_quiet (quiet_second z h.track i h.origin))
    (λ z _ e. lucky_if (has_level z h.track)
    (λ _. lucky_weaker (lucky_both (done_by (half_closed z) h.track i h.origin) (second_done_goes by_plain marks_are_faithful (half_closed z) h.track i h.origin))
    (λ y a g. (
      g.0,
      steady_on (core_of z) (core_of y) (fine_on (core_of z) (core_of (half_closed z)) (core_of y) (closed_fine z) g.1)
          (steady_b (sides_of s) z o e),
    )))
    (λ none. never (has_level z h.track) (still_level by_plain s z h.track o e) none))

quiet_ended : (d : MarksDevice) (t : ℕ) (origin : Origin) (done : Bool) → Quiet (second_ended by_plain d t origin done)
quiet_ended d t (OfCommand bypass e) done = by_program d.history.running d.chain where
  by_program : (o : Option OpenEntry) (k : Option ChainState) → Quiet (E.command_ended by_plain d t o k done)
  by_program (Some o) (Some chain) = quiet_done
  by_program (Some o) None = quiet_done
  by_program None k = quiet_done
quiet_ended d t (OfCut bypass) done = quiet_done
quiet_ended d t OfBackground done = quiet_done

module _ (n : ℕ) where
  abbrev Comes : {A : Type 0} → Interaction Bool Image MarksDevice A → Type 0
  Comes i = Once (λ e a. Unit {0}) (λ e a. (equipment_checks e.history ≡ n) × Steady (core_of e.store)) i

  half_comes : (d : MarksDevice) (o : Option (HalfWrite (Unit {0}))) → OnSideA (sides_of d.store) → equipment_checks d.history ≡ n →
      Comes (second_of by_plain d o)
  half_comes d (Some h) o f =
      once_then (λ s done. second_ended by_plain (with_store d s) h.track h.origin done) (part_once d.store h o)
      (λ s done _. once_quiet (quiet_ended (with_store d s) h.track h.origin done))
      (λ s done g. lucky_weaker
      (lucky_both (end_so n (with_store d s) h.track h.origin done g.0 (acts_same d.history s.acts ∙ f))
      (second_ended_goes by_plain marks_are_faithful s (with_store d s) h.track h.origin done (fine (core_of s))))
      (λ e a k. (k.0, steady_on (core_of s) (core_of e.store) k.1 g.1)))
  half_comes d None o f = once_quiet quiet_done

  second_comes : (d : MarksDevice) → OnSideA (sides_of d.store) → equipment_checks d.history ≡ n → Comes (second by_plain d)
  unfolding E.second
  second_comes d o f =
      once_then (event_ended by_plain d)
      (once_then (λ s _. second_of by_plain (record (event_begun d) { store = s }) s.half)
      (hear_same by_plain {q = λ z a. ⊥} (sides_of d.store) 960 (event_begun d).store refl)
      (λ s _ e. half_comes (record (event_begun d) { store = s }) s.half (subst OnSideA (sym e) o) f)
      (λ s _ e. absurd e))
      (λ y a _. once_quiet (end_quiet by_plain d y a))
      (λ y a g. end_steady by_plain marks_are_faithful n d y a g.0 g.1)

-- Events that call no volume

power_quiet : (d : MarksDevice) → Quiet (power by_plain d)
unfolding U.power
power_quiet d =
    quiet_then (event_ended by_plain d)
    (quiet_then (λ s _. Done (powered_off by_plain (event_begun d) s) (tt {0})) (cut_quiet by_plain (event_begun d).store (event_begun d).store.half)
    (λ s _. quiet_done))
    (λ y a. end_quiet by_plain d y a)

reset_quiet : (d : MarksDevice) (path : ℕ) → Quiet (reset by_plain d path)
unfolding U.reset
reset_quiet d path = by_program d.history.running where
  by_program : (r : Option OpenEntry) → Quiet (reset_by by_plain d path r)
  by_program (Some o) =
      quiet_if (o.path == path)
      (quiet_then (λ s _. Done (record (reset_noted by_plain d path (counts_one_by d.store.half)) {
        store = s;
        chain = None;
        paths = all_reset (reset_path d.paths path) d.history.waiting;
      }) (tt {0})) (cut_quiet by_plain d.store d.store.half) (λ s _. quiet_done))
      quiet_done
  by_program None = quiet_if (has_used d.history path) quiet_done quiet_done

-- Events

abbrev pub Unordered : MarksDevice → MarksDevice → Type 0
Unordered x y = Losing false false x y

module _ (d : MarksDevice) (f : Fair d) where
  pub rises : {X : Type 0} (b : B.Base) (i : Interaction Bool Image MarksDevice X) → failed_in b ≡ d.store.counts.failed → Based base_in Any b i →
      (t : CameTo i) → d.store.counts.failed ≤ t.state.store.counts.failed
  rises b i same x t =
      subst (λ (n : ℕ). n ≤ t.state.store.counts.failed) same (at (never_falls x (subst (λ (n : ℕ). n ≤ top) (sym same) f.most)) t)

  -- the second part of an open half write is tried
  tried_a : Steady (core_of d.store) → (h : HalfWrite (Unit {0})) → d.store.half ≡ Some h →
      (takes_b d.store ≡ true) ⊎ (level_at d.store.a h.track ≡ true)
  tried_a x h is = by_up d.store.a.up refl where
    level : d.store.a.up ≡ true → level_at d.store.a h.track ≡ true
    level up = up_level d.store.a.up (stale_at d.store.a h.track) up (x.half h.track (ap (option_map (λ (k : HalfWrite (Unit {0})). k.track)) is) up)

    by_up : (b : Bool) → d.store.a.up ≡ b → (takes_b d.store ≡ true) ⊎ (level_at d.store.a h.track ≡ true)
    by_up true up = inr (level up)
    by_up false down = inl (ap (λ (b : Bool). b || takes_b d.store) (sym down) ∙ x.takes)

  module _ (lt : d.store.counts.failed + 1 < top) (x : Calm d) where
    abbrev checks : ℕ
    checks = equipment_checks d.history

    unfailed : {X : Type 0} (i : Interaction Bool Image MarksDevice X) → Based base_in Any (kept d.store) i → (t : CameTo i) →
        t.state.store.counts.failed ≡ d.store.counts.failed → {q : MarksDevice → X → Type 0} → Lucky q i →
        q t.state t.answer
    unfailed i b t same {q} h = at (where_none_failed q b (below d.store.counts.failed lt) h) t same

    failed_once : {X : Type 0} (i : Interaction Bool Image MarksDevice X) → Based base_in Any (kept d.store) i → (t : CameTo i) →
        t.state.store.counts.failed ≡ d.store.counts.failed + 1 → {q : MarksDevice → X → Type 0} → Once (λ e a. Unit {0}) q i →
        q t.state t.answer
    failed_once i b t same {q} h = at (where_one_failed (λ e a. Unit {0}) q b lt h) t same

    -- A command

    module _ (o : OpenEntry) (running : d.history.running ≡ Some o) (whole : d.store.half ≡ None) (t : CameTo (command by_plain d)) where
      abbrev commanded : MarksDevice
      commanded = t.state

      home : is_some d.store.lent ≡ false
      home = runs_home d f.good o running

      command_steady : Unordered d commanded → Steady (core_of commanded.store)
      command_steady (inl same) =
          steady_on (core_of d.store) (core_of commanded.store)
          (unfailed (command by_plain d) (command_based by_plain d) t same
          (command_goes by_plain marks_are_faithful d (f.good.well home))) (x.steady home)
      command_steady (inr one) =
          (failed_once (command by_plain d) (command_based by_plain d) t one.2
          (command_comes by_plain marks_are_faithful checks d (within d f.good) (f.good.well home) whole
          (whole_both d (f.good.well home) (x.steady home) home one.1 one.0 whole) refl)).1

      command_checks : has_loss o.acts ≡ false → Unordered d commanded → equipment_checks commanded.history ≡ checks
      command_checks ok (inl same) =
          unfailed (command by_plain d) (command_based by_plain d) t same
          (command_unchecked_within by_plain checks marks_are_faithful d (within d f.good) (f.good.well home) whole
          ((x.steady home).takes, x.kept) (subst RunsUnharmed (sym running) ok) refl)
      command_checks ok (inr one) =
          (failed_once (command by_plain d) (command_based by_plain d) t one.2
          (command_comes by_plain marks_are_faithful checks d (within d f.good) (f.good.well home) whole
          (whole_both d (f.good.well home) (x.steady home) home one.1 one.0 whole) refl)).0

      pub command_calm : Unordered d commanded → Calm commanded
      command_calm how =
          calm_of commanded (good_kept.commanded d o running whole f.good t) (λ _. command_steady how)
          (decided (has_loss o.acts) (λ gone. at (command_served d o running gone x.served) t)
          (λ ok. served_on d commanded (at (K.command_goes by_plain d.plans d.history d (itself d)) t) (command_checks ok how) x.served))

    -- The second part of a write

    module _ (h : HalfWrite (Unit {0})) (is : d.store.half ≡ Some h) (t : CameTo (second by_plain d)) where
      abbrev seconded : MarksDevice
      seconded = t.state

      here : is_some d.store.lent ≡ false
      here = half_home d f.good h is

      second_both : Unordered d seconded → (equipment_checks seconded.history ≡ checks) × Steady (core_of seconded.store)
      second_both (inl same) = (
        unfailed (second by_plain d) (second_based by_plain d) t same
            (second_checks checks d (f.good.well here) h is (tried_a (x.steady here) h is) refl),
        steady_on (core_of d.store) (core_of seconded.store)
            (unfailed (second by_plain d) (second_based by_plain d) t same
            (second_event_goes by_plain marks_are_faithful d (f.good.well here) (steady_tried d.store (x.steady here)))) (x.steady here),
      )
      second_both (inr one) =
          failed_once (second by_plain d) (second_based by_plain d) t one.2
          (second_comes checks d (whole_side_a d (f.good.well here) (x.steady here) here one.1 one.0) refl)

      pub second_calm : Unordered d seconded → Calm seconded
      second_calm how =
          let both = second_both how in
          calm_of seconded (good_kept.seconded d h is f.good t) (λ _. both.1)
          (served_on d seconded (at (K.second_goes by_plain d.plans d.history d (itself d)) t) both.0 x.served)

    -- By itself

    module _ (whole : d.store.half ≡ None) (t : CameTo (background by_plain d)) where
      abbrev worked : MarksDevice
      worked = t.state

      background_steady : is_some d.store.lent ≡ false → Unordered d worked → Steady (core_of worked.store)
      background_steady was (inl same) =
          steady_on (core_of d.store) (core_of worked.store)
          (unfailed (background by_plain d) (background_based by_plain d) t same (background_goes by_plain marks_are_faithful d (f.good.well was)))
          (x.steady was)
      background_steady was (inr one) =
          failed_once (background by_plain d) (background_based by_plain d) t one.2
          (background_comes by_plain marks_are_faithful d (f.good.well was) (whole_both d (f.good.well was) (x.steady was) was one.1 one.0 whole))

      pub background_calm : Unordered d worked → Calm worked
      background_calm how =
          let b = at (stays_still (background_based by_plain d)) t in
          calm_of worked (good_kept.worked d whole f.good t) (λ home. background_steady (home_before d worked b.2 false home) how)
          (served_on d worked (at (K.background_goes by_plain d.plans d.history d (itself d)) t) (at (background_unchecked checks d refl) t) x.served)

    pub reset_calm : (path : ℕ) (t : CameTo (reset by_plain d path)) → Calm t.state
    reset_calm path t =
        let y = t.state in
        let b = at (stays_still (reset_body by_plain d path)) t in
        calm_of y (good_kept.cut d path f.good t)
        (λ home. let was = home_before d y b.2 false home in
        steady_on (core_of d.store) (core_of y.store) (at (where_quiet (reset_quiet d path) (reset_goes by_plain marks_are_faithful d path)) t) (x.steady was))
        (at (reset_counts is_unserved (λ o k. refl) (λ p. refl) refl 0 d path x.served) t)

    -- Losses

    module _ (whole : is_whole_device d ≡ true) where
      loss_served : (loss : Loss) (t : CameTo (lose by_plain d loss)) → unserved t.state.history ≡ 0
      loss_served loss t =
          served_on d t.state (at (K.lose_goes by_plain d.plans d.history d loss (itself d)) t)
          (at (loss_unchecked d loss) t) x.served

      loss_calm : (loss : Loss) (t : CameTo (lose by_plain d loss)) → Good t.state →
          (is_some d.store.lent ≡ false → Always (lose by_plain d loss) (λ e _. Steady (core_of e.store))) → Calm t.state
      loss_calm loss t good steady =
          let y = t.state in
          let b = at (stays_still (lose_based by_plain d loss)) t in
          calm_of y good (λ home. at (steady (home_before d y b.2 false home)) t) (loss_served loss t)

      cache_steady : is_some d.store.lent ≡ false → Always (lose by_plain d losses.Cache) (λ e _. Steady (core_of e.store))
      cache_steady was =
          where_quiet (lose_quiet by_plain marks_are_faithful d losses.Cache)
          (lucky_weaker (cache_goes by_plain d (whole_on_a d (f.good.well was) (x.steady was) was whole))
          (λ e _ g. steady_on (core_of d.store) (core_of e.store) g (x.steady was)))

      pub cache_calm : (t : CameTo (lose by_plain d losses.Cache)) → Calm t.state
      cache_calm t = loss_calm losses.Cache t (good_kept.lost_cache d f.good t) cache_steady

      pub store_calm : (t : CameTo (lose by_plain d losses.Store)) → Calm t.state
      store_calm t =
          loss_calm losses.Store t (good_kept.lost_store d f.good t)
          (λ was. lose_store_steady by_plain marks_are_faithful d (whole_frames d (f.good.well was) (x.steady was) was whole) (x.steady was))

      side_steady : (side : Side) → d.store.paired ≡ true → is_some d.store.lent ≡ false →
          Always (lose by_plain d (losses.Side side)) (λ e _. Steady (core_of e.store))
      side_steady sides.A paired was =
          lose_a_steady by_plain marks_are_faithful d (whole_b d (f.good.well was) (x.steady was) was whole paired) x.kept
          (whole_somewhere d (f.good.well was) (x.steady was) was whole paired)
      side_steady sides.B paired was =
          lose_b_steady by_plain marks_are_faithful d (whole_side_a d (f.good.well was) (x.steady was) was whole paired)

      pub side_calm : (side : Side) → fail_fault d side ≡ None → d.store.paired ≡ true → (t : CameTo (lose by_plain d (losses.Side side))) →
          Calm t.state
      side_calm side fault paired t = loss_calm (losses.Side side) t (good_kept.lost_side d side (fail_home d side fault) f.good t) (side_steady side paired)

      pub power_calm : (t : CameTo (power by_plain d)) → Calm t.state
      power_calm t =
          let y = t.state in
          let b = at (stays_still (power_based by_plain d)) t in
          calm_of y (good_kept.lost_power d f.good t)
          (λ home. let was = home_before d y b.2 false home in
          at (where_quiet (power_quiet d)
          (lucky_weaker (power_goes by_plain d (whole_on_a d (f.good.well was) (x.steady was) was whole))
          (λ e _ g. steady_on (core_of d.store) (core_of e.store) g (x.steady was)))) t)
          (at (power_counts is_unserved (λ o k. refl) (λ p. refl) refl 0 d x.served) t)

-- Orders

takes_free : (a b h : Bool) → (a || (b && not h)) ≡ true → (a || (b && not false)) ≡ true
takes_free true b h e = refl
takes_free false true h e = refl
takes_free false false h e = e

takes_new : (a b h : Bool) → (a || (b && not h)) ≡ true → (a || (true && not h)) ≡ true
takes_new true b h e = refl
takes_new false true h e = e
takes_new false false h e = absurd (cc)

or_left : (x y : Bool) → x ≡ true → (x || y) ≡ true
or_left x y e = rw e refl

none_some : {X : Type 0} (o : Option ℕ) (t : ℕ) → o ≡ None → o ≡ Some t → X
none_some o t e g = absurd (let both : None ≡ Some t = sym e ∙ g in cc)

track_none : (o : Option (HalfWrite (Unit {0}))) → o ≡ None → option_map (λ (h : HalfWrite (Unit {0})). h.track) o ≡ None
track_none o e = ap (option_map (λ (h : HalfWrite (Unit {0})). h.track)) e

reflexive : (n : ℕ) → n ≤ n
reflexive n = omega arith

module _ (d : MarksDevice) where
  pub start_still : (path : ℕ) → StillCalm d (start d path)
  unfolding S.start
  start_still path = record { more = reflexive d.store.counts.failed; calm = λ x. record { steady = x.steady; kept = x.kept; served = x.served } }

  pub join_still : StillCalm d (join d)
  join_still = record {
    more = reflexive d.store.counts.failed;
    calm = λ x. record {
      steady = λ home. let s = x.steady home in
          record { kept = s.kept; takes = takes_new d.store.a.up d.store.b.up d.store.held s.takes; half = s.half };
      kept = x.kept;
      served = x.served;
    };
  }

  pub split_still : unpair_fault d ≡ None → StillCalm d (split d)
  unfolding R.unpair_fault
  split_still e =
      let a = first_none (R.where_so (not d.store.paired) Unpaired) _ e in
      let b = first_none (R.active_by d.history.running) _ a.1 in
      let c = first_none (R.where_so (is_some d.store.half) Half) _ b.1 in
      let g = first_none (R.where_so (not d.store.a.up) Down) _ c.1 in
      let none = not_some d.store.half (where_none (is_some d.store.half) Half c.0) in
      record {
        more = reflexive d.store.counts.failed;
        calm = λ x. record {
          steady = λ home. record {
            kept = x.kept;
            takes = or_left d.store.a.up _ (is_not d.store.a.up (where_none (not d.store.a.up) Down g.0));
            half = λ t is up. none_some _ t (track_none d.store.half none) is;
          };
          kept = x.kept;
          served = x.served;
        };
      }

  pub restore_still : StillCalm d (restore d)
  restore_still = record {
    more = reflexive d.store.counts.failed;
    calm = λ x. record {
      steady = λ home. record { kept = x.kept; takes = refl; half = λ t is up. empty_places (tracks_of d.store) t false };
      kept = x.kept;
      served = count_more is_unserved d.history.items (items.Fresh ∷ []) (refl, tt) ∙ x.served;
    };
  }

  pub hold_still : suspend_fault d ≡ None → StillCalm d (hold_side d)
  unfolding R.suspend_fault
  hold_still e =
      let a = first_none (R.where_so (not d.store.paired) Unpaired) _ e in
      let b = first_none (R.where_so (is_some d.store.half) Half) _ a.1 in
      let c = first_none (R.where_so (not (d.store.a.up && d.store.b.up)) Down) _ b.1 in
      record {
        more = reflexive d.store.counts.failed;
        calm = λ x. record {
          steady = λ home. let s = x.steady home in record {
            kept = s.kept;
            takes = or_left d.store.a.up _ (up_a d.store.a.up d.store.b.up
                (is_not (d.store.a.up && d.store.b.up) (where_none (not (d.store.a.up && d.store.b.up)) Down c.0)));
            half = s.half;
          };
          kept = x.kept;
          served = x.served;
        };
      }
    where
      up_a : (a b : Bool) → (a && b) ≡ true → a ≡ true
      up_a true b e = refl
      up_a false b e = absurd (cc)

  pub resume_still : StillCalm d (resume d)
  resume_still = record {
    more = reflexive d.store.counts.failed;
    calm = λ x. record {
      steady = λ home. let s = x.steady home in
          record { kept = s.kept; takes = takes_free d.store.a.up d.store.b.up d.store.held s.takes; half = s.half };
      kept = x.kept;
      served = x.served;
    };
  }

  replaced_by : (side : Side) → d.store.half ≡ None → StillCalm d (replace d side)
  replaced_by sides.A none = record {
    more = reflexive d.store.counts.failed;
    calm = λ x. record {
      steady = λ home. record { kept = x.kept; takes = refl; half = λ t is up. none_some _ t (track_none d.store.half none) is };
      kept = x.kept;
      served = x.served;
    };
  }
  replaced_by sides.B none = record {
    more = reflexive d.store.counts.failed;
    calm = λ x. record {
      steady = λ home. let s = x.steady home in
          record { kept = s.kept; takes = takes_new d.store.a.up d.store.b.up d.store.held s.takes; half = s.half };
      kept = x.kept;
      served = x.served;
    };
  }

  pub replace_still : (side : Side) → replace_fault d side ≡ None → StillCalm d (replace d side)
  unfolding R.replace_fault
  replace_still side e =
      let a = first_none (R.lent_by d.store.lent) _ e in
      let b = first_none (R.where_so (not (R.has_side d.store side)) _) _ a.1 in
      let c = first_none (R.where_so (side_of d.store side).up _) _ b.1 in
      let g = first_none (R.where_so (is_some d.store.half) Half) _ c.1 in
      replaced_by side (not_some d.store.half (where_none (is_some d.store.half) Half g.0))

pub lend_still : (x d : MarksDevice) → pair_fault x d ≡ None → Fair x → Fair d → (t : CameTo (lend by_plain d x.store.device)) → StillCalm d t.state
lend_still x d fault e f t =
    let y = t.state in
    let good = good_kept.lent x d fault e.good f.good t in
    let counts = lent_counts d x.store.device in
    let away : is_some y.store.lent ≡ true = ap (λ (o : Option ℕ). is_some o) (lend_lends d x.store.device t).lent in
    record {
      more = rises d f _ (lend by_plain d x.store.device) (ap (λ (c : Counts). c.failed) counts) (lend_based d x.store.device) t;
      calm = λ c. calm_of y good (λ home. never (is_some y.store.lent) away home)
          (ap (λ (h : _). unserved h) (at (lend_past d x.store.device) t) ∙ c.served);
    }
