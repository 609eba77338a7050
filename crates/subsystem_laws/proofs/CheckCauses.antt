-- Where an event adds a check to a device's journal, it has a cause before it, or a call failed in it.
use Rattle.std.proofs.Common.{
  ◌≡◌,
  ◌≢◌,
  ◌<◌,
  ◌≤◌,
  ◌&&◌,
  not,
  zero,
  suc,
  ℕ,
  Bool,
  true,
  false,
  List,
  [],
  ◌∷◌,
  Option,
  Some,
  None,
  get_or,
  refl,
  sym,
  ap,
  subst,
  ◌∙◌,
  arith,
  ◌⊎◌,
  inl,
  inr,
}
use Rattle.std.proofs.lemmas.Bool.{cases_eq, cases_lt}
use Rattle.ckd_types.specs.declared.paths.Side.{Side}
use Rattle.ckd_types.specs.declared.paths.Side.TheVariants as sides
use Rattle.loss_model.specs.declared.Loss.{Loss}
use Rattle.plain_defs.specs.declared.journal.Item.TheVariants as items
use Rattle.plain_defs.specs.History.{OpenEntry}
use Rattle.track_image.specs.Image.{Image}
use Rattle.device_outside.specs.Interaction.{Interaction, Done}
use Rattle.device_defs.specs.Command.{has_loss, command}
use Rattle.device_defs.specs.Contents.{by_plain}
use Rattle.device_defs.specs.Cutting.{reset, power}
use Rattle.device_defs.specs.Device.{with_store, event_begun, event_ended}
use Rattle.device_defs.specs.Events as E
use Rattle.device_defs.specs.Events.{second_ended, second_of, second, lose, background, losing}
use Rattle.device_defs.specs.Marks.{MarksDevice, MarksStore}
use Rattle.device_defs.specs.Orders.{restore, replace, lend}
use Rattle.device_defs.specs.Owed.{hear, waiting_count, noted_end}
use Rattle.device_defs.specs.Peek as Y
use Rattle.device_defs.specs.Peek.{Peeked, peek_track, peek}
use Rattle.device_defs.specs.Start as S
use Rattle.device_defs.specs.Start.{start}
use Rattle.device_defs.specs.Store.{HalfWrite, takes_b, has_level, stale_at, level_at}
use Rattle.device_laws.specs.Unharmed.{RunsUnharmed, some_takes, ends_with_equipment_check}
use Rattle.device_laws.proofs.Always.{Always, always_done, always_then}
use Rattle.device_laws.proofs.Based.{Any, Based, kept}
use Rattle.device_laws.proofs.BasedEvents.{base_in, command_based, second_based}
use Rattle.device_laws.proofs.FailedCall.{IsWell, goes_same}
use Rattle.device_laws.proofs.KeptEvents.{always_any}
use Rattle.device_laws.proofs.KeptHistories.{count_more}
use Rattle.device_laws.proofs.LossEvents.{begun_same}
use Rattle.device_laws.proofs.Lucky.{top, Lucky, lucky_done, lucky_then, with_always, never_falls, where_none_failed}
use Rattle.device_laws.proofs.Notices.{hearing_keeps_good}
use Rattle.device_laws.proofs.TrackMarks.{marks_are_faithful}
use Rattle.device_laws.proofs.Unchecked.{lucky_any}
use Rattle.device_laws.proofs.Unlost.{Fine, core_of, has_a}
use Rattle.device_laws.proofs.UncheckedEvents.{equipment_checks, acts_same, command_unchecked_within}
use Rattle.device_laws.proofs.UnlostParts.{hear_goes}
use Rattle.subsystem_laws.specs.Causes.{call_failed, not_counted, none_takes, half_untried, track_lost, data_gone, checks_of, ChecksForCause}
use Rattle.subsystem_laws.specs.Came.{CameTo}
use Rattle.subsystem_laws.proofs.Came.{at}
use Rattle.subsystem_laws.proofs.GoodMarks.{runs_home, half_home, within}
use Rattle.subsystem_laws.proofs.NothingChecked.{lend_past}
use Rattle.subsystem_laws.proofs.PastChecks.{reset_counts, power_counts}
use Rattle.subsystem_laws.proofs.SecondChecks.{part_done, end_so, background_unchecked}
use Rattle.subsystem_laws.proofs.TracksKept.{Fair}

-- some track is lost, or none is
find_lost : (l : List Bool) → ((t : ℕ) → get_or l t false ≡ false) ⊎ ((t : ℕ) × (get_or l t false ≡ true))
find_lost [] = inl (λ t. refl)
find_lost (true ∷ l) = inr (0, refl)
find_lost (false ∷ l) = behind (find_lost l)
  where
    none : ((t : ℕ) → get_or l t false ≡ false) → (t : ℕ) → get_or (false ∷ l) t false ≡ false
    none h zero = refl
    none h (suc t) = h t

    behind : (((t : ℕ) → get_or l t false ≡ false) ⊎ ((t : ℕ) × (get_or l t false ≡ true))) →
        ((t : ℕ) → get_or (false ∷ l) t false ≡ false) ⊎ ((t : ℕ) × (get_or (false ∷ l) t false ≡ true))
    behind (inl h) = inl (none h)
    behind (inr x) = inr (suc x.0, x.1)

pub decided : {X : Type 0} (b : Bool) → (b ≡ true → X) → (b ≡ false → X) → X
decided true f g = f refl
decided false f g = g refl

-- The other part of a write

module _ (n : ℕ) (d : MarksDevice) (w : IsWell by_plain d.store) (h : HalfWrite (Unit {0})) (is : d.store.half ≡ Some h)
    (tried : (takes_b d.store ≡ true) ⊎ (level_at d.store.a h.track ≡ true)) (f : equipment_checks d.history ≡ n) where
  up_a : (b c : Bool) → (b && not c) ≡ true → (b ≡ true) × (c ≡ false)
  up_a true true e = absurd (cc)
  up_a true false e = (refl, refl)
  up_a false c e = absurd (cc)

  still_tried : (s : MarksStore) → Fine (core_of d.store) (core_of s) → ((takes_b d.store ≡ true) ⊎ (level_at d.store.a h.track ≡ true)) →
      (takes_b s ≡ true) ⊎ (has_level s h.track ≡ true)
  still_tried s g (inl takes) = inl (g.takes ∙ takes)
  still_tried s g (inr level) =
      let a = up_a d.store.a.up (stale_at d.store.a h.track) level in
      inr (has_a s.a.up (stale_at s.a h.track) (level_at s.b h.track) (g.up ∙ a.0) (g.level a.0 h.track a.1))

  half_checks : (s : MarksStore) → Fine (core_of d.store) (core_of s) → (o : Option (HalfWrite (Unit {0}))) → o ≡ Some h →
      Lucky (λ e _. equipment_checks e.history ≡ n) (second_of by_plain (record (event_begun d) { store = s }) o)
  half_checks s g (Some k) e =
      let same : k ≡ h = cc in
      lucky_then (λ z done. second_ended by_plain (with_store (record (event_begun d) { store = s }) z) k.track k.origin done)
      (part_done s k (subst (λ (x : HalfWrite (Unit {0})). (takes_b s ≡ true) ⊎ (has_level s x.track ≡ true)) (sym same) (still_tried s g tried)))
      (λ z done so. end_so n (with_store (record (event_begun d) { store = s }) z) k.track k.origin done so (acts_same d.history z.acts ∙ f))
  half_checks s g None e = absurd (cc)

  pub second_checks : Lucky (λ e _. equipment_checks e.history ≡ n) (second by_plain d)
  unfolding E.second
  second_checks =
      let front = goes_same by_plain d.store (event_begun d).store w (begun_same by_plain marks_are_faithful d w) in
      lucky_then (event_ended by_plain d)
      (lucky_then (λ s _. second_of by_plain (record (event_begun d) { store = s }) s.half)
      (with_always (hearing_keeps_good by_plain 960 (event_begun d).store front.well) (hear_goes by_plain 960 (event_begun d).store))
      (λ s _ g. half_checks s g.1 s.half (g.0.half ∙ is)))
      (λ y a k. lucky_then (λ z _. Done (record y { store = z }) a) (lucky_any (noted_end by_plain (waiting_count by_plain d.store) y.store))
      (λ z _ _. lucky_done k))

-- Events in which calls may fail

module _ (d : MarksDevice) (f : Fair d) where
  abbrev checks : ℕ
  checks = equipment_checks d.history

  -- the number of failed calls stands at the greatest one, or rises, or stays
  pub by_failed : {X C : Type 0} (i : Interaction Bool Image MarksDevice X) → Based base_in Any (kept d.store) i → (t : CameTo i) →
      (d.store.counts.failed ≡ top → C) → (d.store.counts.failed < t.state.store.counts.failed → C) →
      (d.store.counts.failed < top → t.state.store.counts.failed ≡ d.store.counts.failed → C) → C
  by_failed {X} {C} i x t full rose later =
      by_count (at (never_falls x f.most) t) (cases_eq d.store.counts.failed top)
      (cases_lt d.store.counts.failed t.state.store.counts.failed)
    where
      by_count : d.store.counts.failed ≤ t.state.store.counts.failed →
          ((d.store.counts.failed ≡ top) ⊎ (d.store.counts.failed ≢ top)) →
          ((d.store.counts.failed < t.state.store.counts.failed) ⊎ (t.state.store.counts.failed ≤ d.store.counts.failed)) → C
      by_count more (inl is) c = full is
      by_count more (inr ne) (inl rises) = rose rises
      by_count more (inr ne) (inr less) = later (let most = f.most in let apart = ne in omega (arith, most, apart)) (omega (arith, more, less))

  where_failed : {X : Type 0} (i : Interaction Bool Image MarksDevice X) → Based base_in Any (kept d.store) i → (t : CameTo i) →
      (d.store.counts.failed < top → t.state.store.counts.failed ≡ d.store.counts.failed → ChecksForCause d t.state) →
      ChecksForCause d t.state
  where_failed i x t later = by_failed i x t (λ full. inr (not_counted full)) (λ rose. inr (call_failed rose)) later

  pub command_causes : (o : OpenEntry) → d.history.running ≡ Some o → d.store.half ≡ None → (t : CameTo (command by_plain d)) →
      ChecksForCause d t.state
  command_causes o running whole t =
      let x = command_based by_plain d in
      where_failed (command by_plain d) x t (λ lt same.
      decided (some_takes d.store) (λ up. by_lost lt same up (find_lost d.store.lost)) (λ none. inr (none_takes none)))
    where
      by_lost : d.store.counts.failed < top → t.state.store.counts.failed ≡ d.store.counts.failed →
          some_takes d.store ≡ true →
          (((q : ℕ) → get_or d.store.lost q false ≡ false) ⊎ ((q : ℕ) × (get_or d.store.lost q false ≡ true))) →
          ChecksForCause d t.state
      by_lost lt same up (inr y) = inr (track_lost y.0 y.1)
      by_lost lt same up (inl kept_all) =
          decided (has_loss o.acts) (λ gone. inr (data_gone o running gone))
          (λ stays. inl (at (where_none_failed (λ e _. equipment_checks e.history ≡ checks) (command_based by_plain d) lt
          (command_unchecked_within by_plain checks marks_are_faithful d (within d f.good) (f.good.well (runs_home d f.good o running)) whole (up, kept_all)
          (subst RunsUnharmed (sym running) stays) refl)) t same))

  pub second_causes : (h : HalfWrite (Unit {0})) → d.store.half ≡ Some h → (t : CameTo (second by_plain d)) → ChecksForCause d t.state
  second_causes h is t =
      where_failed (second by_plain d) (second_based by_plain d) t (λ lt same.
      decided (takes_b d.store) (λ takes. by_tried lt same (inl takes))
      (λ none. decided (level_at d.store.a h.track) (λ level. by_tried lt same (inr level)) (λ off. inr (half_untried h is off none))))
    where
      by_tried : d.store.counts.failed < top → t.state.store.counts.failed ≡ d.store.counts.failed →
          ((takes_b d.store ≡ true) ⊎ (level_at d.store.a h.track ≡ true)) → ChecksForCause d t.state
      by_tried lt same tried =
          inl (at (where_none_failed (λ e _. equipment_checks e.history ≡ checks) (second_based by_plain d) lt
          (second_checks checks d (f.good.well (half_home d f.good h is)) h is tried refl)) t same)

-- Events that add no check

module _ (d : MarksDevice) where
  pub background_same : (t : CameTo (background by_plain d)) → checks_of t.state ≡ checks_of d
  background_same t = at (background_unchecked (equipment_checks d.history) d refl) t

  pub reset_same : (path : ℕ) (t : CameTo (reset by_plain d path)) → checks_of t.state ≡ checks_of d
  reset_same path t = at (reset_counts ends_with_equipment_check (λ o k. refl) (λ p. refl) refl (equipment_checks d.history) d path refl) t

  pub power_same : (t : CameTo (power by_plain d)) → checks_of t.state ≡ checks_of d
  power_same t = at (power_counts ends_with_equipment_check (λ o k. refl) (λ p. refl) refl (equipment_checks d.history) d refl) t

  pub loss_unchecked : (loss : Loss) → Always (lose by_plain d loss) (λ e _. equipment_checks e.history ≡ equipment_checks d.history)
  unfolding E.lose
  loss_unchecked loss =
      always_then {p = λ (y : MarksDevice) _. equipment_checks y.history ≡ equipment_checks d.history}
      (always_then (always_any (hear by_plain 960 (event_begun d).store))
      (λ s _ _. always_then (always_any (losing by_plain s loss)) (λ z _ _. always_done (acts_same d.history z.acts))))
      (λ y a g. always_then (always_any (noted_end by_plain (waiting_count by_plain d.store) y.store)) (λ z _ _. always_done g))

  pub loss_same : (loss : Loss) (t : CameTo (lose by_plain d loss)) → checks_of t.state ≡ checks_of d
  loss_same loss t = at (loss_unchecked loss) t

  peek_unchecked : (n : ℕ) → Always (peek by_plain d n) (λ e _. equipment_checks e.history ≡ equipment_checks d.history)
  unfolding Y.peek
  peek_unchecked n =
      always_then {p = λ (y : MarksDevice) _. equipment_checks y.history ≡ equipment_checks d.history}
      (always_then (always_any (peek_track by_plain (event_begun d).store n)) (λ z (found : Option Peeked) _. always_done (acts_same d.history z.acts)))
      (λ y a g. always_then (always_any (noted_end by_plain (waiting_count by_plain d.store) y.store)) (λ z _ _. always_done g))

  pub peek_same : (n : ℕ) (t : CameTo (peek by_plain d n)) → checks_of t.state ≡ checks_of d
  peek_same n t = at (peek_unchecked n) t

  pub lend_same : (to : ℕ) (t : CameTo (lend by_plain d to)) → checks_of t.state ≡ checks_of d
  lend_same to t = ap equipment_checks (at (lend_past d to) t)

  pub start_same : (path : ℕ) → checks_of (start d path) ≡ checks_of d
  unfolding S.start
  start_same path = refl

  pub replace_same : (side : Side) → checks_of (replace d side) ≡ checks_of d
  replace_same sides.A = refl
  replace_same sides.B = refl

  pub restore_same : checks_of (restore d) ≡ checks_of d
  restore_same = count_more ends_with_equipment_check d.history.items (items.Fresh ∷ []) (refl, tt)
