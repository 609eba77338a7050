-- What an event does to a device of which a part of its past was put away follows from what it does to the whole device.
use Rattle.std.proofs.Common.{◌≡◌, ◌≤◌, ◌<◌, ◌-◌, ℕ, Bool, inl, inr, List, [], ◌∷◌, ◌++◌, get_or, Option, Some, None, length, refl, sym, ap, subst, ◌∙◌, arith}
use Rattle.std.specs.Prelude.{option_map}
use Rattle.std.proofs.lemmas.Bool.{cases_eq, cases_lt}
use Rattle.std.proofs.lemmas.List.{get_or-set_other, get_or-set_same, length-append}
use Rattle.ckd_types.specs.declared.channel.Ccw.{Ccw}
use Rattle.ckd_types.specs.declared.paths.Side.{Side}
use Rattle.deck_plan.specs.Plans.{with_program}
use Rattle.plain_defs.specs.History.{OpenEntry, no_history}
use Rattle.plain_defs.specs.Journal.{Plans, planned}
use Rattle.plain_defs.specs.Legal.{IsLegal}
use Rattle.plain_defs.specs.PlainState.{PlainState}
use Rattle.plain_defs.specs.Whole.{GiveBytes, GivesAll}
use Rattle.track_image.specs.Image.{Image}
use Rattle.device_outside.specs.Interaction.{Interaction}
use Rattle.device_outside.specs.Keeper.{Hearing}
use Rattle.device_outside.specs.Outside.{Outside, Ran}
use Rattle.device_defs.specs.Contents.{contents}
use Rattle.device_defs.specs.Orders.{restore}
use Rattle.device_defs.specs.Sound.{DeviceStore}
use Rattle.device_defs.specs.Start.{start, start_fault}
use Rattle.device_laws.specs.Whole.{WholeDevice}
use Rattle.past_laws.specs.Forgotten.{forgotten, put_away}
use Rattle.past_laws.specs.PutAway.{IsPutAway, PutAway, nothing_away, whole_entry, whole_items, whole_plans}
use Rattle.past_laws.specs.WithPast.{with_past}
use Rattle.past_laws.proofs.Events.{Same}
use Rattle.past_laws.proofs.Forgetting.{forgotten_away, forgotten_whole}
use Rattle.past_laws.proofs.Planning.{planning_none, planning_whole}
use Rattle.past_laws.proofs.Plans.{planned_whole}
use Rattle.past_laws.proofs.Starts.{fault_same, restore_away, restore_whole, start_away, start_whole}
use Rattle.subsystem_defs.specs.Refusals.{active_by, replace_fault, suspend_fault, unpair_fault}
use Rattle.subsystem_laws.specs.Planning.{with_planned}
use Rattle.device_core.specs.WholePast.{SoWithPast}

-- ---- refusals

pub suspend_same : (w : PutAway) (d : WholeDevice) → suspend_fault (with_past w d) ≡ suspend_fault d
unfolding suspend_fault
suspend_same w d = refl

pub replace_same : (w : PutAway) (d : WholeDevice) (side : Side) → replace_fault (with_past w d) side ≡ replace_fault d side
unfolding replace_fault
replace_same w d side = refl

active_same : (w : PutAway) (o : Option OpenEntry) → active_by (option_map (whole_entry w) o) ≡ active_by o
active_same w (Some o) = refl
active_same w None = refl

pub unpair_same : (w : PutAway) (d : WholeDevice) → unpair_fault (with_past w d) ≡ unpair_fault d
unfolding unpair_fault
unpair_same w d = rw (active_same w d.history.running) refl

pub runs_whole : (w : PutAway) (d : WholeDevice) {o : OpenEntry} → d.history.running ≡ Some o → (with_past w d).history.running ≡ Some (whole_entry w o)
runs_whole w d is = ap (option_map (whole_entry w)) is

pub idle_whole : (w : PutAway) (d : WholeDevice) → d.history.running ≡ None → (with_past w d).history.running ≡ None
idle_whole w d is = ap (option_map (whole_entry w)) is

-- ---- events

module _ {K : Type 0} {So : WholeDevice → Outside (List ℕ) K → Type 0} {past : PutAway} {d : WholeDevice} {u : Outside (List ℕ) K} (s : SoWithPast So past d u) where
  -- what a run comes to
  module _ {A : Type 0} {had : Bool → Type 0} {hears : Hearing Image K} {i j : Interaction (List ℕ) Image WholeDevice A} {e : WholeDevice} {a : A}
      {z : Outside (List ℕ) K} (same : Same contents had hears past i j) (run : Ran had hears i u e a z) where
    pub whole_by : (Then : WholeDevice → Type 0) → ((x : WholeDevice) → Ran had hears j u x a z → Then x) → Then (with_past past e)
    whole_by Then f = let g = same u z e a run in subst Then g.is.0 (f g.state g.ran)

    pub run_on : {Then : WholeDevice → Outside (List ℕ) K → Type 0} → ((x : WholeDevice) → Ran had hears j u x a z → Then x z) → SoWithPast Then past e z
    run_on {Then = Then} f = record { away = (same u z e a run).is.1; is = whole_by (λ x. Then x z) f }

  -- over another outside, or where more is so
  pub then_on : {L : Type 0} {Then : WholeDevice → Outside (List ℕ) L → Type 0} {w : Outside (List ℕ) L} → (So (with_past past d) u → Then (with_past past d) w) →
      SoWithPast Then past d w
  then_on f = record { away = s.away; is = f s.is }

  -- nothing but its store changes
  pub store_on : {L : Type 0} {Then : WholeDevice → Outside (List ℕ) L → Type 0} {w : Outside (List ℕ) L} (x : DeviceStore) →
      (So (with_past past d) u → Then (record (with_past past d) { store = x }) w) → SoWithPast Then past (record d { store = x }) w
  store_on x f = record { away = s.away; is = f s.is }

  pub start_on : (path : ℕ) → 1 ≤ path → path ≤ 4 → start_fault d path ≡ None →
      (So (with_past past d) u → start_fault (with_past past d) path ≡ None → So (start (with_past past d) path) u) → SoWithPast So past (start d path) u
  start_on path least most fault f = record {
    away = start_away past d s.away path;
    is =
        subst (λ (x : WholeDevice). So x u) (sym (start_whole past d s.away path least most))
        (f s.is (fault_same past d s.away path least most ∙ fault));
  }

  -- an empty volume comes
  pub restore_on : {L : Type 0} {Then : WholeDevice → Outside (List ℕ) L → Type 0} {w : Outside (List ℕ) L} → (So (with_past past d) u → Then (restore (with_past past d)) w) →
      SoWithPast Then past (restore d) w
  restore_on {Then = Then} {w = w} f = record {
    away = restore_away past d s.away;
    is = subst (λ (x : WholeDevice). Then x w) (sym (restore_whole past d s.away)) (f s.is);
  }

  -- a program more is planned
  module _ (path : ℕ) (least : 1 ≤ path) (most : path ≤ 4) (program : List Ccw) where
    longer : path - 1 < length d.plans → (q : ℕ) → length (planned d.plans q) ≤ length (planned (with_program d.plans path program) q)
    longer there q = elim (cases_eq (q - 1) (path - 1)) [
      | inl same ↦ (
          let here = get_or-set_same d.plans (path - 1) (planned d.plans path ++ program ∷ []) [] there in
          let at : planned (with_program d.plans path program) q ≡ planned d.plans path ++ program ∷ [] =
          ap (λ (n : ℕ). get_or (with_program d.plans path program) n []) same ∙ here in
          let was : planned d.plans q ≡ planned d.plans path = ap (λ (n : ℕ). get_or d.plans n []) same in
          omega (arith, ap length at, ap length was, length-append (planned d.plans path) (program ∷ []))
          )
      | inr other ↦ (
          let same = get_or-set_other d.plans (path - 1) (q - 1) (planned d.plans path ++ program ∷ []) [] other in omega (arith, ap length same)
          )
    ]

    pub planned_on : (So (with_past past d) u → So (with_planned (with_past past d) path program) u) → SoWithPast So past (with_planned d path program) u
    planned_on f = elim (cases_lt (path - 1) (length d.plans)) [
      | inl there ↦ record {
        away = record {
          later = s.away.later;
          items = s.away.items;
          paths = s.away.paths;
          started = s.away.started;
          few = λ q one four. omega (arith, s.away.few q one four, longer there q);
        };
        is =
            subst (λ (plans : Plans). So (record (with_past past d) { plans = plans }) u)
            (sym (planning_whole past program d.plans d.history s.away path least most there)) (f s.is);
      }
      | inr past_end ↦ subst (λ (plans : Plans). SoWithPast So past (record d { plans = plans }) u) (sym (planning_none past program d.plans path past_end)) s
    ]

  -- it forgets
  pub forget_on : (state : PlainState) → d.history.running ≡ None → IsLegal (whole_plans past d.plans) state (whole_items past d.history.items) →
      SoWithPast So (put_away past d) (forgotten d) u
  forget_on state idle legal = record {
    away = forgotten_away past d s.away idle state legal;
    is = subst (λ (x : WholeDevice). So x u) (sym (forgotten_whole past d s.away idle state legal)) s.is;
  }

-- ---- a new device

pub none_gives : (plans : Plans) → GiveBytes plans → GiveBytes (whole_plans nothing_away plans)
none_gives plans gives path ordinal least most =
    subst (λ (programs : List (List Ccw)). GivesAll (get_or programs (ordinal - 1) [])) (sym (planned_whole nothing_away plans path least most)) (gives path ordinal least most)

pub nothing_put_away : (plans : Plans) → IsPutAway nothing_away plans no_history
nothing_put_away plans = record {
  later = [];
  items = refl;
  paths = λ path least most. record { used = refl; away = refl; kept = refl; some = λ e. refl };
  started = refl;
  few = λ path least most. omega arith;
}
