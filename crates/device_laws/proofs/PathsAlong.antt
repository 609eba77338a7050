-- A device keeps of its paths what the plain device does: behind a start, a check, an end, a reset and a loss of power.
use Rattle.std.proofs.Common.{◌≡◌, ◌==◌, ◌++◌, ◌∷◌, ℕ, [], Option, Some, None, Bool, true, false, cond, refl, sym, ap, ◌∙◌, inl, inr}
use Rattle.std.specs.Prelude.{◌⊎◌, ◌||◌, if◌then◌else◌}
use Rattle.std.proofs.lemmas.Bool.{cases_Bool, cond_both, eqb-true}
use Rattle.ckd_types.specs.declared.channel.CommandEnd.{CommandEnd}
use Rattle.ckd_chain.specs.declared.progress.Settled.TheVariants.{Equipment, DataCheck}
use Rattle.ckd_chain.specs.State.{ChainState}
use Rattle.ckd_chain.specs.Steps.{end_with, settled_by}
use Rattle.plain_defs.specs.declared.journal.Item.TheVariants as items
use Rattle.plain_defs.specs.History.{
  OpenEntry,
  checked,
  open_part,
  plain_of,
  state_by,
  is_path_of,
  has_used,
  put,
  cut_by,
  reset_in_history as history_reset,
  reset_in,
  lost_power,
  lost_power_in,
}
use Rattle.plain_defs.specs.Journal.{program_of, replay}
use Rattle.plain_defs.specs.Legal.{IsCheck, is_started, is_used}
use Rattle.plain_defs.specs.PlainState.{PathsState, PlainState, fresh_paths, with_sense, reset_path}
use Rattle.plain_defs.specs.Program.{Part, first_part, sense_begun}
use Rattle.plain_defs.proofs.PartLemmas.{acted_nothing}
use Rattle.device_outside.specs.Interaction.{Done}
use Rattle.device_defs.specs.Contents.{Contents}
use Rattle.device_defs.specs.Cutting as K
use Rattle.device_defs.specs.Cutting.{counts_one_by, half_cut, reset_noted, path_cut, reset_by}
use Rattle.device_defs.specs.Device.{Device, all_reset, event_begun}
use Rattle.device_defs.specs.Orders.{restore}
use Rattle.device_defs.specs.Outcomes.{checks, turned}
use Rattle.device_defs.specs.Owed.{waiting_count, noted_end}
use Rattle.device_defs.specs.Start as S
use Rattle.device_defs.specs.Start.{start, next_program, next_ordinal}
use Rattle.device_laws.proofs.Always.{Always, always_done, always_then}
use Rattle.device_laws.proofs.DeviceCuts.{StandsPlainly, always_any}
use Rattle.device_laws.proofs.DeviceHistory.{IsAtHand, next_is, equipment_is_check, data_check_is_check}
use Rattle.device_laws.proofs.DevicePaths.{KeepsPaths, unstarted_is_fresh}
use Rattle.device_laws.proofs.HistoryCuts.{MayTake, taken_state, cut_state, waiting_state, emptied_state, idle_reset_state, power_cut_state, idle_power_state}
use Rattle.device_laws.proofs.HistoryEnds.{running_is_open, checked_state}
use Rattle.device_laws.proofs.OpenProgram.{part_is_acted}

module _ {F P H : Type 0} (empty : PlainState) (d : Device F P H) (keeps : KeepsPaths empty d) where
  running_paths : (o : OpenEntry) → d.history.running ≡ Some o
      → d.paths ≡ (open_part d.plans (replay d.plans empty d.history.items) o).state.paths
  running_paths o running =
      keeps ∙ ap (λ (r : Option OpenEntry). (state_by d.plans (replay d.plans empty d.history.items) r).paths) running

  pub idle_paths : d.history.running ≡ None → d.paths ≡ (replay d.plans empty d.history.items).paths
  idle_paths stands = keeps ∙ ap (λ (r : Option OpenEntry). (state_by d.plans (replay d.plans empty d.history.items) r).paths) stands

  -- behind a start
  pub start_keeps : (path : ℕ) → d.history.running ≡ None → KeepsPaths empty (start d path)
  unfolding S.start
  start_keeps path stands =
      let ccws = program_of d.plans path (next_ordinal d path) in
      let s = replay d.plans empty d.history.items in
      ap (λ (x : PathsState). sense_begun x path (next_program d path)) (idle_paths stands)
      ∙ sym (ap (λ (p : Part). p.state.paths) (part_is_acted path ccws s [] 0 ∙ acted_nothing [] (first_part s path ccws) refl))

  -- behind an order that gives it an empty volume
  pub restore_keeps : StandsPlainly empty d → d.history.running ≡ None → KeepsPaths empty (restore d)
  restore_keeps stands none = idle_paths none ∙ sym (ap (λ (x : PlainState). x.paths) (emptied_state d.plans empty d.history stands.plain none))

  module _ (stands : StandsPlainly empty d) (o : OpenEntry) (running : d.history.running ≡ Some o) (chain : ChainState)
      (at_hand : IsAtHand d.plans (replay d.plans empty d.history.items) o chain) where
    -- behind a check
    check_keeps : (e : CommandEnd) → (open_part d.plans (replay d.plans empty d.history.items) o).next ≡ Some e.index
        → IsCheck (program_of d.plans o.path o.ordinal) e → all_reset (with_sense d.paths o.path e.sense) d.history.waiting
        ≡ (plain_of d.plans empty (checked d.history e)).paths
    check_keeps e next check =
        ap (λ (x : PathsState). all_reset (with_sense x o.path e.sense) d.history.waiting) (running_paths o running)
        ∙ sym (ap (λ (x : PlainState). x.paths) (checked_state d.plans empty d.history stands.plain.legal stands.due o running
        (running_is_open d.plans empty d.history stands.plain stands.due o running) e next check))

    pub equipment_keeps : KeepsPaths empty (turned d o.path (checks chain Equipment))
    equipment_keeps = check_keeps (end_with chain (settled_by chain Equipment))
        (next_is empty d stands.plain stands.due o running chain at_hand o.path) (rw (← at_hand.words) (equipment_is_check chain))

    pub data_check_keeps : KeepsPaths empty (turned d o.path (checks chain DataCheck))
    data_check_keeps = check_keeps (end_with chain (settled_by chain DataCheck))
        (next_is empty d stands.plain stands.due o running chain at_hand o.path) (rw (← at_hand.words) (data_check_is_check chain))

module _ {F P H R : Type 0} (c : Contents F P H R) (empty : PlainState) (d : Device F P H) (stands : StandsPlainly empty d)
    (fresh : empty.paths ≡ fresh_paths) where
  -- without power no path keeps anything
  powerless_paths : (r : Option OpenEntry) → d.history.running ≡ r
      → ((o : OpenEntry) → d.history.running ≡ Some o
      → MayTake d.plans (replay d.plans empty d.history.items) o (counts_one_by d.store.half))
      → (plain_of d.plans empty (lost_power d.history (counts_one_by d.store.half))).paths ≡ fresh_paths
  powerless_paths (Some o) running may = ap (λ (x : PlainState). x.paths)
      (power_cut_state d.plans empty d.history stands.plain o running (counts_one_by d.store.half) (may o running))
  powerless_paths None none may = by_start (cases_Bool (is_started false d.history.items)) where
    by_start : (is_started false d.history.items ≡ true) ⊎ (is_started false d.history.items ≡ false)
        → (plain_of d.plans empty (lost_power d.history (counts_one_by d.store.half))).paths ≡ fresh_paths
    by_start (inl began) = ap (λ (x : PlainState). x.paths)
        (idle_power_state d.plans empty d.history stands.plain none (counts_one_by d.store.half) began)
    by_start (inr not_yet) =
        ap (λ (r : Option OpenEntry). (plain_of d.plans empty (lost_power_in d.history (counts_one_by d.store.half) r)).paths) none
        ∙ ap (λ (b : Bool). (plain_of d.plans empty
        (cond b (record { items = d.history.items ++ items.Power ∷ []; running = None; waiting = [] }) d.history)).paths) not_yet
        ∙ ap (λ (r : Option OpenEntry). (state_by d.plans (replay d.plans empty d.history.items) r).paths) none
        ∙ unstarted_is_fresh d.plans empty d.history.items fresh stands.plain.legal not_yet

  -- behind a loss of power
  pub power_keeps_paths : ((o : OpenEntry) → d.history.running ≡ Some o
      → MayTake d.plans (replay d.plans empty d.history.items) o (counts_one_by d.store.half))
      → Always (K.power c d) (λ y _. KeepsPaths empty y)
  unfolding K.power
  power_keeps_paths may =
      always_then {p = λ y _. KeepsPaths empty y}
      (always_then (always_any (half_cut c (event_begun d).store (event_begun d).store.half))
      (λ s _ _. always_done (sym (powerless_paths d.history.running refl may))))
      (λ y a g. always_then (always_any (noted_end c (waiting_count c d.store) y.store)) (λ z _ _. always_done g))

-- Behind a reset

module _ {F P H R : Type 0} (c : Contents F P H R) (empty : PlainState) (d : Device F P H) (stands : StandsPlainly empty d)
    (keeps : KeepsPaths empty d) (path : ℕ)
    (may : (o : OpenEntry) → d.history.running ≡ Some o
    → MayTake d.plans (replay d.plans empty d.history.items) o (counts_one_by d.store.half))
    (taken : (o : OpenEntry) → d.history.running ≡ Some o
    → reset_path (taken_state d.plans (replay d.plans empty d.history.items) o (counts_one_by d.store.half)).paths o.path
    ≡ reset_path (open_part d.plans (replay d.plans empty d.history.items) o).state.paths o.path) where
  cut_paths : (o : OpenEntry) → d.history.running ≡ Some o → (o.path == path) ≡ true
      → all_reset (reset_path d.paths path) d.history.waiting
      ≡ (plain_of d.plans empty (history_reset d.history path (counts_one_by d.store.half))).paths
  cut_paths o running own =
      let n = counts_one_by d.store.half in
      ap (λ (x : ℕ). all_reset (reset_path d.paths x) d.history.waiting) (sym (eqb-true o.path path own))
      ∙ ap (λ (x : PathsState). all_reset (reset_path x o.path) d.history.waiting) (running_paths empty d keeps o running)
      ∙ ap (λ (x : PathsState). all_reset x d.history.waiting) (sym (taken o running))
      ∙ sym (
      ap (λ (r : Option OpenEntry). (plain_of d.plans empty (reset_in d.history path n r)).paths) running
      ∙ ap (λ (b : Bool). (plain_of d.plans empty (cond b (cut_by d.history o n)
      (if is_used path false d.history.items then record d.history { waiting = put path d.history.waiting } else d.history))).paths) own
      ∙ ap (λ (x : PlainState). x.paths) (cut_state d.plans empty d.history stands.plain o running n (may o running))
      )

  reset_by_running : (r : Option OpenEntry) → d.history.running ≡ r → Always (reset_by c d path r) (λ y _. KeepsPaths empty y)
  reset_by_running (Some o) running =
      cond_both (o.path == path) (path_cut c d path) (Done (reset_noted c d path 0) tt) (λ i. Always i (λ y _. KeepsPaths empty y))
      (λ own. always_then (always_any (half_cut c d.store d.store.half)) (λ s _ _. always_done (cut_paths o running own)))
      (λ other. always_done (keeps
      ∙ sym (ap (λ (x : PlainState). x.paths) (waiting_state d.plans empty d.history stands.plain o running path 0 other))))
  reset_by_running None none =
      cond_both (has_used d.history path) (Done (record (reset_noted c d path 0) { paths = reset_path d.paths path }) tt) (Done d tt)
      (λ i. Always i (λ y _. KeepsPaths empty y))
      (λ used. always_done (ap (λ (x : PathsState). reset_path x path) (idle_paths empty d keeps none)
      ∙ sym (ap (λ (x : PlainState). x.paths) (idle_reset_state d.plans empty d.history stands.plain none path 0
      (sym (ap (λ (r : Option OpenEntry). is_path_of r path || is_used path false d.history.items) none) ∙ used)))))
      (λ unused. always_done keeps)

  pub reset_keeps_paths : Always (K.reset c d path) (λ y _. KeepsPaths empty y)
  unfolding K.reset
  reset_keeps_paths = reset_by_running d.history.running refl
