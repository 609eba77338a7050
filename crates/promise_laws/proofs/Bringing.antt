-- What each event of a run's device brings into its journal.
use Rattle.std.proofs.Common.{◌≡◌, ◌==◌, ◌&&◌, ℕ, Bool, true, false, List, [], ◌∷◌, Option, Some, None, is_some, refl, sym, ap, subst, ◌∙◌}
use Rattle.std.specs.Prelude.{if◌then◌else◌}
use Rattle.std.proofs.lemmas.Bool.{eq-eqb}
use Rattle.ckd_types.specs.declared.paths.Side.{Side}
use Rattle.ckd_types.specs.declared.record.Track.{Track}
use Rattle.loss_model.specs.declared.Loss.TheVariants as losses
use Rattle.plain_defs.specs.declared.journal.Act.{Act}
use Rattle.plain_defs.specs.declared.journal.Act.TheVariants.{CfwLost}
use Rattle.plain_defs.specs.History.{OpenEntry, History}
use Rattle.device_defs.specs.Command.{command}
use Rattle.device_defs.specs.Contents.{by_plain}
use Rattle.device_defs.specs.Cutting.{reset, power}
use Rattle.device_defs.specs.Events.{second, background, lose}
use Rattle.device_defs.specs.Device.{all_acted}
use Rattle.device_defs.specs.Marks.{MarksDevice}
use Rattle.device_defs.specs.Start as S
use Rattle.device_defs.specs.Start.{start}
use Rattle.device_defs.specs.Store.{HalfWrite, has_loose}
use Rattle.subsystem_defs.specs.declared.end.EventEnd.{EventEnd}
use Rattle.subsystem_defs.specs.declared.event.Event.{Event}
use Rattle.subsystem_defs.specs.declared.event.Event.TheVariants as events
use Rattle.subsystem_defs.specs.Lines.{Asked}
use Rattle.subsystem_laws.specs.Came.{CameTo}
use Rattle.subsystem_laws.proofs.Came.{at, came_had}
use Rattle.subsystem_laws.proofs.GoodMarks.{by_lent}
use Rattle.subsystem_laws.proofs.PlainRuns.{PlainlyOn}
use Rattle.subsystem_laws.proofs.TracksKept.{Fair}
use Rattle.promise_laws.specs.Origins.{
  IsBy,
  are_firmed,
  are_noted,
  may_act,
  may_end,
  Brings,
  nothing,
  acts_alone,
  start_of_program,
  end_of_command,
  check_of_command,
  reset_of_path,
  loss_of_power,
}
use Rattle.promise_laws.proofs.ActsNoted.{ArePatchedFirm, well_patches}
use Rattle.promise_laws.proofs.FirmActs.{both, firmed_noted}
use Rattle.promise_laws.proofs.HistoriesMade.{
  Made,
  only_acted,
  then_ended,
  then_checked,
  ActedWith,
  MadeWith,
  command_made,
  second_made,
  background_made,
  cache_made,
  store_made,
  side_made,
  reset_made,
  power_made,
}

module _ (asked : Asked) (end : EventEnd) (d : MarksDevice) where
  abbrev pub Bring : MarksDevice → Type 0
  Bring y = Brings asked end d y.history

  pub same_brings : (k : History) → k ≡ d.history → Brings asked end d k
  same_brings k is = subst (Brings asked end d) (sym is) nothing

  module _ (e : Event) (by : IsBy asked end e) where
    acts_bring : (q : List Act → Type 0) → ((acts : List Act) → q acts → may_act e d acts ≡ true) → (k : History) → ActedWith q d.history k →
        Brings asked end d k
    acts_bring q may k f = subst (Brings asked end d) (sym f.is) (acts_alone e by f.acts (may f.acts f.are))

    made_brings : (acts : List Act) → may_act e d acts ≡ true → may_end e d ≡ true → (k : History) → Made d.history acts k → Brings asked end d k
    made_brings acts may ends _ only_acted = acts_alone e by acts may
    made_brings acts may ends _ (then_ended c) = end_of_command e by ends acts may c
    made_brings acts may ends _ (then_checked c) = check_of_command e by ends acts may c

    all_made : (q : List Act → Type 0) → ((acts : List Act) → q acts → may_act e d acts ≡ true) → may_end e d ≡ true → (k : History) →
        MadeWith q d.history k → Brings asked end d k
    all_made q may ends k f = made_brings f.acts (may f.acts f.are) ends k f.made

  module _ (n : ℕ) (number : d.store.device ≡ n) where
    own_number : (d.store.device == n) ≡ true
    own_number = eq-eqb d.store.device n number

    pub start_brings : (path : ℕ) → IsBy asked end (events.Start path n) → Bring (start d path)
    unfolding S.start
    start_brings path by = start_of_program path (subst (λ (k : ℕ). IsBy asked end (events.Start path k)) (sym number) by)

    pub command_brings : {first : ℕ → List Track} → PlainlyOn first d → (o : OpenEntry) → d.history.running ≡ Some o → d.store.half ≡ None → IsBy asked end (events.Step n) →
        (t : CameTo (command by_plain d)) → Bring t.state
    command_brings p o running whole by t =
        all_made (events.Step n) by (λ acts. are_noted d.store.loose acts ≡ true)
        (λ acts f. both (d.store.device == n) (are_noted d.store.loose acts) own_number f)
        own_number t.state.history (came_had (command_made d p.number p.empty p.follows o running whole) t)

    pub step_second_brings : IsBy asked end (events.Step n) → (t : CameTo (second by_plain d)) → Bring t.state
    step_second_brings by t =
        all_made (events.Step n) by (λ acts. are_firmed d.store.loose acts ≡ true)
        (λ acts f. both (d.store.device == n) (are_noted d.store.loose acts) own_number (firmed_noted acts d.store.loose f)) own_number t.state.history
        (came_had (second_made d) t)

    firmed_here : (acts : List Act) → are_firmed d.store.loose acts ≡ true → ((d.store.device == n) && are_firmed d.store.loose acts) ≡ true
    firmed_here acts f = both (d.store.device == n) (are_firmed d.store.loose acts) own_number f

    pub back_second_brings : (h : HalfWrite (Unit {0})) → d.store.half ≡ Some h → IsBy asked end (events.Back n) → (t : CameTo (second by_plain d)) →
        Bring t.state
    back_second_brings h is by t =
        all_made (events.Back n) by (λ acts. are_firmed d.store.loose acts ≡ true) firmed_here
        (both (d.store.device == n) (is_some d.store.half) own_number (ap (λ (o : Option (HalfWrite (Unit {0}))). is_some o) is)) t.state.history
        (came_had (second_made d) t)

    pub background_brings : {first : ℕ → List Track} → PlainlyOn first d → d.store.half ≡ None → IsBy asked end (events.Back n) → (t : CameTo (background by_plain d)) → Bring t.state
    background_brings p whole by t =
        acts_bring (events.Back n) by (λ acts. are_firmed d.store.loose acts ≡ true) firmed_here t.state.history
        (came_had (background_made d p.number p.empty p.follows whole) t)

    pub side_brings : (side : Side) → IsBy asked end (events.FailVolume n side) → (t : CameTo (lose by_plain d (losses.Side side))) → Bring t.state
    side_brings side by t =
        acts_bring (events.FailVolume n side) by (λ acts. are_firmed d.store.loose acts ≡ true) firmed_here t.state.history (came_had (side_made d side) t)

    pub reset_brings : (path : ℕ) → IsBy asked end (events.Reset path n) → (t : CameTo (reset by_plain d path)) → Bring t.state
    reset_brings path by t =
        subst (Brings asked end d) (sym (at (reset_made d path) t))
        (reset_of_path path (subst (λ (k : ℕ). IsBy asked end (events.Reset path k)) (sym number) by))

  pub power_brings : IsBy asked end events.Power → (t : CameTo (power by_plain d)) → Bring t.state
  power_brings by t = subst (Brings asked end d) (sym (at (power_made d) t)) (loss_of_power by)

  -- with no act where no track is loose
  cache_by : IsBy asked end events.FailCache → (b : Bool) → has_loose d.store ≡ b → (acts : List Act) → acts ≡ (if b then CfwLost ∷ [] else []) →
      Brings asked end d (all_acted d.history acts)
  cache_by by true some acts is =
      subst (λ (l : List Act). Brings asked end d (all_acted d.history l)) (sym is)
      (acts_alone events.FailCache by (CfwLost ∷ []) (both (has_loose d.store) true some refl))
  cache_by by false none acts is = subst (λ (l : List Act). Brings asked end d (all_acted d.history l)) (sym is) nothing

  pub cache_brings : IsBy asked end events.FailCache → (t : CameTo (lose by_plain d losses.Cache)) → Bring t.state
  cache_brings by t =
      let f = came_had (cache_made d) t in
      subst (Brings asked end d) (sym f.is) (cache_by by (has_loose d.store) refl f.acts f.are)

  patched_firm : Fair d → ArePatchedFirm d.store
  patched_firm f =
      by_lent d (λ home. well_patches d.store (f.good.well home))
      (λ away q patched. absurd (let none = ap (λ (o : Option (Unit {0})). is_some o) ((f.good.gone away).store.patch q) in
      let same : true ≡ false = sym patched ∙ none in cc))

  pub store_brings : Fair d → (t : CameTo (lose by_plain d losses.Store)) → Bring t.state
  store_brings fair t =
      let f = came_had (store_made d (patched_firm fair)) t in
      same_brings t.state.history (f.is ∙ ap (λ (l : List Act). all_acted d.history l) f.are)
