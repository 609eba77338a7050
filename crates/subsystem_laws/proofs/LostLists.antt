-- In a run each track that becomes lost has its cause.
use Rattle.std.proofs.Common.{◌≡◌, ℕ, Bool, true, false, List, Option, Some, None, is_some, get_or, refl, sym, ap, subst, ◌∙◌, ◌⊎◌, inl, inr}
use Rattle.std.specs.Prelude.{All}
use Rattle.deck_text.specs.DeckLines.{DeckLines}
use Rattle.loss_model.specs.declared.Loss.{Loss}
use Rattle.loss_model.specs.declared.Loss.TheVariants as losses
use Rattle.track_image.specs.Image.{Image}
use Rattle.device_outside.specs.Interaction.{Interaction}
use Rattle.subsystem_defs.specs.declared.end.EventEnd.TheVariants as ends
use Rattle.subsystem_defs.specs.Decks.{Firsts, run_on}
use Rattle.subsystem_defs.specs.Deeds.{ends_done, end_of}
use Rattle.subsystem_defs.specs.Subsystem.{Subsystem}
use Rattle.ckd_types.specs.declared.paths.Side.{Side}
use Rattle.ckd_types.specs.declared.paths.Side.TheVariants as sides
use Rattle.plain_defs.specs.History.{OpenEntry}
use Rattle.device_defs.specs.Command.{command}
use Rattle.device_defs.specs.Contents.{by_plain}
use Rattle.device_defs.specs.Cutting.{reset, power}
use Rattle.device_defs.specs.Events.{second, lose, background}
use Rattle.device_defs.specs.Marks.{MarksDevice}
use Rattle.device_defs.specs.Orders.{lend, replace, hold_side, resume}
use Rattle.device_defs.specs.Start as S
use Rattle.device_defs.specs.Start.{start, next_ordinal}
use Rattle.device_defs.specs.Store.{HalfWrite, takes_b, has_level}
use Rattle.device_laws.proofs.Based.{Any, Based, kept, based_any}
use Rattle.device_laws.proofs.BasedEvents.{base_in, command_based, second_based, background_based, lose_based, power_based, reset_body}
use Rattle.device_laws.proofs.GoneEvents.{Gone, background_away}
use Rattle.device_laws.proofs.Harmless.{reset_goes}
use Rattle.device_laws.proofs.Lucky.{where_none_failed}
use Rattle.device_laws.proofs.TrackMarks.{marks_are_faithful}
use Rattle.device_laws.proofs.Unlost.{Fine, core_of}
use Rattle.device_laws.proofs.UnlostParts.{DeviceGoes}
use Rattle.device_laws.proofs.invariants.NoTrackIsLost.{command_goes, background_goes, second_event_goes}
use Rattle.subsystem_laws.specs.Came.{CameTo}
use Rattle.subsystem_laws.proofs.Came.{at}
use Rattle.subsystem_laws.proofs.GoodMarks.{good_kept, by_lent, runs_home, half_home}
use Rattle.subsystem_laws.proofs.LendBase.{stays_still, lend_lends}
use Rattle.subsystem_defs.specs.Refusals.{pair_fault}
use Rattle.subsystem_laws.specs.Causes.{by_loss, by_call, by_full_count, by_half, LosesNone, LosesForCause, LoseForCause}
use Rattle.subsystem_laws.specs.Served.{IsServedDeck}
use Rattle.subsystem_laws.proofs.CheckCauses.{decided, by_failed}
use Rattle.subsystem_laws.proofs.DeedWalk.{seat_of, IsDeedwise}
use Rattle.subsystem_laws.proofs.Pairing.{KeepsDeed, deeds_of, IsPairwise, run_pairs, ends_made, becomes_so, fair_of, started_number}
use Rattle.subsystem_laws.proofs.TracksKept.{Fair}
use Rattle.subsystem_laws.proofs.Walks.{AreSo}

module _ (d : MarksDevice) (f : Fair d) where
  same_lost : (y : MarksDevice) → Fine (core_of d.store) (core_of y.store) → LosesNone d y
  same_lost y g = λ q lost. ap (λ (l : List Bool). get_or l q false) (sym g.lost) ∙ lost

  where_kept : {X : Type 0} (i : Interaction Bool Image MarksDevice X) → Based base_in Any (kept d.store) i → DeviceGoes by_plain d.store i → (t : CameTo i) →
      LosesForCause d t.state
  where_kept i x goes t =
      by_failed d f i x t (λ full. inr (by_full_count full)) (λ rose. inr (by_call rose))
      (λ lt same. inl (same_lost t.state (at (where_none_failed (λ z _. Fine (core_of d.store) (core_of z.store)) x lt goes) t same)))

  none_gone : (y : MarksDevice) → Gone y → LosesNone d y
  none_gone y g = λ q lost. absurd (let both : true ≡ false = sym lost ∙ g.store.lost q in cc)

  command_loses : (o : OpenEntry) → d.history.running ≡ Some o → d.store.half ≡ None → (t : CameTo (command by_plain d)) → LosesForCause d t.state
  command_loses o running whole t =
      where_kept (command by_plain d) (command_based by_plain d)
      (command_goes by_plain marks_are_faithful d (f.good.well (runs_home d f.good o running))) t

  second_loses : (h : HalfWrite (Unit {0})) → d.store.half ≡ Some h → (t : CameTo (second by_plain d)) → LosesForCause d t.state
  second_loses h is t =
      decided (takes_b d.store) (λ takes. tried (inl takes))
      (λ none. decided (has_level d.store h.track) (λ level. tried (inr level)) (λ off. inr (by_half h is off none)))
    where
      tried : ((takes_b d.store ≡ true) ⊎ (has_level d.store h.track ≡ true)) → LosesForCause d t.state
      tried how =
          where_kept (second by_plain d) (second_based by_plain d)
          (second_event_goes by_plain marks_are_faithful d (f.good.well (half_home d f.good h is))
          (λ k at_k. subst (λ (x : HalfWrite (Unit {0})). (takes_b d.store ≡ true) ⊎ (has_level d.store x.track ≡ true)) (let same : h ≡ k = cc in same) how)) t

  background_loses : d.store.half ≡ None → (t : CameTo (background by_plain d)) → LosesForCause d t.state
  background_loses whole t =
      by_lent d
      (λ home. where_kept (background by_plain d) (background_based by_plain d) (background_goes by_plain marks_are_faithful d (f.good.well home)) t)
      (λ away. inl (none_gone t.state (at (background_away by_plain d (f.good.gone away)) t)))

  reset_loses : (path : ℕ) (t : CameTo (reset by_plain d path)) → LosesForCause d t.state
  reset_loses path t = where_kept (reset by_plain d path) (based_any (reset_body by_plain d path)) (reset_goes by_plain marks_are_faithful d path) t

loss_loses : (d : MarksDevice) (loss : Loss) (t : CameTo (lose by_plain d loss)) → LosesForCause d t.state
loss_loses d loss t = inr (by_loss loss (at (stays_still (lose_based by_plain d loss)) t).3)

power_loses : (d : MarksDevice) (t : CameTo (power by_plain d)) → LosesForCause d t.state
power_loses d t = inr (by_loss losses.Cache (at (stays_still (power_based by_plain d)) t).3)

lend_loses : (x d : MarksDevice) → pair_fault x d ≡ None → Fair x → Fair d → (t : CameTo (lend by_plain d x.store.device)) → LosesNone d t.state
lend_loses x d fault e f t =
    let y = t.state in
    none_gone d f y ((good_kept.lent x d fault e.good f.good t).gone (ap (λ (o : Option ℕ). is_some o) (lend_lends d x.store.device t).lent))

started_keeps : (d : MarksDevice) (path : ℕ) → LosesNone d (start d path)
unfolding S.start
started_keeps d path = λ q lost. lost

replaced_keeps : (d : MarksDevice) (side : Side) → LosesNone d (replace d side)
replaced_keeps d sides.A = λ q lost. lost
replaced_keeps d sides.B = λ q lost. lost

deeds_lose : (s : Subsystem) → AreSo Fair s.mounted → IsDeedwise s (KeepsDeed LosesNone LosesForCause s)
deeds_lose s p = record {
  ended = λ end. tt;
  started = λ d x path fault.
      becomes_so LosesNone LosesForCause s d x (start d path) (started_number d path) (started_keeps d path) (ends.Started (next_ordinal d path));
  seconded = λ d x h is. (
    seat_of s d x,
    ends_made LosesNone LosesForCause d (second by_plain d) (λ a. Some (ends.Second a))
        (second_loses d (fair_of s p d x) h is),
  );
  commanded = λ d x whole o running. (
    seat_of s d x,
    ends_made LosesNone LosesForCause d (command by_plain d) (end_of ends.Stepped) (command_loses d (fair_of s p d x) o running whole),
  );
  worked = λ d x whole. (
    seat_of s d x,
    ends_made LosesNone LosesForCause d (background by_plain d) (end_of ends.Back) (background_loses d (fair_of s p d x) whole),
  );
  cut = λ d x path. (
    seat_of s d x,
    ends_made LosesNone LosesForCause d (reset by_plain d path) (λ a. Some (ends_done a)) (reset_loses d (fair_of s p d x) path),
  );
  lost_cache = λ d t. loss_loses d losses.Cache t;
  lost_store = λ d t. loss_loses d losses.Store t;
  lost_side = λ d x side fault. (
    seat_of s d x,
    ends_made LosesNone LosesForCause d (lose by_plain d (losses.Side side)) (λ a. Some (ends_done a)) (loss_loses d (losses.Side side)),
  );
  lost_power = power_loses;
  repaired_cache = tt;
  repaired_store = tt;
  lent = λ x y z w fault. (seat_of s y w, lend_loses x y fault (fair_of s p x z) (fair_of s p y w));
  held = λ d x fault. becomes_so LosesNone LosesForCause s d x (hold_side d) refl (λ q lost. lost) ends.Done;
  resumed = λ d x fault. becomes_so LosesNone LosesForCause s d x (resume d) refl (λ q lost. lost) ends.Done;
}

losses_pairwise : IsPairwise LosesNone (λ lossy alone. LosesForCause)
losses_pairwise = record {
  own = λ d q lost. lost;
  on = λ x y z p r q lost. p q (r q lost);
  made = λ lossy alone x y p. inl p;
  joins = λ d q lost. lost;
  splits = λ d fault q lost. lost;
  replaces = λ d side fault. replaced_keeps d side;
  restores = λ d a is q lost. lost;
  deeds = λ s p. deeds_of LosesNone LosesForCause s (deeds_lose s p);
}

pub run_loses_for_cause : (firsts : Firsts) (deck : DeckLines) → IsServedDeck deck → All LoseForCause (run_on firsts deck).events
run_loses_for_cause firsts = run_pairs LosesNone (λ lossy alone. LosesForCause) losses_pairwise firsts
