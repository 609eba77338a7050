-- In a run no command ends with equipment check on a device that was never lent and of which nothing was lost and no call failed.
use Rattle.std.proofs.Common.{◌≡◌, ◌≤◌, ◌+◌, ℕ, Bool, true, List, [], ◌∷◌, ◌++◌, map, Some, None, refl, subst, sym, ap, ◌∙◌, arith}
use Rattle.std.proofs.lemmas.List.Elements.{All-head, All-tail}
use Rattle.std.specs.Prelude.{All, ◌||◌}
use Rattle.ckd_types.specs.declared.paths.Side.{Side}
use Rattle.ckd_types.specs.declared.paths.Side.TheVariants as sides
use Rattle.deck_text.specs.declared.line.DeviceLine.{DeviceLine}
use Rattle.deck_text.specs.DeckLines.{DeckLines}
use Rattle.plain_defs.specs.declared.journal.Item.{Item}
use Rattle.plain_defs.specs.declared.journal.Item.TheVariants as items
use Rattle.plain_defs.specs.History.{OpenEntry}
use Rattle.loss_model.specs.declared.Loss.{Loss}
use Rattle.loss_model.specs.declared.Loss.TheVariants as losses
use Rattle.track_image.specs.Image.{Image}
use Rattle.device_outside.specs.Interaction.{Interaction, Done}
use Rattle.device_defs.specs.declared.counts.Losses.{Losses}
use Rattle.device_defs.specs.Command.{command}
use Rattle.device_defs.specs.Contents.{by_plain}
use Rattle.device_defs.specs.Cutting.{reset, power}
use Rattle.device_defs.specs.Events.{second, lose, background}
use Rattle.device_defs.specs.Marks.{MarksDevice}
use Rattle.device_defs.specs.declared.counts.Counts.{Counts}
use Rattle.device_defs.specs.Excused.{losses_of, loose_losses}
use Rattle.device_defs.specs.Orders as O
use Rattle.device_defs.specs.Orders.{restore, replace, with_tracks, lent_to, given_up, lend}
use Rattle.device_defs.specs.Owed.{waiting_count, noted_end}
use Rattle.device_defs.specs.Store.{HalfWrite, tracks_of, takes_b}
use Rattle.device_defs.specs.Device.{event_begun, quiet_event}
use Rattle.device_defs.specs.Losses.{over}
use Rattle.device_defs.specs.Start as S
use Rattle.device_defs.specs.Start.{start}
use Rattle.device_laws.specs.Unharmed.{NothingLost, all_losses, running_losses, ends_with_equipment_check}
use Rattle.device_laws.proofs.Always.{Always, always_done, always_then}
use Rattle.device_laws.proofs.Based.{Any, Based, kept, based_any}
use Rattle.device_laws.proofs.BasedEvents.{base_in, command_based, second_based, background_based, lose_based, power_based, reset_body}
use Rattle.device_laws.proofs.KeptEvents.{always_any}
use Rattle.device_laws.proofs.KeptHistories.{count_more}
use Rattle.device_laws.proofs.LooseLosses.{command_has, second_has, background_has, reset_has}
use Rattle.device_laws.proofs.LossLaws.{some_counted}
use Rattle.device_laws.proofs.Lucky.{top, failed_in, never_falls, where_none_failed}
use Rattle.device_laws.proofs.TrackMarks.{marks_are_faithful}
use Rattle.device_laws.proofs.UncheckedEvents.{equipment_checks, command_unchecked_within}
use Rattle.subsystem_defs.specs.Decks as D
use Rattle.subsystem_defs.specs.Decks.{Firsts, opened_device_on, opened_on, run_on}
use Rattle.subsystem_defs.specs.Lines.{asked_by}
use Rattle.subsystem_laws.specs.Causes.{ChecksNothing, CheckNothing}
use Rattle.subsystem_laws.specs.Served.{IsServedDeck}
use Rattle.subsystem_laws.specs.Came.{CameTo}
use Rattle.subsystem_laws.proofs.Came.{at}
use Rattle.subsystem_laws.proofs.GoodMarks.{runs_home, half_home, within}
use Rattle.subsystem_laws.proofs.LendBase.{stays_still, lent_store, lend_based, lent_counts}
use Rattle.subsystem_laws.proofs.PastChecks.{reset_counts}
use Rattle.subsystem_laws.proofs.SecondChecks.{second_unchecked, background_unchecked, runs_unharmed}
use Rattle.subsystem_laws.proofs.TracksKept.{Fair, fair_kept, none_less, below_top, new_fair}
use Rattle.subsystem_laws.proofs.RunLines.{AnyEvent}
use Rattle.subsystem_laws.proofs.Walks.{IsKept, AreSo, LeavesSo, run_keeps, behind_weaker}

abbrev pub IsQuiet : MarksDevice → Type 0
IsQuiet d = NothingLost d.store → d.store.counts.losses.cache ≡ 0 → (equipment_checks d.history ≡ 0) × (all_losses d.history ≡ 0)

pub record Quiet (d : MarksDevice) : Type 0 where
  pub fair : Fair d
  pub none : IsQuiet d

none_running : (x y : ℕ) → x + y ≡ 0 → y ≡ 0
none_running x y e = omega (arith, e)

none_past : (x y : ℕ) → x + y ≡ 0 → x + 0 ≡ 0
none_past x y e = omega (arith, e)

pub one_more_item : (xs : List Item) → loose_losses (xs ++ items.Fresh ∷ []) ≡ loose_losses xs
one_more_item [] = refl
one_more_item (x ∷ xs) = ap (λ (n : ℕ). losses_of x + n) (one_more_item xs)

-- a device that is lent keeps its history
quiet_past : {A : Type 0} (d : MarksDevice) (body : MarksDevice → Interaction Bool Image MarksDevice A) →
    Always (body (event_begun d)) (λ y _. y.history ≡ d.history) → Always (quiet_event by_plain d body) (λ y _. y.history ≡ d.history)
quiet_past d body does =
    always_then does (λ y a g. always_then (always_any (noted_end by_plain (waiting_count by_plain d.store) y.store)) (λ z _ _. always_done g))

pub lend_past : (d : MarksDevice) (to : ℕ) → Always (lend by_plain d to) (λ y _. y.history ≡ d.history)
unfolding O.lend
lend_past d to =
    quiet_past d (λ z. Done (with_tracks z (lent_to (over (tracks_of z.store) (given_up by_plain) z.store) to)) tt) (always_done refl)

module _ (d : MarksDevice) (q : Quiet d) where
  -- what was before
  record Before (was : Bool) (y : MarksDevice) : Type 0 where
    nothing : NothingLost d.store
    cache : d.store.counts.losses.cache ≡ 0
    failed : y.store.counts.failed ≡ d.store.counts.failed

  before_at : {X : Type 0} (i : Interaction Bool Image MarksDevice X) → Based base_in Any (kept d.store) i → (t : CameTo i) →
      NothingLost t.state.store → t.state.store.counts.losses.cache ≡ 0 → Before true t.state
  before_at i x t n c =
      let y = t.state in
      let losses_are = (at (stays_still x) t).3 in
      let none : d.store.counts.failed ≡ 0 = none_less d.store.counts.failed y.store.counts.failed (at (never_falls x q.fair.most) t) n.failed in
      record {
        nothing = record {
          sides = ap (λ (l : Losses). l.sides) (sym losses_are) ∙ n.sides;
          failed = none;
          store = ap (λ (l : Losses). l.store) (sym losses_are) ∙ n.store;
        };
        cache = ap (λ (l : Losses). l.cache) (sym losses_are) ∙ c;
        failed = n.failed ∙ sym none;
      }

  command_quiet : (o : OpenEntry) → d.history.running ≡ Some o → LeavesSo Fair (command by_plain d) → d.store.half ≡ None →
      LeavesSo Quiet (command by_plain d)
  command_quiet o running fair whole = λ t.
      let was = runs_home d q.fair.good o running in
      let y = t.state in
      let x = command_based by_plain d in
      record {
        fair = fair t;
        none = λ n c.
            let b = before_at (command by_plain d) x t n c in
            let z = q.none b.nothing b.cache in
            let on_a = q.fair.un was b.nothing in
            let runs = runs_unharmed d.history.running (none_running _ (running_losses d.history.running) z.1) in (
              at (where_none_failed (λ e _. equipment_checks e.history ≡ 0) x (below_top d.store.counts.failed b.nothing.failed)
                  (command_unchecked_within by_plain 0 marks_are_faithful d (within d q.fair.good) (q.fair.good.well was) whole
                  (ap (λ (b : Bool). b || takes_b d.store) on_a.up, on_a.kept) runs z.0)) t
                  b.failed,
              at (command_has by_plain 0 d z.1) t,
            );
      }

  second_quiet : (h : HalfWrite (Unit {0})) → d.store.half ≡ Some h → LeavesSo Fair (second by_plain d) → LeavesSo Quiet (second by_plain d)
  second_quiet h is fair = λ t.
      let was = half_home d q.fair.good h is in
      let y = t.state in
      let x = second_based by_plain d in
      record {
        fair = fair t;
        none = λ n c.
            let b = before_at (second by_plain d) x t n c in
            let z = q.none b.nothing b.cache in (
              at (where_none_failed (λ e _. equipment_checks e.history ≡ 0) x (below_top d.store.counts.failed b.nothing.failed)
                  (second_unchecked 0 d (q.fair.un was b.nothing) z.0)) t b.failed,
              at (second_has by_plain 0 d z.1) t,
            );
      }

  background_quiet : LeavesSo Fair (background by_plain d) → LeavesSo Quiet (background by_plain d)
  background_quiet fair = λ t.
      let y = t.state in
      let x = background_based by_plain d in
      record {
        fair = fair t;
        none = λ n c.
            let b = before_at (background by_plain d) x t n c in
            let z = q.none b.nothing b.cache in (at (background_unchecked 0 d z.0) t, at (background_has by_plain 0 d z.1) t);
      }

  reset_quiet : (path : ℕ) → LeavesSo Fair (reset by_plain d path) → LeavesSo Quiet (reset by_plain d path)
  reset_quiet path fair = λ t.
      let y = t.state in
      let x = based_any (reset_body by_plain d path) in
      record {
        fair = fair t;
        none = λ n c.
            let b = before_at (reset by_plain d path) x t n c in
            let z = q.none b.nothing b.cache in (
              at (reset_counts ends_with_equipment_check (λ o k. refl) (λ path. refl) refl 0 d path z.0) t,
              at (reset_has by_plain 0 d path z.1) t,
            );
      }

  power_quiet : LeavesSo Fair (power by_plain d) → LeavesSo Quiet (power by_plain d)
  power_quiet fair = λ t. record {
    fair = fair t;
    none = λ n c.
        absurd (some_counted d.store.counts.losses.cache (ap (λ (l : Losses). l.cache) (sym (at (stays_still (power_based by_plain d)) t).3) ∙ c));
  }

  loss_none : (loss : Loss) (t : CameTo (lose by_plain d loss)) → IsQuiet t.state
  loss_none losses.Cache t n c =
      absurd (some_counted d.store.counts.losses.cache (ap (λ (l : Losses). l.cache) (sym (at (stays_still (lose_based by_plain d losses.Cache)) t).3) ∙ c))
  loss_none losses.Store t n c =
      absurd (some_counted d.store.counts.losses.store (ap (λ (l : Losses). l.store)
      (sym (at (stays_still (lose_based by_plain d losses.Store)) t).3) ∙ n.store))
  loss_none (losses.Side side) t n c =
      absurd (some_counted d.store.counts.losses.sides
      (ap (λ (l : Losses). l.sides) (sym (at (stays_still (lose_based by_plain d (losses.Side side))) t).3) ∙ n.sides))

  start_quiet : (path : ℕ) → Fair (start d path) → Quiet (start d path)
  unfolding S.start
  start_quiet path fair = record {
    fair = fair;
    none = λ n c. let z = q.none n c in (z.0, none_past _ (running_losses d.history.running) z.1);
  }

  same_quiet : (y : MarksDevice) → Fair y → y.store.counts ≡ d.store.counts → y.history ≡ d.history → Quiet y
  same_quiet y fair counts history = record {
    fair = fair;
    none = λ n c.
        let z = q.none (record {
          sides = ap (λ (k : _). k.losses.sides) (sym counts) ∙ n.sides;
          failed = ap (λ (k : _). k.failed) (sym counts) ∙ n.failed;
          store = ap (λ (k : _). k.losses.store) (sym counts) ∙ n.store;
        }) (ap (λ (k : _). k.losses.cache) (sym counts) ∙ c) in
        (ap equipment_checks history ∙ z.0, ap all_losses history ∙ z.1);
  }

  replace_quiet : (side : Side) → Fair (replace d side) → Quiet (replace d side)
  replace_quiet sides.A fair = same_quiet (replace d sides.A) fair refl refl
  replace_quiet sides.B fair = same_quiet (replace d sides.B) fair refl refl

  lend_quiet : (to : ℕ) → LeavesSo Fair (lend by_plain d to) → LeavesSo Quiet (lend by_plain d to)
  lend_quiet to fair = λ t.
      let y = t.state in
      let x = lend_based d to in
      let losses_are = (at (stays_still x) t).3 in
      let counts = lent_counts d to in
      let history = at (lend_past d to) t in
      record {
        fair = fair t;
        none = λ n c.
            let le : failed_in (kept (lent_store d to)) ≤ top = subst (λ (k : Counts). k.failed ≤ top) (sym counts) q.fair.most in
            let none : (lent_store d to).counts.failed ≡ 0 =
            none_less (lent_store d to).counts.failed y.store.counts.failed (at (never_falls x le) t) n.failed in
            let z = q.none (record {
              sides = sym (ap (λ (k : Counts). k.losses.sides) counts) ∙ ap (λ (l : Losses). l.sides) (sym losses_are) ∙ n.sides;
              failed = sym (ap (λ (k : Counts). k.failed) counts) ∙ none;
              store = sym (ap (λ (k : Counts). k.losses.store) counts) ∙ ap (λ (l : Losses). l.store) (sym losses_are) ∙ n.store;
            }) (sym (ap (λ (k : Counts). k.losses.cache) counts) ∙ ap (λ (l : Losses). l.cache) (sym losses_are) ∙ c) in
            (ap equipment_checks history ∙ z.0, ap all_losses history ∙ z.1);
      }

  restore_quiet : Fair (restore d) → Quiet (restore d)
  restore_quiet fair = record {
    fair = fair;
    none = λ n c.
        let z = q.none (record { sides = n.sides; failed = n.failed; store = n.store }) c in (
          count_more ends_with_equipment_check d.history.items (items.Fresh ∷ []) (refl, tt) ∙ z.0,
          ap (λ (k : ℕ). k + running_losses d.history.running) (one_more_item d.history.items) ∙ z.1,
        );
  }

pub quiet_kept : IsKept Quiet AnyEvent
quiet_kept = record {
  started = λ d path n may fault q. start_quiet d q path (fair_kept.started d path n may fault q.fair);
  commanded = λ d o running whole q. command_quiet d q o running (fair_kept.commanded d o running whole q.fair) whole;
  seconded = λ d h is q. second_quiet d q h is (fair_kept.seconded d h is q.fair);
  worked = λ d whole q. background_quiet d q (fair_kept.worked d whole q.fair);
  cut = λ d path q. reset_quiet d q path (fair_kept.cut d path q.fair);
  lost_cache = λ d q. λ t. record { fair = fair_kept.lost_cache d q.fair t; none = loss_none d q losses.Cache t };
  lost_store = λ d q. λ t. record { fair = fair_kept.lost_store d q.fair t; none = loss_none d q losses.Store t };
  lost_side = λ d side home q. λ t. record { fair = fair_kept.lost_side d side home q.fair t; none = loss_none d q (losses.Side side) t };
  lost_power = λ d q. power_quiet d q (fair_kept.lost_power d q.fair);
  held = λ d fault q. same_quiet d q _ (fair_kept.held d fault q.fair) refl refl;
  resumed = λ d pair q. same_quiet d q _ (fair_kept.resumed d pair q.fair) refl refl;
  replaced = λ d side fault q. replace_quiet d q side (fair_kept.replaced d side fault q.fair);
  lent = λ x y fault p q. lend_quiet y q x.store.device (fair_kept.lent x y fault p.fair q.fair);
  joins = λ d single q. same_quiet d q _ (fair_kept.joins d single q.fair) refl refl;
  splits = λ d fault q. same_quiet d q _ (fair_kept.splits d fault q.fair) refl refl;
  restored = λ d a is q. restore_quiet d q (fair_kept.restored d a is q.fair);
}

pub opened_quiet : (firsts : Firsts) (deck : DeckLines) (ds : List DeviceLine) → All (λ (d : DeviceLine). 1 ≤ d.cylinders) ds → AreSo Quiet (map (opened_device_on firsts deck) ds)
opened_quiet firsts deck [] h = tt
opened_quiet firsts deck (d ∷ ds) h = (
  record { fair = new_fair d.number d.geometry d.cylinders (firsts d.number d.cylinders) _ (All-head (λ (d : DeviceLine). 1 ≤ d.cylinders) d ds h); none = λ n c. (refl, refl) },
  opened_quiet firsts deck ds (All-tail (λ (d : DeviceLine). 1 ≤ d.cylinders) d ds h),
)

pub run_checks_nothing : (firsts : Firsts) (deck : DeckLines) → IsServedDeck deck → All CheckNothing (run_on firsts deck).events
unfolding D.run_asked_on
run_checks_nothing firsts deck h =
    behind_weaker Quiet ChecksNothing (λ d q. λ nothing cache. (q.none nothing cache).0) (run_on firsts deck).events
    (run_keeps Quiet quiet_kept (map asked_by deck.events) (opened_on firsts deck) (opened_quiet firsts deck deck.devices h.devices))
