-- In a run no track is lost of a device with no loss of a side, no failed call, and losses of the cache or of the store alone.
use Rattle.std.proofs.Common.{◌≡◌, ◌≤◌, ◌*◌, ℕ, Bool, true, false, List, [], ◌∷◌, map, Option, Some, None, is_some, refl, sym, ap, subst, ◌∙◌}
use Rattle.std.proofs.lemmas.List.Elements.{All-head, All-tail}
use Rattle.std.specs.Prelude.{All}
use Rattle.ckd_types.specs.declared.geometry.Geometry.{Geometry}
use Rattle.ckd_types.specs.declared.paths.Side.{Side}
use Rattle.ckd_types.specs.declared.record.Track.{Track}
use Rattle.deck_text.specs.declared.line.DeviceLine.{DeviceLine}
use Rattle.deck_text.specs.DeckLines.{DeckLines}
use Rattle.loss_model.specs.declared.Loss.{Loss}
use Rattle.loss_model.specs.declared.Loss.TheVariants as losses
use Rattle.plain_defs.specs.Journal.{Plans}
use Rattle.track_image.specs.Image.{Image}
use Rattle.track_table.proofs.Places.{empty_places}
use Rattle.device_outside.specs.Interaction.{Interaction}
use Rattle.device_defs.specs.declared.counts.Losses.{Losses}
use Rattle.device_defs.specs.Command.{command}
use Rattle.device_defs.specs.Contents.{by_plain}
use Rattle.device_defs.specs.Cutting.{reset, power}
use Rattle.device_defs.specs.Events.{second, lose, background}
use Rattle.device_defs.specs.Marks.{MarksDevice}
use Rattle.device_defs.specs.Orders.{restore, replace, lend}
use Rattle.device_defs.specs.Peek.{peek}
use Rattle.device_defs.specs.Start as S
use Rattle.device_defs.specs.Start.{start}
use Rattle.device_defs.specs.Store.{patch_at, side_of}
use Rattle.device_laws.specs.NewDevice.{device_on, store_on}
use Rattle.device_laws.specs.Unharmed.{CacheKept, IsFramed, IsUncached}
use Rattle.device_laws.proofs.Based.{Base, Any, Based, kept, based_any}
use Rattle.device_laws.proofs.BasedEvents.{base_in, with_one_loss, command_based, second_based, background_based, lose_based, peek_based, power_based, reset_body}
use Rattle.device_laws.proofs.FramesKept.{plates_of, HasFrames}
use Rattle.device_laws.proofs.FramesLaws.{
  framed_frames,
  framed_steady,
  framed_behind,
  lose_store_framed,
  started_uncached,
  held_uncached,
  joined_uncached,
  replaced_uncached,
  excused_tracks,
}
use Rattle.device_laws.proofs.Harmless.{reset_goes}
use Rattle.device_laws.proofs.invariants.PatchesHaveFrames.{command_frames, second_event_frames, background_frames, peek_frames, reset_frames}
use Rattle.device_laws.proofs.LossLaws.{some_counted, kept_counts}
use Rattle.device_laws.proofs.Lucky.{Lucky, top, failed_in, never_falls, where_none_failed}
use Rattle.device_laws.proofs.TrackMarks.{marks_are_faithful}
use Rattle.device_laws.proofs.Unchecked.{lucky_both}
use Rattle.device_laws.proofs.Unlost.{core_of, Fine, steady_tried}
use Rattle.device_laws.proofs.invariants.NoTrackIsLost.{command_goes, background_goes, peek_goes, second_event_goes}
use Rattle.subsystem_defs.specs.Decks as D
use Rattle.subsystem_defs.specs.Decks.{Firsts, opened_device_on, opened_on, run_on}
use Rattle.subsystem_defs.specs.Lines.{asked_by}
use Rattle.subsystem_defs.specs.Refusals as R
use Rattle.subsystem_defs.specs.Refusals.{replace_fault}
use Rattle.subsystem_laws.specs.Excused.{HasExcusedTracks, HaveExcusedTracks}
use Rattle.subsystem_laws.specs.Served.{IsServedDeck}
use Rattle.subsystem_laws.specs.Came.{CameTo}
use Rattle.subsystem_laws.proofs.Came.{at}
use Rattle.subsystem_laws.proofs.GoodMarks.{home_before, by_lent, lent_is}
use Rattle.subsystem_laws.proofs.LendBase.{stays_still, lend_lends}
use Rattle.subsystem_laws.proofs.RunLines.{AnyEvent}
use Rattle.subsystem_laws.proofs.TracksKept.{Fair, fair_kept, new_fair, none_less, below_top, replace_same}
use Rattle.subsystem_laws.proofs.Walks.{IsKept, AreSo, LeavesSo, run_keeps, behind_weaker}
use Rattle.subsystem_laws.proofs.WholeOrders.{is_down}

pub record Framed (d : MarksDevice) : Type 0 where
  pub fair : Fair d
  pub un : is_some d.store.lent ≡ false → IsUncached d.store

-- Events

module _ (d : MarksDevice) (f : Framed d) where
  -- in which of sides and cache none more is lost
  kept_before : {X : Type 0} (b : Base) (i : Interaction Bool Image MarksDevice X) → failed_in b ≡ d.store.counts.failed →
      b.counts.losses.sides ≡ d.store.counts.losses.sides → b.counts.losses.cache ≡ d.store.counts.losses.cache → Based base_in Any b i → (t : CameTo i) →
      CacheKept t.state.store → CacheKept d.store
  kept_before b i failed sides cache x t n =
      let y = t.state in
      let losses_are = (at (stays_still x) t).3 in
      let le : failed_in b ≤ top = subst (λ (k : ℕ). k ≤ top) (sym failed) f.fair.most in
      record {
        sides = sym sides ∙ ap (λ (l : Losses). l.sides) (sym losses_are) ∙ n.sides;
        failed = sym failed ∙ none_less (failed_in b) y.store.counts.failed (at (never_falls x le) t) n.failed;
        cache = sym cache ∙ ap (λ (l : Losses). l.cache) (sym losses_are) ∙ n.cache;
      }

  -- in which none is
  uncached_at : {X : Type 0} (i : Interaction Bool Image MarksDevice X) → Based base_in Any (kept d.store) i → is_some d.store.lent ≡ false →
      (IsFramed d.store → HasFrames by_plain (plates_of d.store) →
      Lucky (λ y (a : X). Fine (core_of d.store) (core_of y.store) × HasFrames by_plain (plates_of y.store)) i) → (t : CameTo i) →
      IsUncached t.state.store
  uncached_at {X} i x was goes t n =
      let y = t.state in
      let before = kept_before (kept d.store) i refl refl refl x t n in
      let w = f.un was before in
      let k = at
      (where_none_failed (λ z (a : X). Fine (core_of d.store) (core_of z.store) × HasFrames by_plain (plates_of z.store)) x
      (below_top d.store.counts.failed before.failed) (goes w (framed_frames by_plain d.store (f.fair.good.well was) w))) t (n.failed ∙ sym before.failed) in
      framed_behind by_plain d.store y.store k.0 k.1 w

  command_framed : LeavesSo Fair (command by_plain d) → d.store.half ≡ None → LeavesSo Framed (command by_plain d)
  command_framed fair none = λ t.
      let y = t.state in
      let x = command_based by_plain d in
      record {
        fair = fair t;
        un = λ home.
            let was = home_before d y (at (stays_still x) t).2 false home in
            let well = f.fair.good.well was in
            uncached_at (command by_plain d) x was
            (λ w g. lucky_both (command_goes by_plain marks_are_faithful d well)
            (command_frames by_plain marks_are_faithful d none g)) t;
      }

  second_framed : LeavesSo Fair (second by_plain d) → LeavesSo Framed (second by_plain d)
  second_framed fair = λ t.
      let y = t.state in
      let x = second_based by_plain d in
      record {
        fair = fair t;
        un = λ home.
            let was = home_before d y (at (stays_still x) t).2 false home in
            let well = f.fair.good.well was in
            uncached_at (second by_plain d) x was
            (λ w g. let steady = framed_steady by_plain d.store w in
            lucky_both (second_event_goes by_plain marks_are_faithful d well (steady_tried d.store steady))
            (second_event_frames by_plain marks_are_faithful d (steady_tried d.store steady) g)) t;
      }

  background_framed : LeavesSo Fair (background by_plain d) → d.store.half ≡ None → LeavesSo Framed (background by_plain d)
  background_framed fair none = λ t.
      let y = t.state in
      let x = background_based by_plain d in
      record {
        fair = fair t;
        un = λ home.
            let was = home_before d y (at (stays_still x) t).2 false home in
            let well = f.fair.good.well was in
            uncached_at (background by_plain d) x was
            (λ w g. lucky_both (background_goes by_plain marks_are_faithful d well) (background_frames by_plain marks_are_faithful d none g)) t;
      }

  pub peek_framed : (n : ℕ) → LeavesSo Fair (peek by_plain d n) → LeavesSo Framed (peek by_plain d n)
  peek_framed n fair = λ t.
      let y = t.state in
      let x = peek_based by_plain d n in
      record {
        fair = fair t;
        un = λ home.
            let was = home_before d y (at (stays_still x) t).2 false home in
            let well = f.fair.good.well was in
            uncached_at (peek by_plain d n) x was
            (λ w g. let steady = framed_steady by_plain d.store w in
            lucky_both (peek_goes by_plain marks_are_faithful d n well (steady_tried d.store steady))
            (peek_frames by_plain marks_are_faithful d n (steady_tried d.store steady) g)) t;
      }

  cut_framed : (path : ℕ) → LeavesSo Fair (reset by_plain d path) → LeavesSo Framed (reset by_plain d path)
  cut_framed path fair = λ t.
      let y = t.state in
      let x = based_any (reset_body by_plain d path) in
      record {
        fair = fair t;
        un = λ home.
            uncached_at (reset by_plain d path) x (home_before d y (at (stays_still x) t).2 false home)
            (λ w g. lucky_both (reset_goes by_plain marks_are_faithful d path)
            (reset_frames by_plain marks_are_faithful d path (steady_tried d.store (framed_steady by_plain d.store w)) g)) t;
      }

  power_framed : LeavesSo Fair (power by_plain d) → LeavesSo Framed (power by_plain d)
  power_framed fair = λ t. record {
    fair = fair t;
    un = λ home n.
        absurd (some_counted d.store.counts.losses.cache (ap (λ (l : Losses). l.cache) (sym (at (stays_still (power_based by_plain d)) t).3) ∙ n.cache));
  }

  loss_un : (loss : Loss) (t : CameTo (lose by_plain d loss)) → is_some d.store.lent ≡ false → IsUncached t.state.store
  loss_un losses.Cache t was n =
      absurd (some_counted d.store.counts.losses.cache
      (ap (λ (l : Losses). l.cache) (sym (at (stays_still (lose_based by_plain d losses.Cache)) t).3) ∙ n.cache))
  loss_un losses.Store t was n =
      let b = with_one_loss losses.Store (kept d.store) in
      let w = f.un was (kept_before b (lose by_plain d losses.Store) refl refl refl (lose_based by_plain d losses.Store) t n) in
      at (lose_store_framed by_plain marks_are_faithful d (framed_frames by_plain d.store (f.fair.good.well was) w) w) t
  loss_un (losses.Side side) t was n =
      absurd (some_counted d.store.counts.losses.sides
      (ap (λ (l : Losses). l.sides) (sym (at (stays_still (lose_based by_plain d (losses.Side side))) t).3) ∙ n.sides))

  loss_framed : (loss : Loss) → LeavesSo Fair (lose by_plain d loss) → LeavesSo Framed (lose by_plain d loss)
  loss_framed loss fair = λ t.
      let y = t.state in
      record { fair = fair t; un = λ home. loss_un loss t (home_before d y (at (stays_still (lose_based by_plain d loss)) t).2 false home) }

  start_framed : (path : ℕ) → Fair (start d path) → Framed (start d path)
  unfolding S.start
  start_framed path fair = record { fair = fair; un = λ home. started_uncached d path (f.un home) }

  -- Orders

  lend_framed : (to : ℕ) → LeavesSo Fair (lend by_plain d to) → LeavesSo Framed (lend by_plain d to)
  lend_framed to fair = λ t.
      let y = t.state in
      record {
        fair = fair t;
        un = λ home. absurd (let lent : is_some y.store.lent ≡ true = ap
            (λ (x : Option ℕ). is_some x) (lend_lends d to t).lent in let both : true ≡ false = sym lent ∙ home in cc);
      }

  replace_framed : (side : Side) → replace_fault d side ≡ None → Fair (replace d side) → Framed (replace d side)
  unfolding R.replace_fault
  replace_framed side e fair =
      let facts = is_down d.store.lent (R.has_side d.store side) (side_of d.store side).up _ e in
      record {
        fair = fair;
        un = λ home. replaced_uncached d (f.un (home_before d (replace d side) (replace_same d f.fair side).1 false home)) side facts.0;
      }

  -- one that gets its volume back has no patch
  restored_framed : is_some d.store.lent ≡ true → Fair (restore d) → Framed (restore d)
  restored_framed away fair =
      let g = (f.fair.good.gone away).store in
      record {
        fair = fair;
        un = λ home n. record {
          up = refl;
          kept = g.lost;
          half = λ h is. absurd (let both : None ≡ Some h = sym g.none ∙ is in cc);
          framed = λ t other patched. absurd (let both : false ≡ true = sym (ap (λ (o : Option (Unit {0})). is_some o) (g.patch t)) ∙ patched in cc);
        };
      }

pub framed_kept : IsKept Framed AnyEvent
framed_kept = record {
  started = λ d path n may fault f. start_framed d f path (fair_kept.started d path n may fault f.fair);
  commanded = λ d o running whole f. command_framed d f (fair_kept.commanded d o running whole f.fair) whole;
  seconded = λ d h is f. second_framed d f (fair_kept.seconded d h is f.fair);
  worked = λ d whole f. background_framed d f (fair_kept.worked d whole f.fair) whole;
  cut = λ d path f. cut_framed d f path (fair_kept.cut d path f.fair);
  lost_cache = λ d f. loss_framed d f losses.Cache (fair_kept.lost_cache d f.fair);
  lost_store = λ d f. loss_framed d f losses.Store (fair_kept.lost_store d f.fair);
  lost_side = λ d side home f. loss_framed d f (losses.Side side) (fair_kept.lost_side d side home f.fair);
  lost_power = λ d f. power_framed d f (fair_kept.lost_power d f.fair);
  held = λ d fault f. record { fair = fair_kept.held d fault f.fair; un = λ home. (held_uncached d (f.un home)).0 };
  resumed = λ d pair f. record { fair = fair_kept.resumed d pair f.fair; un = λ home. (held_uncached d (f.un home)).1 };
  replaced = λ d side fault f. replace_framed d f side fault (fair_kept.replaced d side fault f.fair);
  lent = λ x y fault e f. lend_framed y f x.store.device (fair_kept.lent x y fault e.fair f.fair);
  joins = λ d single f. record { fair = fair_kept.joins d single f.fair; un = λ home. (joined_uncached d (f.un home)).0 };
  splits = λ d fault f. record { fair = fair_kept.splits d fault f.fair; un = λ home. (joined_uncached d (f.un home)).1 };
  restored = λ d a is f. restored_framed d f (lent_is d.store.lent a is) (fair_kept.restored d a is f.fair);
}

-- The run

pub new_framed : (number : ℕ) (on : Geometry) (n : ℕ) (v : List Track) (plans : Plans) → Fair (device_on number on n v plans) →
    Framed (device_on number on n v plans)
new_framed number on n v plans fair = record {
  fair = fair;
  un = λ home none. record {
    up = refl;
    kept = λ t. empty_places (n * 15) t false;
    half = λ h is. absurd (cc);
    framed = λ q other patched.
        let past : patch_at (store_on number on n v) q ≡ None = empty_places (n * 15) q None in
        absurd (let both : false ≡ true = sym (ap (λ (o : Option (Unit {0})). is_some o) past) ∙ patched in cc);
  };
}

opened_framed : (firsts : Firsts) (deck : DeckLines) (ds : List DeviceLine) → All (λ (d : DeviceLine). 1 ≤ d.cylinders) ds → AreSo Framed (map (opened_device_on firsts deck) ds)
opened_framed firsts deck [] h = tt
opened_framed firsts deck (d ∷ ds) h = (
  new_framed d.number d.geometry d.cylinders (firsts d.number d.cylinders) _
      (new_fair d.number d.geometry d.cylinders (firsts d.number d.cylinders) _ (All-head (λ (d : DeviceLine). 1 ≤ d.cylinders) d ds h)),
  opened_framed firsts deck ds (All-tail (λ (d : DeviceLine). 1 ≤ d.cylinders) d ds h),
)

-- one that is lent has none either
pub excuses_tracks : (d : MarksDevice) → Framed d → HasExcusedTracks d
excuses_tracks d f may =
    by_lent d (λ home. excused_tracks d.store (f.fair.un home) (f.un home) may) (λ away. kept_counts d.store (f.fair.good.gone away).store.lost)

pub run_excuses_tracks : (firsts : Firsts) (deck : DeckLines) → IsServedDeck deck → All HaveExcusedTracks (run_on firsts deck).events
unfolding D.run_asked_on
run_excuses_tracks firsts deck h =
    behind_weaker Framed HasExcusedTracks excuses_tracks (run_on firsts deck).events
    (run_keeps Framed framed_kept (map asked_by deck.events) (opened_on firsts deck) (opened_framed firsts deck deck.devices h.devices))
