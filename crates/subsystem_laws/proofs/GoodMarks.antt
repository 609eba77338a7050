-- Behind every event of a run each device has good marks, or is lent and keeps nothing of its tracks; and its chain is on the device.
use Rattle.std.proofs.Common.{◌≡◌, ◌<◌, ◌≤◌, ◌*◌, ◌==◌, ℕ, Bool, true, false, List, [], ◌∷◌, map, Option, Some, None, is_some, refl, sym, ap, subst, ◌∙◌, arith}
use Rattle.std.proofs.lemmas.List.{length-replicate}
use Rattle.std.proofs.lemmas.List.Elements.{All-head, All-tail}
use Rattle.std.specs.Prelude.{All, not, ◌&&◌, ◌||◌}
use Rattle.ckd_chain.specs.State.{ChainState}
use Rattle.ckd_types.specs.declared.geometry.Geometry.{Geometry}
use Rattle.ckd_types.specs.declared.paths.Side.{Side}
use Rattle.ckd_types.specs.declared.paths.Side.TheVariants.{A, B}
use Rattle.ckd_types.specs.declared.record.Track.{Track}
use Rattle.deck_text.specs.declared.line.DeviceLine.{DeviceLine}
use Rattle.deck_text.specs.DeckLines.{DeckLines}
use Rattle.loss_model.specs.declared.Loss.{Loss}
use Rattle.loss_model.specs.declared.Loss.TheVariants as losses
use Rattle.track_table.proofs.Places.{empty_places}
use Rattle.plain_defs.specs.History.{OpenEntry}
use Rattle.plain_defs.specs.Journal.{Plans}
use Rattle.device_defs.specs.Between.{HasSizes}
use Rattle.device_defs.specs.Command.{command}
use Rattle.device_defs.specs.Contents.{by_plain}
use Rattle.device_defs.specs.Cutting.{reset, power}
use Rattle.device_defs.specs.Events.{second, lose, background}
use Rattle.device_defs.specs.Marks.{MarksDevice, MarksStore}
use Rattle.device_defs.specs.Orders.{join, split, restore, hold_side, resume, replace, lend}
use Rattle.device_defs.specs.Peek.{peek}
use Rattle.device_defs.specs.Start as S
use Rattle.device_defs.specs.Start.{fault_by, start_fault, start, next_program}
use Rattle.device_defs.specs.Store.{HalfWrite, tracks_of, stale_at, is_lost, half_is, side_of, store_fixed}
use Rattle.device_laws.specs.NewDevice.{device_on, store_on}
use Rattle.device_laws.specs.Standing.{IsWithin}
use Rattle.device_laws.specs.Unharmed.{MarksAreGood}
use Rattle.device_laws.proofs.BasedEvents.{command_based, second_based, background_based, lose_based, peek_based, power_based, reset_body}
use Rattle.device_laws.proofs.Changes as C
use Rattle.device_laws.proofs.ChainTracks.{within_stays, whole_cylinders}
use Rattle.device_laws.proofs.Commands.{command_keeps_good}
use Rattle.device_laws.proofs.FailedCall.{IsWell}
use Rattle.device_laws.proofs.GoneEvents.{Gone, background_away, loss_away, power_away, reset_away, lend_away, restored_well}
use Rattle.device_laws.proofs.LossEvents.{loss_keeps_good}
use Rattle.device_laws.proofs.OrderMarks.{join_keeps_good, replace_keeps_good, split_keeps_good, hold_keeps_good, resume_keeps_good}
use Rattle.device_laws.proofs.Powers.{power_keeps_good}
use Rattle.device_laws.proofs.Soundness.{good_is_sound, good_is_nowhere}
use Rattle.device_laws.proofs.TrackMarks as M
use Rattle.device_laws.proofs.TrackMarks.{marks_are_faithful, marks, is_good, track_at}
use Rattle.device_laws.proofs.WholeEvents.{second_keeps_good, background_keeps_good, peek_keeps_good, reset_keeps_good}
use Rattle.subsystem_defs.specs.declared.end.OrderFault.TheVariants.{Same, Paired, Unpaired, Half, Down}
use Rattle.subsystem_defs.specs.Decks as D
use Rattle.subsystem_defs.specs.Decks.{Firsts, opened_device_on, opened_on, run_on}
use Rattle.subsystem_defs.specs.Lines.{asked_by}
use Rattle.subsystem_defs.specs.Refusals as R
use Rattle.subsystem_defs.specs.Happening.{is_lent_to}
use Rattle.subsystem_defs.specs.Refusals.{pair_fault, suspend_fault, replace_fault, unpair_fault}
use Rattle.subsystem_laws.specs.Causes.{HasGoodMarks, HaveGoodMarks}
use Rattle.subsystem_laws.specs.Served.{IsServedDeck}
use Rattle.subsystem_laws.proofs.Came.{at}
use Rattle.subsystem_laws.proofs.ChainPlaces.{on_is_within, begins_on}
use Rattle.subsystem_laws.proofs.ChainRuns.{HasChainOn, command_on, second_on, background_on, peek_on, lose_on, power_on, reset_on, lend_on}
use Rattle.subsystem_laws.proofs.LendBase.{stays_still, lend_lends}
use Rattle.subsystem_laws.proofs.RunLines.{AnyEvent}
use Rattle.subsystem_laws.proofs.Walks.{IsFree, IsKept, none_lent, AreSo, LeavesSo, run_keeps, behind_weaker}
use Rattle.subsystem_defs.proofs.Unrefused.{first_none, where_none, is_not}
use Rattle.subsystem_laws.proofs.WholeOrders.{is_down}
use Rattle.subsystem_laws.proofs.WholeUnpairs.{not_some, count_none, none_counted}

-- what is kept of a device
pub record Good (d : MarksDevice) : Type 0 where
  pub some : 0 < d.store.cylinders
  pub chain : HasChainOn d.store.cylinders d.chain
  pub well : is_some d.store.lent ≡ false → IsWell by_plain d.store
  pub gone : is_some d.store.lent ≡ true → Gone d

not_both : {X : Type 0} (b : Bool) → b ≡ true → b ≡ false → X
not_both true e f = absurd (cc)
not_both false e f = absurd (cc)

pub by_lent : {X : Type 0} (d : MarksDevice) → (is_some d.store.lent ≡ false → X) → (is_some d.store.lent ≡ true → X) → X
by_lent {X} d home away = by_test (is_some d.store.lent) refl where
  by_test : (b : Bool) → is_some d.store.lent ≡ b → X
  by_test false e = home e
  by_test true e = away e

-- a device that runs a program, or has an open half write, isn't lent
pub runs_home : (d : MarksDevice) → Good d → (o : OpenEntry) → d.history.running ≡ Some o → is_some d.store.lent ≡ false
runs_home d g o running =
    by_lent d (λ e. e) (λ away. absurd (let idle = (g.gone away).idle in let both : None ≡ Some o = sym idle ∙ running in cc))

pub half_home : (d : MarksDevice) → Good d → (h : HalfWrite (Unit {0})) → d.store.half ≡ Some h → is_some d.store.lent ≡ false
half_home d g h is =
    by_lent d (λ e. e) (λ away. absurd (let none = (g.gone away).store.none in let both : None ≡ Some h = sym none ∙ is in cc))

pub home_before : (d y : MarksDevice) → y.store.lent ≡ d.store.lent → (b : Bool) → is_some y.store.lent ≡ b → is_some d.store.lent ≡ b
home_before d y lent b e = sym (ap (λ (x : Option ℕ). is_some x) lent) ∙ e

goes : (d y : MarksDevice) → y.store.cylinders ≡ d.store.cylinders → y.store.lent ≡ d.store.lent → HasChainOn d.store.cylinders y.chain →
    (IsWell by_plain d.store → IsWell by_plain y.store) → (is_some d.store.lent ≡ true → Gone d → Gone y) → Good d → Good y
goes d y cylinders lent chain well gone g = record {
  some = subst (λ (n : ℕ). 0 < n) (sym cylinders) g.some;
  chain = subst (λ (n : ℕ). HasChainOn n y.chain) (sym cylinders) chain;
  well = λ home. well (g.well (home_before d y lent false home));
  gone = λ away. let was = home_before d y lent true away in gone was (g.gone was);
}

start_home : (d : MarksDevice) (path : ℕ) (l : Option ℕ) → fault_by d path l ≡ None → is_some l ≡ false
start_home d path (Some of) e = absurd (cc)
start_home d path None e = refl

-- Events

pub within : (d : MarksDevice) → Good d → (chain : ChainState) → d.chain ≡ Some chain → IsWithin (d.store.cylinders * 15) chain
within d g chain is = on_is_within d.store.cylinders g.some chain (subst (λ (x : Option ChainState). HasChainOn d.store.cylinders x) is g.chain)

none_active : (r : Option OpenEntry) → R.active_by r ≡ None → r ≡ None
none_active (Some o) e = absurd (cc)
none_active None e = refl

-- a volume that is alone has no open half write
whole_single : (d : MarksDevice) → IsWell by_plain d.store → d.store.paired ≡ false → d.store.half ≡ None
unfolding C.rest_of
whole_single d w single = w.here.whole single

module _ (d : MarksDevice) (g : Good d) where
  command_good : (o : OpenEntry) → d.history.running ≡ Some o → d.store.half ≡ None → LeavesSo Good (command by_plain d)
  command_good o running none = λ t.
      let y = t.state in
      let b = at (stays_still (command_based by_plain d)) t in
      goes d y b.1 b.2 (at (command_on by_plain d.store.cylinders g.some d g.chain) t)
      (λ w. (at (command_keeps_good by_plain marks_are_faithful (tracks_of d.store) (IsWithin (tracks_of d.store))
      (within_stays (tracks_of d.store) (whole_cylinders d.store.cylinders)) d (within d g) refl w none) t).well)
      (λ away x. not_both (is_some d.store.lent) away (runs_home d g o running)) g

  second_good : (h : HalfWrite (Unit {0})) → d.store.half ≡ Some h → LeavesSo Good (second by_plain d)
  second_good h is = λ t.
      let y = t.state in
      let b = at (stays_still (second_based by_plain d)) t in
      goes d y b.1 b.2 (at (second_on by_plain d.store.cylinders g.some d g.chain) t)
      (λ w. (at (second_keeps_good by_plain marks_are_faithful d w) t).well)
      (λ away x. not_both (is_some d.store.lent) away (half_home d g h is)) g

  background_good : d.store.half ≡ None → LeavesSo Good (background by_plain d)
  background_good none = λ t.
      let y = t.state in
      let b = at (stays_still (background_based by_plain d)) t in
      goes d y b.1 b.2 (at (background_on by_plain d.store.cylinders g.some d g.chain) t)
      (λ w. (at (background_keeps_good by_plain marks_are_faithful d w none) t).well) (λ away x. at (background_away by_plain d x) t) g

  -- a look past the channel
  pub peek_good : is_some d.store.lent ≡ false → (n : ℕ) → n < tracks_of d.store → LeavesSo Good (peek by_plain d n)
  peek_good home n lt = λ t.
      let y = t.state in
      let b = at (stays_still (peek_based by_plain d n)) t in
      goes d y b.1 b.2 (at (peek_on by_plain d.store.cylinders g.some d n g.chain) t)
      (λ w. (at (peek_keeps_good by_plain marks_are_faithful d n lt w) t).well) (λ away x. not_both (is_some d.store.lent) away home) g

  loss_good : (loss : Loss) → (is_some d.store.lent ≡ true → (side : Side) → loss ≡ losses.Side side → ⊥) → LeavesSo Good (lose by_plain d loss)
  loss_good loss other = λ t.
      let y = t.state in
      let b = at (stays_still (lose_based by_plain d loss)) t in
      goes d y b.1 b.2 (at (lose_on by_plain d.store.cylinders g.some d loss g.chain) t)
      (λ w. (at (loss_keeps_good by_plain marks_are_faithful d loss w) t).well) (λ away x. at (loss_away by_plain d loss (other away) x) t) g

  side_good : (side : Side) → is_some d.store.lent ≡ false → LeavesSo Good (lose by_plain d (losses.Side side))
  side_good side home = loss_good (losses.Side side) (λ away s is. not_both (is_some d.store.lent) away home)

  power_good : LeavesSo Good (power by_plain d)
  power_good = λ t.
      let y = t.state in
      let b = at (stays_still (power_based by_plain d)) t in
      goes d y b.1 b.2 (at (power_on by_plain d.store.cylinders g.some d) t)
      (λ w. (at (power_keeps_good by_plain marks_are_faithful d w) t).well) (λ away x. at (power_away by_plain d x) t) g

  reset_good : (path : ℕ) → LeavesSo Good (reset by_plain d path)
  reset_good path = λ t.
      let y = t.state in
      let b = at (stays_still (reset_body by_plain d path)) t in
      goes d y b.1 b.2 (at (reset_on by_plain d.store.cylinders g.some d path g.chain) t)
      (λ w. (at (reset_keeps_good by_plain marks_are_faithful d path w) t).well) (λ away x. at (reset_away by_plain d path x) t) g

  start_good : (path : ℕ) → start_fault d path ≡ None → Good (start d path)
  unfolding S.start S.start_fault
  start_good path e = record {
    some = g.some;
    chain = begins_on d.store.cylinders g.some (next_program d path) (store_fixed d.store) refl;
    well = g.well;
    gone = λ away. not_both (is_some d.store.lent) away (start_home d path d.store.lent e);
  }

  -- Orders

  lend_good : (x : MarksDevice) (to : ℕ) → pair_fault x d ≡ None → LeavesSo Good (lend by_plain d to)
  unfolding R.pair_fault
  lend_good x to fault = λ t.
      let y = t.state in
      let e = lend_lends d to t in
      let lent : is_some y.store.lent ≡ true = ap (λ (o : Option ℕ). is_some o) e.lent in
      let a = first_none (R.where_so (x.store.device == d.store.device) Same) _ fault in
      let b = first_none (R.lent_by x.store.lent) _ a.1 in
      let c = first_none (R.lent_by d.store.lent) _ b.1 in
      let f = first_none (R.where_so x.store.paired Paired) _ c.1 in
      let h = first_none (R.where_so d.store.paired Paired) _ f.1 in
      let i = first_none (R.active_by x.history.running) _ h.1 in
      let j = first_none (R.active_by d.history.running) _ i.1 in
      let w = g.well (none_lent d.store.lent c.0) in
      let single = where_none d.store.paired Paired h.0 in
      record {
        some = subst (λ (n : ℕ). 0 < n) (sym e.cylinders) g.some;
        chain = subst (λ (n : ℕ). HasChainOn n y.chain) (sym e.cylinders) (at (lend_on by_plain d.store.cylinders g.some d to g.chain) t);
        well = λ home. not_both (is_some y.store.lent) lent home;
        gone = λ away. at (lend_away by_plain marks_are_faithful d to w single (whole_single d w single) (none_active d.history.running j.0)) t;
      }

  -- a pair isn't lent
  not_single : {X : Type 0} → d.store.paired ≡ true → is_some d.store.lent ≡ true → X
  not_single paired away = not_both d.store.paired paired (g.gone away).store.single

  hold_good : suspend_fault d ≡ None → Good (hold_side d)
  unfolding R.suspend_fault
  hold_good e = record {
    some = g.some;
    chain = g.chain;
    well = λ home. (hold_keeps_good by_plain marks_are_faithful d (g.well home)).well;
    gone = not_single (is_not d.store.paired (where_none (not d.store.paired) Unpaired (first_none (R.where_so (not d.store.paired) Unpaired) _ e).0));
  }

  resume_good : (is_some d.store.lent ≡ true → d.store.paired ≡ true) → Good (resume d)
  resume_good pair = record {
    some = g.some;
    chain = g.chain;
    well = λ home. (resume_keeps_good by_plain marks_are_faithful d (g.well home)).well;
    gone = λ away. not_single (pair away) away;
  }

  join_good : IsFree d → Good (join d)
  join_good free = record {
    some = g.some;
    chain = g.chain;
    well = λ home. (join_keeps_good by_plain marks_are_faithful d (g.well home) free.0).well;
    gone = λ away. not_both (is_some d.store.lent) away free.1;
  }

  split_good : unpair_fault d ≡ None → Good (split d)
  unfolding R.unpair_fault
  split_good e =
      let a = first_none (R.where_so (not d.store.paired) Unpaired) _ e in
      let b = first_none (R.active_by d.history.running) _ a.1 in
      let c = first_none (R.where_so (is_some d.store.half) Half) _ b.1 in
      let f = first_none (R.where_so (not d.store.a.up) Down) _ c.1 in
      let h = first_none (R.not_level_by (R.stale_count d.store)) _ f.1 in
      record {
        some = g.some;
        chain = g.chain;
        well = λ home.
            (split_keeps_good by_plain marks_are_faithful d (g.well home) (not_some d.store.half (where_none (is_some d.store.half) Half c.0))
            (is_not d.store.a.up (where_none (not d.store.a.up) Down f.0))
            (none_counted (tracks_of d.store) (stale_at d.store.a) (count_none (R.stale_count d.store) h.0))).well;
        gone = not_single (is_not d.store.paired (where_none (not d.store.paired) Unpaired a.0));
      }

  paired_by : (side : Side) → R.has_side d.store side ≡ true → side ≡ B → d.store.paired ≡ true
  paired_by A e is = absurd (cc)
  paired_by B e is = e

  side_same : (side : Side) → IsWell by_plain (replace d side).store → is_some d.store.lent ≡ false → Good (replace d side)
  side_same A w home = record { some = g.some; chain = g.chain; well = λ _. w; gone = λ away. not_both (is_some d.store.lent) away home }
  side_same B w home = record { some = g.some; chain = g.chain; well = λ _. w; gone = λ away. not_both (is_some d.store.lent) away home }

  replace_good : (side : Side) → replace_fault d side ≡ None → Good (replace d side)
  unfolding R.replace_fault
  replace_good side e =
      let facts = is_down d.store.lent (R.has_side d.store side) (side_of d.store side).up _ e in
      side_same side (replace_keeps_good by_plain marks_are_faithful d side (g.well facts.2) facts.0 (paired_by side facts.1)).well facts.2

  pub restore_good : is_some d.store.lent ≡ true → Good (restore d)
  restore_good away = record {
    some = g.some;
    chain = g.chain;
    well = λ home. restored_well by_plain marks_are_faithful d (g.gone away).store;
    gone = λ still. absurd (cc);
  }

pub lent_is : (l : Option ℕ) (a : ℕ) → is_lent_to l a ≡ true → is_some l ≡ true
lent_is (Some to) a e = refl
lent_is None a e = absurd (cc)

pub good_kept : IsKept Good AnyEvent
good_kept = record {
  started = λ d path n may fault g. start_good d g path fault;
  commanded = λ d o running whole g. command_good d g o running whole;
  seconded = λ d h is g. second_good d g h is;
  worked = λ d whole g. background_good d g whole;
  cut = λ d path g. reset_good d g path;
  lost_cache = λ d g. loss_good d g losses.Cache (λ away side is. absurd (cc));
  lost_store = λ d g. loss_good d g losses.Store (λ away side is. absurd (cc));
  lost_side = λ d side home g. side_good d g side home;
  lost_power = λ d g. power_good d g;
  held = λ d fault g. hold_good d g fault;
  resumed = λ d pair g. resume_good d g pair;
  replaced = λ d side fault g. replace_good d g side fault;
  lent = λ x y fault f g. lend_good y g x x.store.device fault;
  joins = λ d free g. join_good d g free;
  splits = λ d fault g. split_good d g fault;
  restored = λ d a is g. restore_good d g (lent_is d.store.lent a is);
}

-- A new device

module _ (number : ℕ) (on : Geometry) (n : ℕ) (v : List Track) where
  abbrev s : MarksStore
  s = store_on number on n v

  new_sizes : HasSizes s
  new_sizes = record {
    are =
        rw (
          length-replicate (n * 15) false,
          length-replicate {A = Option Bool} (n * 15) None,
          length-replicate {A = Option (Unit {0})} (n * 15) None,
          length-replicate (n * 15) _,
        ) refl;
  }

  new_marks : (f : Option Bool) (p : Option (Unit {0})) (l o b : Bool) → f ≡ None → p ≡ None → l ≡ false → o ≡ false → b ≡ false →
      is_good (marks (M.frame_mark by_plain f) (is_some p) l o false ((true && not b) || (false && not false))) ≡ true
  new_marks None None false false false e f g h i = refl
  new_marks (Some x) p l o b e f g h i = absurd (cc)
  new_marks None (Some x) l o b e f g h i = absurd (cc)
  new_marks None None true o b e f g h i = absurd (cc)
  new_marks None None false true b e f g h i = absurd (cc)
  new_marks None None false false true e f g h i = absurd (cc)

  pub new_well : IsWell by_plain s
  unfolding M.track_at C.rest_of
  new_well = record {
    sizes = new_sizes;
    here = record { free = refl; alone = λ e. refl; whole = λ e. refl; within = λ h e. absurd (cc); queued = tt };
    good = λ q lt. new_marks _ _ _ _ _ (empty_places (n * 15) q None) (empty_places (n * 15) q None) (empty_places (n * 15) q false)
        (empty_places (n * 15) q false) (empty_places (n * 15) q false);
    kept = λ q lt e. absurd (cc);
  }

pub new_good : (number : ℕ) (on : Geometry) (n : ℕ) (v : List Track) (plans : Plans) → 1 ≤ n → Good (device_on number on n v plans)
new_good number on n v plans some = record { some = omega (arith, some); chain = tt; well = λ home. new_well number on n v; gone = λ away. absurd (cc) }

pub opened_good : (firsts : Firsts) (deck : DeckLines) (ds : List DeviceLine) → All (λ (d : DeviceLine). 1 ≤ d.cylinders) ds → AreSo Good (map (opened_device_on firsts deck) ds)
opened_good firsts deck [] h = tt
opened_good firsts deck (d ∷ ds) h =
    let some = All-head (λ (d : DeviceLine). 1 ≤ d.cylinders) d ds h in (
      record { some = omega (arith, some); chain = tt; well = λ home. new_well d.number d.geometry d.cylinders (firsts d.number d.cylinders); gone = λ away. absurd (cc) },
      opened_good firsts deck ds (All-tail (λ (d : DeviceLine). 1 ≤ d.cylinders) d ds h),
    )

-- Good marks

there_by : (s : MarksStore) (h : HalfWrite (Unit {0})) → s.half ≡ Some h → IsWell by_plain s → h.track < tracks_of s → is_lost s h.track ≡ false
unfolding M.track_at
there_by s h is w lt =
    w.kept h.track lt
    (ap (λ (o : Option (HalfWrite (Unit {0}))). half_is o h.track) is ∙ (let own : (h.track == h.track) ≡ true = grind arith in own))

marks_good : (s : MarksStore) → IsWell by_plain s → MarksAreGood by_plain s
unfolding C.rest_of
marks_good s w = record {
  sizes = w.sizes;
  free = w.here.free;
  alone = w.here.alone;
  whole = w.here.whole;
  marks = λ t lt. good_is_sound by_plain s t (w.good t lt);
  queued = w.here.queued;
  nowhere = λ t lt lost. good_is_nowhere by_plain s t (w.good t lt) lost;
  within = w.here.within;
  there = λ h is. there_by s h is w (w.here.within h is);
}

pub run_has_good_marks : (firsts : Firsts) (deck : DeckLines) → IsServedDeck deck → All HaveGoodMarks (run_on firsts deck).events
unfolding D.run_asked_on
run_has_good_marks firsts deck h =
    behind_weaker Good HasGoodMarks (λ d g. λ home. marks_good d.store (g.well home)) (run_on firsts deck).events
    (run_keeps Good good_kept (map asked_by deck.events) (opened_on firsts deck) (opened_good firsts deck deck.devices h.devices))
