-- In a run no track is lost of a device that was never lent, while none of its sides and not the store was lost and no call failed.
use Rattle.std.proofs.Common.{◌≡◌, ◌<◌, ◌≤◌, ◌+◌, ℕ, Bool, true, false, List, [], ◌∷◌, map, Option, None, is_some, min, refl, sym, ap, subst, ◌∙◌, arith, inr}
use Rattle.std.proofs.lemmas.List.Elements.{All-head, All-tail}
use Rattle.std.specs.Prelude.{All, not, ◌*◌}
use Rattle.ckd_types.specs.declared.geometry.Geometry.{Geometry}
use Rattle.ckd_types.specs.declared.paths.Side.{Side}
use Rattle.ckd_types.specs.declared.paths.Side.TheVariants as sides
use Rattle.ckd_types.specs.declared.record.Track.{Track}
use Rattle.deck_text.specs.declared.line.DeviceLine.{DeviceLine}
use Rattle.deck_text.specs.DeckLines.{DeckLines}
use Rattle.loss_model.specs.declared.Loss.{Loss}
use Rattle.loss_model.specs.declared.Loss.TheVariants as losses
use Rattle.track_image.specs.Image.{Image}
use Rattle.track_table.proofs.Places.{empty_places}
use Rattle.device_outside.specs.Interaction.{Interaction}
use Rattle.device_outside.specs.Pool.{Call}
use Rattle.device_outside.specs.Volume as V
use Rattle.device_outside.specs.Volume.{counted, counted_if}
use Rattle.device_defs.specs.declared.counts.Counts.{Counts}
use Rattle.device_defs.specs.declared.counts.Losses.{Losses}
use Rattle.device_defs.specs.Command.{command}
use Rattle.device_defs.specs.Contents.{by_plain}
use Rattle.device_defs.specs.Cutting.{reset, power}
use Rattle.device_defs.specs.Events.{second, lose, background}
use Rattle.device_defs.specs.Marks.{MarksDevice}
use Rattle.plain_defs.specs.Journal.{Plans}
use Rattle.device_defs.specs.Orders.{restore, replace, lend}
use Rattle.device_defs.specs.Peek.{peek}
use Rattle.device_defs.specs.Start as S
use Rattle.device_defs.specs.Start.{start}
use Rattle.device_defs.specs.Store.{tracks_of, level_at, stale_at, side_of}
use Rattle.device_laws.specs.NewDevice.{device_on}
use Rattle.device_laws.specs.Unharmed.{NothingLost, IsWholeOnA, IsUnharmed}
use Rattle.device_laws.proofs.Always as A
use Rattle.device_laws.proofs.Always.{Behind, Always}
use Rattle.device_laws.proofs.Based.{Base, Any, Based, kept, based_any, based_done, based_try, based_ask, based_read, based_write, based_tell}
use Rattle.device_laws.proofs.BasedEvents.{base_in, with_one_loss, command_based, second_based, background_based, lose_based, peek_based, power_based, reset_body}
use Rattle.device_laws.proofs.Harmless.{cache_goes, power_goes, reset_goes}
use Rattle.device_laws.proofs.LossLaws.{whole_behind, some_counted, kept_counts, unharmed_counts, held_unharmed, joined_unharmed, replaced_unharmed}
use Rattle.device_laws.proofs.Lucky.{top, failed_in, never_falls, where_none_failed}
use Rattle.device_laws.proofs.TrackMarks.{marks_are_faithful}
use Rattle.device_laws.proofs.Unlost.{core_of, Fine, has_a}
use Rattle.device_laws.proofs.UnlostParts.{DeviceGoes}
use Rattle.device_laws.proofs.invariants.NoTrackIsLost.{command_goes, background_goes, peek_goes, second_event_goes}
use Rattle.subsystem_defs.specs.Decks as D
use Rattle.subsystem_defs.specs.Decks.{Firsts, opened_device_on, opened_on, run_on}
use Rattle.subsystem_defs.specs.Lines.{asked_by}
use Rattle.subsystem_defs.specs.Refusals as R
use Rattle.subsystem_defs.specs.Refusals.{replace_fault, pair_fault, unpair_fault}
use Rattle.subsystem_laws.specs.Causes.{KeepsTracks, KeepTracks}
use Rattle.subsystem_laws.specs.Served.{IsServedDeck}
use Rattle.subsystem_laws.specs.Came.{CameTo}
use Rattle.subsystem_laws.proofs.Came.{at}
use Rattle.subsystem_laws.proofs.GoodMarks.{Good, good_kept, home_before, by_lent, lent_is, restore_good, new_good}
use Rattle.subsystem_laws.proofs.LendBase.{stays_still, lend_lends, lend_based, lent_counts}
use Rattle.subsystem_laws.proofs.RunLines.{AnyEvent}
use Rattle.subsystem_laws.proofs.Walks.{IsKept, AreSo, LeavesSo, run_keeps, behind_weaker}
use Rattle.subsystem_laws.proofs.WholeOrders.{is_down}

pub record Fair (d : MarksDevice) : Type 0 where
  pub good : Good d
  pub most : d.store.counts.failed ≤ top
  pub un : is_some d.store.lent ≡ false → IsUnharmed d.store

-- A count of failed calls isn't above the greatest number

one_at_most : (n : ℕ) → counted n ≤ top
unfolding V.counted
one_at_most n = least_of (n + 1) top where
  least_of : (x y : ℕ) → min x y ≤ y
  least_of x y = omega arith

if_at_most : (b : Bool) (n : ℕ) → n ≤ top → counted_if b n ≤ top
if_at_most true n le = one_at_most n
if_at_most false n le = le

most_behind : {R S X : Type 0} {base : S → Base} {may : Call → Type 0} {b : Base} {i : Interaction R Image S X} → Based base may b i → failed_in b ≤ top →
    Behind i (λ s a. failed_in (base s) ≤ top)
unfolding A.Behind
most_behind (based_done e) le = subst (λ (x : Base). failed_in x ≤ top) (sym e) le
most_behind (based_try x) le = λ ok. most_behind (x ok) le
most_behind (based_ask m x) le = λ a. most_behind (x a) le
most_behind {b = b} (based_read x) le = λ got. most_behind (x got) (if_at_most (not (is_some got)) (failed_in b) le)
most_behind {b = b} (based_write x) le = λ ok. most_behind (x ok) (if_at_most (not ok) (failed_in b) le)
most_behind (based_tell x) le = λ r. most_behind (x r) le

stays_most : {R S X : Type 0} {base : S → Base} {may : Call → Type 0} {b : Base} {i : Interaction R Image S X} → Based base may b i → failed_in b ≤ top →
    Always i (λ s a. failed_in (base s) ≤ top)
stays_most x le = record { holds = most_behind x le }

-- Events

pub none_less : (n m : ℕ) → n ≤ m → m ≡ 0 → n ≡ 0
none_less n m le is = omega (arith, le, is)

pub below_top : (n : ℕ) → n ≡ 0 → n < top
below_top n is = omega (arith, is)

module _ (d : MarksDevice) (f : Fair d) where
  -- in which of sides and store none more is lost
  unharmed_at : {X : Type 0} (b : Base) (i : Interaction Bool Image MarksDevice X) → failed_in b ≡ d.store.counts.failed →
      b.counts.losses.sides ≡ d.store.counts.losses.sides → b.counts.losses.store ≡ d.store.counts.losses.store → Based base_in Any b i →
      (IsWholeOnA d.store → DeviceGoes by_plain d.store i) → IsUnharmed d.store → (t : CameTo i) → IsUnharmed t.state.store
  unharmed_at b i failed sides store x goes un t n =
      let y = t.state in
      let losses_are = (at (stays_still x) t).3 in
      let le : failed_in b ≤ top = subst (λ (k : ℕ). k ≤ top) (sym failed) f.most in
      let none : failed_in b ≡ 0 = none_less (failed_in b) y.store.counts.failed (at (never_falls x le) t) n.failed in
      let before : NothingLost d.store = record {
        sides = sym sides ∙ ap (λ (l : Losses). l.sides) (sym losses_are) ∙ n.sides;
        failed = sym failed ∙ none;
        store = sym store ∙ ap (λ (l : Losses). l.store) (sym losses_are) ∙ n.store;
      } in
      let whole = un before in
      whole_behind d.store y.store
      (at (where_none_failed (λ z _. Fine (core_of d.store) (core_of z.store)) x (below_top (failed_in b) none) (goes whole)) t (n.failed ∙ sym none)) whole

  command_fair : (good : LeavesSo Good (command by_plain d)) → d.store.half ≡ None → LeavesSo Fair (command by_plain d)
  command_fair good none = λ t.
      let y = t.state in
      let x = command_based by_plain d in
      let b = at (stays_still x) t in
      record {
        good = good t;
        most = at (stays_most x f.most) t;
        un = λ home.
            let was = home_before d y b.2 false home in
            unharmed_at (kept d.store) (command by_plain d) refl refl refl x
            (λ _. command_goes by_plain marks_are_faithful d (f.good.well was)) (f.un was) t;
      }

  second_fair : (good : LeavesSo Good (second by_plain d)) → LeavesSo Fair (second by_plain d)
  second_fair good = λ t.
      let y = t.state in
      let x = second_based by_plain d in
      let b = at (stays_still x) t in
      record {
        good = good t;
        most = at (stays_most x f.most) t;
        un = λ home.
            let was = home_before d y b.2 false home in
            unharmed_at (kept d.store) (second by_plain d) refl refl refl x
            (λ whole. second_event_goes by_plain marks_are_faithful d (f.good.well was)
            (λ h is. inr (has_a d.store.a.up (stale_at d.store.a h.track) (level_at d.store.b h.track) whole.up (whole.level h.track)))) (f.un was) t;
      }

  background_fair : (good : LeavesSo Good (background by_plain d)) → LeavesSo Fair (background by_plain d)
  background_fair good = λ t.
      let y = t.state in
      let x = background_based by_plain d in
      let b = at (stays_still x) t in
      record {
        good = good t;
        most = at (stays_most x f.most) t;
        un = λ home.
            let was = home_before d y b.2 false home in
            unharmed_at (kept d.store) (background by_plain d) refl refl refl x
            (λ _. background_goes by_plain marks_are_faithful d (f.good.well was)) (f.un was) t;
      }

  pub peek_fair : (n : ℕ) → LeavesSo Good (peek by_plain d n) → LeavesSo Fair (peek by_plain d n)
  peek_fair n good = λ t.
      let y = t.state in
      let x = peek_based by_plain d n in
      let b = at (stays_still x) t in
      record {
        good = good t;
        most = at (stays_most x f.most) t;
        un = λ home.
            let was = home_before d y b.2 false home in
            unharmed_at (kept d.store) (peek by_plain d n) refl refl refl x
            (λ whole. peek_goes by_plain marks_are_faithful d n (f.good.well was)
            (λ h is. inr (has_a d.store.a.up (stale_at d.store.a h.track) (level_at d.store.b h.track) whole.up (whole.level h.track)))) (f.un was) t;
      }

  reset_fair : (path : ℕ) → LeavesSo Fair (reset by_plain d path)
  reset_fair path = λ t.
      let y = t.state in
      let x = based_any (reset_body by_plain d path) in
      let b = at (stays_still x) t in
      record {
        good = good_kept.cut d path f.good t;
        most = at (stays_most x f.most) t;
        un = λ home.
            let was = home_before d y b.2 false home in
            unharmed_at (kept d.store) (reset by_plain d path) refl refl refl x (λ _. reset_goes by_plain marks_are_faithful d path) (f.un was) t;
      }

  power_fair : LeavesSo Fair (power by_plain d)
  power_fair = λ t.
      let y = t.state in
      let x = power_based by_plain d in
      let b = at (stays_still x) t in
      record {
        good = good_kept.lost_power d f.good t;
        most = at (stays_most x f.most) t;
        un = λ home.
            let was = home_before d y b.2 false home in
            unharmed_at (with_one_loss losses.Cache (kept d.store)) (power by_plain d) refl refl refl x
            (λ whole. power_goes by_plain d whole) (f.un was) t;
      }

  loss_un : (loss : Loss) (t : CameTo (lose by_plain d loss)) → is_some d.store.lent ≡ false → IsUnharmed t.state.store
  loss_un losses.Cache t was n =
      unharmed_at (with_one_loss losses.Cache (kept d.store)) (lose by_plain d losses.Cache) refl refl refl (lose_based by_plain d losses.Cache)
      (λ whole. cache_goes by_plain d whole) (f.un was) t n
  loss_un losses.Store t was n =
      absurd (some_counted d.store.counts.losses.store
      (ap (λ (l : Losses). l.store) (sym (at (stays_still (lose_based by_plain d losses.Store)) t).3) ∙ n.store))
  loss_un (losses.Side side) t was n =
      absurd (some_counted d.store.counts.losses.sides
      (ap (λ (l : Losses). l.sides) (sym (at (stays_still (lose_based by_plain d (losses.Side side))) t).3) ∙ n.sides))

  loss_fair : (loss : Loss) (good : LeavesSo Good (lose by_plain d loss)) → LeavesSo Fair (lose by_plain d loss)
  loss_fair loss good = λ t.
      let y = t.state in
      let x = lose_based by_plain d loss in
      let b = at (stays_still x) t in
      record {
        good = good t;
        most = at (stays_most x f.most) t;
        un = λ home. loss_un loss t (home_before d y b.2 false home);
      }

  start_fair : (path : ℕ) (good : Good (start d path)) → Fair (start d path)
  unfolding S.start
  start_fair path good = record { good = good; most = f.most; un = λ home. f.un home }

  -- Orders

  lend_fair : (to : ℕ) (good : LeavesSo Good (lend by_plain d to)) → LeavesSo Fair (lend by_plain d to)
  lend_fair to good = λ t.
      let y = t.state in
      let e = lend_lends d to t in
      record {
        good = good t;
        most = at (stays_most (lend_based d to) (subst (λ (c : Counts). c.failed ≤ top) (sym (lent_counts d to)) f.most)) t;
        un = λ home. absurd (let lent : is_some y.store.lent ≡ true = ap
            (λ (x : Option ℕ). is_some x) e.lent in let both : true ≡ false = sym lent ∙ home in cc);
      }

  pub replace_same : (side : Side) → ((replace d side).store.counts.failed ≡ d.store.counts.failed) × ((replace d side).store.lent ≡ d.store.lent)
  replace_same sides.A = (refl, refl)
  replace_same sides.B = (refl, refl)

  replace_fair : (side : Side) → replace_fault d side ≡ None → Good (replace d side) → Fair (replace d side)
  unfolding R.replace_fault
  replace_fair side e good =
      let facts = is_down d.store.lent (R.has_side d.store side) (side_of d.store side).up _ e in
      let same = replace_same side in
      record {
        good = good;
        most = subst (λ (n : ℕ). n ≤ top) (sym same.0) f.most;
        un = λ home. replaced_unharmed d (f.un (home_before d (replace d side) same.1 false home)) side facts.0;
      }

-- one that gets its volume back has no lost track
restored_fair : (d : MarksDevice) → Fair d → is_some d.store.lent ≡ true → Fair (restore d)
restored_fair d f away = record {
  good = restore_good d f.good away;
  most = f.most;
  un = λ home nothing. record { up = refl; level = λ t. empty_places (tracks_of d.store) t false; kept = (f.good.gone away).store.lost };
}

pub fair_kept : IsKept Fair AnyEvent
fair_kept = record {
  started = λ d path n may fault f. start_fair d f path (good_kept.started d path n may fault f.good);
  commanded = λ d o running whole f. command_fair d f (good_kept.commanded d o running whole f.good) whole;
  seconded = λ d h is f. second_fair d f (good_kept.seconded d h is f.good);
  worked = λ d whole f. background_fair d f (good_kept.worked d whole f.good);
  cut = λ d path f. reset_fair d f path;
  lost_cache = λ d f. loss_fair d f losses.Cache (good_kept.lost_cache d f.good);
  lost_store = λ d f. loss_fair d f losses.Store (good_kept.lost_store d f.good);
  lost_side = λ d side home f. loss_fair d f (losses.Side side) (good_kept.lost_side d side home f.good);
  lost_power = λ d f. power_fair d f;
  held = λ d fault f. record { good = good_kept.held d fault f.good; most = f.most; un = λ home. (held_unharmed d (f.un home)).0 };
  resumed = λ d pair f. record { good = good_kept.resumed d pair f.good; most = f.most; un = λ home. (held_unharmed d (f.un home)).1 };
  replaced = λ d side fault f. replace_fair d f side fault (good_kept.replaced d side fault f.good);
  lent = λ x y fault e f. lend_fair y f x.store.device (good_kept.lent x y fault e.good f.good);
  joins = λ d single f. record { good = good_kept.joins d single f.good; most = f.most; un = λ home. (joined_unharmed d (f.un home)).0 };
  splits = λ d fault f. record { good = good_kept.splits d fault f.good; most = f.most; un = λ home. (joined_unharmed d (f.un home)).1 };
  restored = λ d a is f. restored_fair d f (lent_is d.store.lent a is);
}

pub new_fair : (number : ℕ) (on : Geometry) (n : ℕ) (v : List Track) (plans : Plans) → 1 ≤ n → Fair (device_on number on n v plans)
new_fair number on n v plans some = record {
  good = new_good number on n v plans some;
  most = omega arith;
  un = λ home none. record { up = refl; level = λ t. empty_places (n * 15) t false; kept = λ t. empty_places (n * 15) t false };
}

pub opened_fair : (firsts : Firsts) (deck : DeckLines) (ds : List DeviceLine) → All (λ (d : DeviceLine). 1 ≤ d.cylinders) ds → AreSo Fair (map (opened_device_on firsts deck) ds)
opened_fair firsts deck [] h = tt
opened_fair firsts deck (d ∷ ds) h = (
  new_fair d.number d.geometry d.cylinders (firsts d.number d.cylinders) _ (All-head (λ (d : DeviceLine). 1 ≤ d.cylinders) d ds h),
  opened_fair firsts deck ds (All-tail (λ (d : DeviceLine). 1 ≤ d.cylinders) d ds h),
)

-- one that is lent has none either
pub keeps_tracks : (d : MarksDevice) → Fair d → KeepsTracks d
keeps_tracks d f nothing =
    by_lent d (λ home. unharmed_counts d.store (f.un home) nothing) (λ away. kept_counts d.store (f.good.gone away).store.lost)

pub run_loses_no_track : (firsts : Firsts) (deck : DeckLines) → IsServedDeck deck → All KeepTracks (run_on firsts deck).events
unfolding D.run_asked_on
run_loses_no_track firsts deck h =
    behind_weaker Fair KeepsTracks keeps_tracks (run_on firsts deck).events
    (run_keeps Fair fair_kept (map asked_by deck.events) (opened_on firsts deck) (opened_fair firsts deck deck.devices h.devices))
