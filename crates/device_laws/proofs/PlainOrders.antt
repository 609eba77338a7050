-- Orders keep the history of a run's device a plain device's.
use Rattle.std.proofs.Common.{◌≡◌, ◌<◌, ◌*◌, zero, suc, ℕ, true, false, List, [], Option, Some, None, is_some, length, map, set, refl, sym, ap, subst, ◌∙◌}
use Rattle.std.specs.List.{range_with_len}
use Rattle.std.proofs.lemmas.Bool.{cond_both}
use Rattle.std.proofs.lemmas.List.{length-replicate}
use Rattle.std.proofs.lemmas.List.FromFn.{length-map-range_with_len}
use Rattle.ckd_types.specs.declared.record.Track.{Track}
use Rattle.ckd_types.specs.Track.{empty_track}
use Rattle.ckd_types.specs.Volume.{empty_volume, track_in}
use Rattle.plain_defs.specs.History.{OpenEntry, plain_of, state_by, emptied}
use Rattle.plain_defs.specs.Journal.{replay}
use Rattle.plain_defs.specs.PlainState.{PlainState}
use Rattle.device_defs.specs.Contents.{by_plain}
use Rattle.device_defs.specs.Losses as L
use Rattle.device_defs.specs.Losses.{over, without_frame, slot_in}
use Rattle.device_defs.specs.Marks.{MarksDevice, MarksStore}
use Rattle.device_defs.specs.Orders as O
use Rattle.device_defs.specs.Orders.{given_up, lent_to, lend, restore}
use Rattle.device_defs.specs.Owed.{noted_begin, waiting_count}
use Rattle.device_defs.specs.Store.{tracks_of, frame_at, patch_at, owed_at, with_frame}
use Rattle.device_laws.specs.NewDevice.{first_state}
use Rattle.device_laws.proofs.DeviceCuts.{restore_stands}
use Rattle.device_laws.proofs.Had.{Had, had_done, had_then}
use Rattle.device_laws.proofs.HistoryCuts.{emptied_state}
use Rattle.device_laws.proofs.PathsAlong.{restore_keeps}
use Rattle.device_laws.proofs.PlainCommand.{follows_store}
use Rattle.device_laws.proofs.PlainEvents.{none_loose, runs_idle}
use Rattle.device_laws.proofs.PlainStores.{Core, core_of, IsOf, HasPlaces, of_beside}
use Rattle.device_laws.proofs.PlainTurns.{ChainOf, IsMid, Follows, mid_idle, mid_other, home_idle}
use Rattle.device_laws.proofs.PlainWalks.{framed_same, patch_same, ended_same}

-- A device that is lent

abbrev away_core : Core → ℕ → Core
away_core c to = record c { acts = []; lent = Some to }

of_away : (p : PlainState) (c : Core) → IsOf p c → (to : ℕ) → IsOf p (away_core c to)
of_away p c of to = of_beside of p.paths [] c.half (Some to)

over_same : (k : ℕ) (f : ℕ → MarksStore → MarksStore) → ((t : ℕ) (z : MarksStore) → core_of (f t z) ≡ core_of z) → (s : MarksStore) →
    core_of (over k f s) ≡ core_of s
unfolding L.over
over_same zero f h s = refl
over_same (suc k) f h s = h k (over k f s) ∙ over_same k f h s

given_same : (t : ℕ) (z : MarksStore) → core_of (given_up by_plain t z) ≡ core_of z
given_same t z =
    patch_same (without_frame z t) t (slot_in by_plain (patch_at (without_frame z t) t))
    ∙ cond_both (is_some (frame_at z t)) (record (with_frame z t None) { owed = set z.owed t (record (owed_at z t) { dropped = true }) }) z
    (λ (x : MarksStore). core_of x ≡ core_of z) (λ _. framed_same z t None) (λ _. refl)

module _ (num : ℕ) (empty : PlainState) (d : MarksDevice) (f : Follows num empty d) (none : d.history.running ≡ None) where
  away_follows : (to : ℕ) (z : MarksStore) → core_of z ≡ away_core (core_of d.store) to → Follows num empty (record d { store = z })
  away_follows to z e = record {
    number = ap (λ (c : Core). c.device) e ∙ f.number;
    base = subst (λ (c : Core). empty ≡ first_state c.geometry c.cylinders empty.volume) (sym e) f.base;
    some = subst (λ (c : Core). 0 < c.cylinders) (sym e) f.some;
    stands = record { plain = f.stands.plain; due = f.stands.due };
    keeps = f.keeps;
    of = subst (IsOf (plain_of d.plans empty d.history)) (sym e) (of_away (plain_of d.plans empty d.history) (core_of d.store) f.of to);
    places = subst HasPlaces (sym e) f.places;
    before = f.before;
    runs = f.runs;
    chain = subst (λ (c : Core). ChainOf c.geometry c.cylinders f.before) (sym e) f.chain;
    mid = subst (λ (c : Core). IsMid c c.half d.history.running f.before d.chain) (sym e)
        (mid_other (core_of d.store) (away_core (core_of d.store) to) d.store.half d.history.running d.history.running f.before d.chain f.before d.chain none
        f.mid (mid_idle (core_of d.store) d.store.half d.history.running f.before d.chain none f.mid));
    home = home_idle z.lent d.history.running none;
  }

  -- it runs nothing
  pub lend_follows : (to : ℕ) → Had (lend by_plain d to) (λ y (_ : Unit {0}). Follows num empty y)
  unfolding O.lend
  lend_follows to =
      let s = over (tracks_of d.store) (given_up by_plain) (noted_begin d.store) in
      let same = over_same (tracks_of d.store) (given_up by_plain) given_same (noted_begin d.store) in
      had_then {A = Unit {0}} {p = λ y _. Follows num empty y}
      (had_done (away_follows to (lent_to s to) (ap (λ (c : Core). record c { lent = Some to }) same)))
      (λ y a g. had_then (ended_same (waiting_count by_plain d.store) y.store) (λ z _ e. had_done (follows_store num empty y g z e)))

  -- An empty volume

  abbrev s : PlainState
  s = replay d.plans empty d.history.items

  idle_of : IsOf (replay d.plans empty d.history.items) (core_of d.store)
  idle_of = subst (λ (x : PlainState). IsOf x (core_of d.store)) (ap (λ (r : Option OpenEntry). state_by d.plans s r) none) f.of

  empty_by : (k : ℕ) → k ≡ d.store.cylinders * 15 → empty_volume s.cylinders ≡ map empty_track (range_with_len 0 k)
  empty_by k many = ap (λ (i : ℕ). map empty_track (range_with_len 0 i)) (ap (λ (i : ℕ). i * 15) idle_of.cylinders ∙ sym many)

  restored_of : IsOf (record s { volume = empty_volume s.cylinders; loose = [] }) (core_of (restore d).store)
  restored_of =
      let plain = empty_by (length d.store.plain) idle_of.tracks in
      let firm = empty_by (length d.store.firm) (idle_of.firms ∙ idle_of.tracks) in
      let many : length (map empty_track (range_with_len 0 (length d.store.plain))) ≡ d.store.cylinders * 15 =
      length-map-range_with_len empty_track 0 (length d.store.plain) ∙ idle_of.tracks in
      record {
        geometry = idle_of.geometry;
        cylinders = idle_of.cylinders;
        number = idle_of.number;
        volume = plain;
        loose = λ t. sym (none_loose (d.store.cylinders * 15) t);
        firm = λ t. ap (λ (v : List Track). track_in v t) firm;
        firms = length-map-range_with_len empty_track 0 (length d.store.firm) ∙ idle_of.firms
            ∙ sym (length-map-range_with_len empty_track 0 (length d.store.plain));
        looses = length-replicate (d.store.cylinders * 15) false ∙ sym many;
        tracks = many;
      }

  -- it is an empty device's that runs nothing
  pub restore_follows : Follows num empty (restore d)
  restore_follows = record {
    number = f.number;
    base = f.base;
    some = f.some;
    stands = restore_stands empty d f.stands none;
    keeps = restore_keeps empty d f.keeps f.stands none;
    of = subst (λ (x : PlainState). IsOf x (core_of (restore d).store)) (sym (emptied_state d.plans empty d.history f.stands.plain none)) restored_of;
    places = f.places ∙ idle_of.looses ∙ idle_of.tracks ∙ sym (length-replicate (d.store.cylinders * 15) false);
    before = f.before;
    runs = runs_idle d.plans (replay d.plans empty (emptied d.history).items) (emptied d.history).running f.before none;
    chain = f.chain;
    mid = mid_other (core_of d.store) (core_of (restore d).store) d.store.half d.history.running d.history.running f.before d.chain f.before d.chain none f.mid
        (mid_idle (core_of d.store) d.store.half d.history.running f.before d.chain none f.mid);
    home = tt;
  }
