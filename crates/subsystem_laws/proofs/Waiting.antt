-- Behind every event of a run the pool has been told how many tracks of all devices wait, and a repair answers by that.
use Rattle.std.proofs.Common.{
  ◌≡◌,
  ◌+◌,
  ◌*◌,
  ◌==◌,
  zero,
  suc,
  ℕ,
  Bool,
  true,
  false,
  not,
  List,
  [],
  ◌∷◌,
  length,
  map,
  replicate,
  Option,
  Some,
  None,
  is_some,
  set,
  get_or,
  refl,
  sym,
  ap,
  subst,
  ◌∙◌,
  arith,
}
use Rattle.std.proofs.lemmas.List.{get_or-set_same, get_or-set_other, length-set, set-get_or}
use Rattle.std.specs.Prelude.{All, ⊤, IfSome, ◌&&◌, if◌then◌else◌}
use Rattle.ckd_types.specs.declared.geometry.Geometry.{Geometry}
use Rattle.ckd_types.specs.declared.paths.Side.{Side}
use Rattle.ckd_types.specs.declared.paths.Side.TheVariants as sides
use Rattle.deck_text.specs.declared.line.DeviceLine.{DeviceLine}
use Rattle.deck_text.specs.DeckLines.{DeckLines}
use Rattle.deck_text.specs.Plans.{plans_of}
use Rattle.loss_model.specs.declared.Loss.TheVariants as losses
use Rattle.plain_defs.specs.History.{OpenEntry}
use Rattle.plain_defs.specs.Journal.{Plans}
use Rattle.track_table.specs.Tracks as N
use Rattle.track_table.specs.Tracks.{count_below}
use Rattle.track_table.proofs.AskedWords.{count_same}
use Rattle.track_table.proofs.Places.{empty_places}
use Rattle.device_outside.specs.Interaction.{Done, and_then}
use Rattle.device_outside.specs.Lists as L
use Rattle.device_outside.specs.Lists.{is_in}
use Rattle.device_outside.specs.Pool.{Pool, all_waiting, cache_repaired, store_repaired}
use Rattle.device_outside.specs.Told as T
use Rattle.device_outside.specs.Told.{Calls, Told, RunOutcome}
use Rattle.device_defs.specs.Command.{command}
use Rattle.device_defs.specs.Contents.{by_plain}
use Rattle.device_defs.specs.Cutting as U
use Rattle.device_defs.specs.Cutting.{counts_one_by, half_cut, path_cut, reset_noted, reset_by, reset, power}
use Rattle.device_defs.specs.Events.{second, lose, background}
use Rattle.device_defs.specs.Losses.{over}
use Rattle.ckd_types.specs.declared.record.Track.{Track}
use Rattle.device_defs.specs.Marks.{MarksDevice, MarksStore}
use Rattle.device_defs.specs.Orders as Q
use Rattle.device_defs.specs.Orders.{with_tracks, lent_to, given_up, lend, join, split, restore, replace, hold_side, resume}
use Rattle.device_defs.specs.Owed as O
use Rattle.device_defs.specs.Owed.{waits_by, waits}
use Rattle.device_defs.specs.Start as S
use Rattle.device_defs.specs.Start.{start_fault, start, next_ordinal}
use Rattle.device_defs.specs.Store.{Origin, OfCommand, OfCut, OfBackground, HalfWrite, tracks_of, frame_at, patch_at, is_lost}
use Rattle.device_laws.proofs.Based.{kept, based_done}
use Rattle.device_laws.proofs.BasedEvents.{command_based, second_based, background_based, lose_based, power_based, reset_body}
use Rattle.device_laws.proofs.Had.{Had, had_done, had_tell, had_if, had_then, held}
use Rattle.device_laws.proofs.HeldBased.{hushed_waits, quiet_told, command_told, second_told, background_told, loss_told, power_told}
use Rattle.subsystem_defs.specs.declared.end.EventEnd.{EventEnd}
use Rattle.subsystem_defs.specs.declared.end.EventEnd.TheVariants as ends
use Rattle.subsystem_defs.specs.declared.end.OrderFault.{OrderFault}
use Rattle.subsystem_defs.specs.declared.end.OrderFault.TheVariants.{Up}
use Rattle.subsystem_defs.specs.declared.event.Event.{Event}
use Rattle.subsystem_defs.specs.declared.event.Event.TheVariants as events
use Rattle.subsystem_defs.specs.Decks as D
use Rattle.subsystem_defs.specs.Decks.{Firsts, opened_device_on, opened_on, run_on}
use Rattle.subsystem_defs.specs.Deeds as E
use Rattle.subsystem_defs.specs.Deeds.{
  back,
  order,
  repair,
  Ends,
  Becomes,
  Asks,
  Each,
  Repairs,
  Lends,
  deed,
  device_in,
  on_device,
  starts,
  start_by,
  step,
  seconds,
  ends_by,
  may_end_by,
  ends_done,
  end_of,
}
use Rattle.subsystem_defs.specs.Happening as H
use Rattle.subsystem_defs.specs.Happening.{
  EventHappened,
  MarksDeed,
  Talk,
  Swept,
  held_with,
  told_to,
  mounted_behind,
  behind_outcome,
  joined,
  lends,
  is_lent_to,
  restored_in,
  asks,
  becomes,
  happens_by,
  happens,
  quietly,
  sweep,
  replaced_by,
  replaced_at,
  replaced,
  unpaired_by,
  unpaired_at,
  unpaired,
}
use Rattle.subsystem_defs.specs.Lines.{Asked, Once, Replace, Unpair, Run, Settle, logged, asked_by}
use Rattle.subsystem_defs.specs.Refusals.{replace_fault, unpair_fault}
use Rattle.subsystem_defs.specs.Subsystem.{Mounted, Subsystem, first_device, first_store, number_of, devices_of, mounted_in, put_in, with_calls, unfailing}
use Rattle.subsystem_laws.specs.Served.{IsServedDeck}
use Rattle.subsystem_laws.specs.Waits.{waiting_of, waiting_in, repair_end, RepairsBy, TellsWaiting, AreNumbered}
use Rattle.subsystem_laws.proofs.DeedWalk.{IsSeat, Stands, seat_of, IsDeedwise, deed_is}
use Rattle.subsystem_laws.proofs.GoodMarks.{Good, good_kept, lent_is, opened_good}
use Rattle.subsystem_laws.proofs.LendBase.{at, stays_still, lent_store, lend_based, lent_number}
use Rattle.subsystem_laws.proofs.RunLines.{AnyEvent, Goes, run_shows}
use Rattle.subsystem_laws.proofs.WaitingSum.{AreTold, none_told, one_told, in_first, in_more, apart, told_past, told_put, told_at, told_same, sum_told}
use Rattle.subsystem_laws.proofs.Walks.{AreSo, hold_answer, hold_told, mounted_number, mounted_so, put_so, event_so, replaced_so, unpaired_so}

-- One device's event

-- the pool has the device's number as it is then
record TellsAt {A : Type 0} (ws : List ℕ) (n : ℕ) (o : RunOutcome MarksDevice A) : Type 0 where
  waiting : o.told.pool.waiting ≡ set ws n (waiting_of o.state)
  number : o.state.store.device ≡ n

abbrev Tells : {A : Type 0} → MarksDevice → Talk A → Type 0
Tells d talk = (w : Told) → get_or w.pool.waiting d.store.device 0 ≡ waiting_of d → TellsAt w.pool.waiting d.store.device (T.hold true talk w)

answers : {X Y : Type 0} (d : MarksDevice) (talk : Talk X) (f : X → Y) → Tells d talk → Tells d (and_then talk (λ z a. Done z (f a)))
answers d talk f h = λ w number. let e = h w number in record {
  waiting =
      ap (λ (t : Told). t.pool.waiting) (hold_told talk f w) ∙ e.waiting
      ∙ ap (λ (z : MarksDevice). set w.pool.waiting d.store.device (waiting_of z)) (sym (hold_answer talk f w));
  number = ap (λ (z : MarksDevice). z.store.device) (hold_answer talk f w) ∙ e.number;
}

module _ (d : MarksDevice) where
  command_tells : Tells d (command by_plain d)
  command_tells = λ w number. record { waiting = command_told by_plain true d w number; number = (at (stays_still (command_based by_plain d)) w).0 }

  second_tells : Tells d (second by_plain d)
  second_tells = λ w number. record { waiting = second_told by_plain true d w number; number = (at (stays_still (second_based by_plain d)) w).0 }

  background_tells : Tells d (background by_plain d)
  background_tells = λ w number. record {
    waiting = background_told by_plain true d w number;
    number = (at (stays_still (background_based by_plain d)) w).0;
  }

  loss_tells : (loss : _) → Tells d (lose by_plain d loss)
  loss_tells loss = λ w number. record {
    waiting = loss_told by_plain true d w number loss;
    number = (at (stays_still (lose_based by_plain d loss)) w).0;
  }

  power_tells : Tells d (power by_plain d)
  power_tells = λ w number. record { waiting = power_told by_plain true d w number; number = (at (stays_still (power_based by_plain d)) w).0 }

  -- what cuts a program changes no number

  cut_by : (s : MarksStore) (h : HalfWrite (Unit {0})) (origin : Origin) → Had (U.origin_cut by_plain s h origin) (λ z _. O.waiting_count by_plain z
      ≡ O.waiting_count by_plain s)
  unfolding O.waits
  cut_by s h (OfCommand bypass e) = had_tell (had_done refl)
  cut_by s h (OfCut bypass) = had_done refl
  cut_by s h OfBackground = had_done refl

  half_same : (s : MarksStore) (o : Option (HalfWrite (Unit {0}))) →
      Had (half_cut by_plain s o) (λ z _. O.waiting_count by_plain z ≡ O.waiting_count by_plain s)
  half_same s (Some h) = cut_by s h h.origin
  half_same s None = had_done refl

  reset_same_by : (path : ℕ) (r : Option OpenEntry) → Had (reset_by by_plain d path r) (λ y _. waiting_of y ≡ waiting_of d)
  reset_same_by path (Some o) =
      had_if (o.path == path) (λ _. had_then (half_same d.store d.store.half) (λ s _ e. had_done e)) (λ _. had_done refl)
  reset_same_by path None = had_if _ (λ _. had_done refl) (λ _. had_done refl)

  reset_same : (path : ℕ) → Had (reset by_plain d path) (λ y _. waiting_of y ≡ waiting_of d)
  unfolding U.reset
  reset_same path = reset_same_by path d.history.running

  reset_tells : (path : ℕ) → Tells d (reset by_plain d path)
  reset_tells path = λ w number. record {
    waiting =
        hushed_waits true (reset_body by_plain d path) w
        ∙ sym (ap (λ (k : ℕ). set w.pool.waiting d.store.device k) (held true (reset_same path) w ∙ sym number) ∙ set-get_or w.pool.waiting d.store.device 0);
    number = (at (stays_still (reset_body by_plain d path)) w).0;
  }

  lend_tells : (to : ℕ) → Tells d (lend by_plain d to)
  unfolding Q.lend
  lend_tells to = λ w number. record {
    waiting =
        quiet_told by_plain true d (kept (lent_store d to)) (λ z. Done (with_tracks z (lent_to (over (tracks_of z.store) (given_up by_plain) z.store) to)) tt)
        (lent_number d to) (based_done refl) w number;
    number = (at (stays_still (lend_based d to)) w).0 ∙ lent_number d to;
  }

-- Orders change no number

started_waits : (d : MarksDevice) (path : ℕ) → waiting_of (start d path) ≡ waiting_of d
unfolding S.start
started_waits d path = refl

started_number : (d : MarksDevice) (path : ℕ) → (start d path).store.device ≡ d.store.device
unfolding S.start
started_number d path = refl

held_waits : (d : MarksDevice) → (waiting_of (hold_side d) ≡ waiting_of d) × (waiting_of (resume d) ≡ waiting_of d)
unfolding O.waits
held_waits d = (refl, refl)

joined_waits : (d : MarksDevice) → (waiting_of (join d) ≡ waiting_of d) × (waiting_of (split d) ≡ waiting_of d)
unfolding O.waits
joined_waits d = (refl, refl)

replaced_waits : (d : MarksDevice) (side : Side) → waiting_of (replace d side) ≡ waiting_of d
unfolding O.waits
replaced_waits d sides.A = refl
replaced_waits d sides.B = refl

replaced_number : (d : MarksDevice) (side : Side) → (replace d side).store.device ≡ d.store.device
replaced_number d sides.A = refl
replaced_number d sides.B = refl

-- a device that keeps no frame
restored_waits : (d : MarksDevice) → ((q : ℕ) → frame_at d.store q ≡ None) → waiting_of (restore d) ≡ waiting_of d
unfolding O.waits
restored_waits d none =
    count_same (tracks_of d.store) (waits by_plain (restore d).store) (waits by_plain d.store)
    (λ q lt. ap (λ (o : Option Bool). not (is_lost d.store q) && waits_by by_plain (restore d).store q o) (none q)
    ∙ sym (ap (λ (o : Option Bool). not (is_lost d.store q) && waits_by by_plain d.store q o) (none q)))

-- A deed

out_none : (n : ℕ) → is_in n [] ≡ false
unfolding L.is_in
out_none n = refl

abbrev IsTold : Subsystem → Type 0
IsTold s = AreTold s.pool.waiting [] s.mounted

record SweptTold (old seen : List ℕ) (o : Swept) : Type 0 where
  told : AreTold o.pool.waiting seen o.mounted
  kept : (q : ℕ) → is_in q seen ≡ true → get_or o.pool.waiting q 0 ≡ get_or old q 0
  long : length o.pool.waiting ≡ length old

swept_told : (f : MarksDevice → Talk (Unit {0})) → ((d : MarksDevice) → Tells d (f d)) → (seen : List ℕ) (ms : List Mounted) (pool : Pool) →
    AreTold pool.waiting seen ms → SweptTold pool.waiting seen (sweep f ms pool)
unfolding H.sweep
swept_told f h seen [] pool t = record { told = t; kept = λ q e. refl; long = refl }
swept_told f h seen (m ∷ ms) pool (one_told n own out lt is rest) =
    let ws = pool.waiting in
    let o = held_with pool m (f m.device) in
    let e = h m.device (told_to pool m) (subst (λ (k : ℕ). get_or ws k 0 ≡ waiting_of m.device) (sym own) is) in
    let k = waiting_of o.state in
    let now : o.told.pool.waiting ≡ set ws n k = e.waiting ∙ ap (λ (i : ℕ). set ws i k) own in
    let long : length o.told.pool.waiting ≡ length ws = ap (λ (l : List ℕ). length l) now ∙ length-set ws n k in
    let first : AreTold o.told.pool.waiting (n ∷ seen) ms =
    subst (λ (l : List ℕ). AreTold l (n ∷ seen) ms) (sym now) (told_past n k (in_first n seen) rest) in
    let r = swept_told f h (n ∷ seen) ms o.told.pool first in
    let last = (sweep f ms o.told.pool).pool.waiting in
    record {
      told = one_told n (e.number ∙ own) out (let more = r.long in omega (arith, more, long, lt))
          (r.kept n (in_first n seen) ∙ ap (λ (l : List ℕ). get_or l n 0) now ∙ get_or-set_same ws n k 0 lt) r.told;
      kept = λ q here.
          r.kept q (in_more q n seen here) ∙ ap (λ (l : List ℕ). get_or l q 0) now
          ∙ get_or-set_other ws n q k 0 (λ same. apart n q seen out here (sym same));
      long = r.long ∙ long;
    }

asked_told : (s : Subsystem) (t : IsTold s) (d : MarksDevice) → IsSeat s d → {A : Type 0} (talk : Talk A) → Tells d talk → (m : Mounted) →
    mounted_in s.mounted d.store.device ≡ Some m → IsTold (behind_outcome s d.store.device (held_with s.pool m talk))
asked_told s t d seat talk h m there =
    let o = held_with s.pool m talk in
    let e = h (told_to s.pool m) (told_at s.mounted d.store.device m t there ∙ ap waiting_of (seat m there)) in
    subst (λ (l : List ℕ). AreTold l [] (put_in s.mounted d.store.device (mounted_behind o))) (sym e.waiting)
    (told_put d.store.device (mounted_behind o) e.number s.mounted m (out_none d.store.device) t there)

abbrev KeepsDeed : Subsystem → MarksDeed → Type 0
KeepsDeed s (Ends end) = ⊤
KeepsDeed s (Becomes d end) = (m : Mounted) → mounted_in s.mounted d.store.device ≡ Some m → waiting_of d ≡ waiting_of m.device
KeepsDeed s (Asks d talk) = IsSeat s d × Tells d talk
KeepsDeed s (Each pool f) = (pool.waiting ≡ s.pool.waiting) × ((d : MarksDevice) → Tells d (f d))
KeepsDeed s (Repairs pool) = pool.waiting ≡ s.pool.waiting
KeepsDeed s (Lends a b) = IsSeat s b

module _ (s : Subsystem) (t : IsTold s) where
  asks_told : (d : MarksDevice) (talk : Talk (Option EventEnd)) → IsSeat s d → Tells d talk → (o : Option Mounted) →
      mounted_in s.mounted d.store.device ≡ o → IsTold (asks s d.store.device o talk).behind
  asks_told d talk seat h None there = t
  asks_told d talk seat h (Some m) there = asked_told s t d seat talk h m there

  becomes_told : (d : MarksDevice) → ((m : Mounted) → mounted_in s.mounted d.store.device ≡ Some m → waiting_of d ≡ waiting_of m.device) →
      (o : Option Mounted) → mounted_in s.mounted d.store.device ≡ o → IsTold (becomes s d.store.device o d)
  becomes_told d h None there = t
  becomes_told d h (Some m) there = told_same s.mounted d.store.device m (record m { device = d }) refl t there (h m there)

  joined_told : (z : Subsystem) → IsTold z → (n : ℕ) (volume : Calls) (o : Option Mounted) → mounted_in z.mounted n ≡ o → IsTold (joined z n volume o)
  joined_told z u n volume None there = u
  joined_told z u n volume (Some m) there =
      told_same z.mounted n m (record m { device = join m.device; b = volume }) (mounted_number z.mounted n m there) u there (joined_waits m.device).0

  lends_told : (a : ℕ) (d : MarksDevice) → IsSeat s d → (o : Option Mounted) → mounted_in s.mounted d.store.device ≡ o →
      IsTold (lends s a d.store.device o)
  lends_told a d seat None there = t
  lends_told a d seat (Some m) there =
      let z = behind_outcome s d.store.device (held_with s.pool m (lend by_plain m.device a)) in
      let u = asked_told s t d seat (lend by_plain m.device a)
      (subst (λ (x : MarksDevice). Tells d (lend by_plain x a)) (sym (seat m there)) (lend_tells d a)) m there in
      joined_told z u a (held_with s.pool m (lend by_plain m.device a)).told.a (mounted_in z.mounted a) refl

  happens_told : (x : MarksDeed) → KeepsDeed s x → IsTold (happens_by s x).behind
  happens_told (Ends end) h = t
  happens_told (Becomes d end) h = becomes_told d h (mounted_in s.mounted d.store.device) refl
  happens_told (Asks d talk) h = asks_told d talk h.0 h.1 (mounted_in s.mounted d.store.device) refl
  happens_told (Each pool f) h =
      (swept_told f h.1 [] s.mounted pool (subst (λ (l : List ℕ). AreTold l [] s.mounted) (sym h.0) t)).told
  happens_told (Repairs pool) h = subst (λ (l : List ℕ). AreTold l [] s.mounted) (sym h) t
  happens_told (Lends a b) h = lends_told a.store.device b h (mounted_in s.mounted b.store.device) refl

-- Events

module _ (s : Subsystem) where
  repaired_waits : (b : Bool) (p q : Pool) → p.waiting ≡ s.pool.waiting → q.waiting ≡ s.pool.waiting → (if b then p else q).waiting ≡ s.pool.waiting
  repaired_waits true p q e f = e
  repaired_waits false p q e f = f

  held_so : (d : MarksDevice) → Stands s d → (z : MarksDevice) → z.store.device ≡ d.store.device → waiting_of z ≡ waiting_of d → (end : EventEnd) →
      KeepsDeed s (Becomes z end)
  held_so d x z number same end = λ m there. same ∙ ap waiting_of (sym (seat_of s d x m (ap (mounted_in s.mounted) (sym number) ∙ there)))

  deeds_tell : IsDeedwise s (KeepsDeed s)
  deeds_tell = record {
    ended = λ end. tt;
    started = λ d x path fault. held_so d x (start d path) (started_number d path) (started_waits d path) (ends.Started (next_ordinal d path));
    seconded = λ d x h is. (seat_of s d x, answers d (second by_plain d) (λ a. Some (ends.Second a)) (second_tells d));
    commanded = λ d x whole o running. (seat_of s d x, answers d (command by_plain d) (end_of ends.Stepped) (command_tells d));
    worked = λ d x whole. (seat_of s d x, answers d (background by_plain d) (end_of ends.Back) (background_tells d));
    cut = λ d x path. (seat_of s d x, answers d (reset by_plain d path) (λ a. Some (ends_done a)) (reset_tells d path));
    lost_cache = (refl, λ d. loss_tells d losses.Cache);
    lost_store = (refl, λ d. loss_tells d losses.Store);
    lost_side = λ d x side fault. (seat_of s d x, answers d (lose by_plain d (losses.Side side)) (λ a. Some (ends_done a)) (loss_tells d (losses.Side side)));
    lost_power = (refl, λ d. power_tells d);
    repaired_cache = repaired_waits (all_waiting s.pool == 0) (record s.pool { cache_up = true }) s.pool refl refl;
    repaired_store = repaired_waits (all_waiting s.pool == 0) (record s.pool { store_up = true }) s.pool refl refl;
    lent = λ x y z w fault. seat_of s y w;
    held = λ d x fault. held_so d x (hold_side d) refl (held_waits d).0 ends.Done;
    resumed = λ d x fault. held_so d x (resume d) refl (held_waits d).1 ends.Done;
  }

  event_told : IsTold s → (e : Event) → IsTold (happens s e).behind
  unfolding H.happens
  event_told t e = happens_told s t (deed by_plain s.pool (devices_of s) e) (deed_is s (KeepsDeed s) deeds_tell e)

  -- A repair's end

  record Shows (n : ℕ) (up : Bool) (h : EventHappened) : Type 0 where
    end : h.end ≡ repair_end up n
    before : h.before ≡ s

  repair_shows : (up b : Bool) (n : ℕ) (repaired : Pool) → (n == 0) ≡ b →
      Shows n up (happens_by s (if up then Ends (ends.Refused Up) else (if b then Repairs repaired else Ends (ends.Pending n))))
  repair_shows true b n repaired e = record { end = refl; before = refl }
  repair_shows false true n repaired e = record { end = ap (λ (c : Bool). if c then ends.Done else ends.Pending n) (sym e); before = refl }
  repair_shows false false n repaired e = record { end = ap (λ (c : Bool). if c then ends.Done else ends.Pending n) (sym e); before = refl }

  shown_so : (n : ℕ) (up : Subsystem → Bool) (h : EventHappened) → n ≡ waiting_in (devices_of s) → Shows n (up s) h →
      h.end ≡ repair_end (up h.before) (waiting_in (devices_of h.before))
  shown_so n up h is x =
      x.end ∙ ap (λ (k : ℕ). repair_end (up s) k) is
      ∙ ap (λ (z : Subsystem). repair_end (up z) (waiting_in (devices_of z))) (sym x.before)

  repairs_by : IsTold s → (e : Event) → RepairsBy (Once e) (happens s e)
  unfolding H.happens E.deed
  repairs_by t events.RepairCache =
      let n = all_waiting s.pool in
      shown_so n (λ z. z.pool.cache_up) (happens s events.RepairCache) (sum_told t) (repair_shows s.pool.cache_up (n == 0) n (cache_repaired s.pool) refl)
  repairs_by t events.RepairStore =
      let n = all_waiting s.pool in
      shown_so n (λ z. z.pool.store_up) (happens s events.RepairStore) (sum_told t) (repair_shows s.pool.store_up (n == 0) n (store_repaired s.pool) refl)
  repairs_by t (events.Start path d) = tt
  repairs_by t (events.Step d) = tt
  repairs_by t (events.Back d) = tt
  repairs_by t (events.Reset path d) = tt
  repairs_by t events.FailCache = tt
  repairs_by t events.FailStore = tt
  repairs_by t (events.FailVolume d side) = tt
  repairs_by t (events.Pair a b) = tt
  repairs_by t (events.Suspend a) = tt
  repairs_by t (events.Resume a) = tt
  repairs_by t events.Power = tt

-- The two orders for which a volume is handed in

with_number : (m : Mounted) (side : Side) (calls : Calls) → number_of (with_calls m side calls) ≡ number_of m
with_number m sides.A calls = refl
with_number m sides.B calls = refl

with_waits : (m : Mounted) (side : Side) (calls : Calls) → waiting_of (with_calls m side calls).device ≡ waiting_of m.device
with_waits m sides.A calls = refl
with_waits m sides.B calls = refl

replaced_told : (s : Subsystem) → IsTold s → (n : ℕ) (side : Side) (calls : Calls) (o : Option Mounted) → mounted_in s.mounted n ≡ o →
    IsTold (replaced_at s n side calls o).behind
replaced_told s t n side calls None there = t
replaced_told s t n side calls (Some m) there = by_fault (replace_fault m.device side) where
  by_fault : (o : Option OrderFault) → IsTold (replaced_by s n side calls m o).behind
  by_fault (Some fault) = t
  by_fault None =
      let y : Mounted = record m { device = replace m.device side } in
      told_same s.mounted n m (with_calls y side calls) (with_number y side calls ∙ replaced_number m.device side ∙ mounted_number s.mounted n m there) t there
      (with_waits y side calls ∙ replaced_waits m.device side)

restored_told : (ws seen : List ℕ) (ms : List Mounted) (a : ℕ) (calls : Calls) → AreSo Good ms → AreTold ws seen ms → AreTold ws seen (restored_in ms a calls)
restored_told ws seen [] a calls g t = t
restored_told ws seen (m ∷ ms) a calls g (one_told n own out lt is rest) =
    by_lent (is_lent_to m.device.store.lent a) refl (restored_told ws (n ∷ seen) ms a calls g.1 rest)
  where
    by_lent : (b : Bool) → is_lent_to m.device.store.lent a ≡ b → AreTold ws (n ∷ seen) (restored_in ms a calls) →
        AreTold ws seen (if b then record m { device = restore m.device; a = calls } ∷ ms else m ∷ restored_in ms a calls)
    by_lent true e later =
        one_told n own out lt (is ∙ sym (restored_waits m.device (g.0.gone (lent_is m.device.store.lent a e)).store.frame)) rest
    by_lent false e later = one_told n own out lt is later

unpaired_told : (s : Subsystem) → AreSo Good s.mounted → IsTold s → (n : ℕ) (calls : Calls) (o : Option Mounted) → mounted_in s.mounted n ≡ o →
    ((m : Mounted) → o ≡ Some m → unpair_fault m.device ≡ None → AreSo Good (put_in s.mounted n (record m { device = split m.device }))) →
    IsTold (unpaired_at s n calls o).behind
unpaired_told s g t n calls None there split_good = t
unpaired_told s g t n calls (Some m) there split_good = by_fault (unpair_fault m.device) refl where
  by_fault : (o : Option OrderFault) → unpair_fault m.device ≡ o → IsTold (unpaired_by s n calls m o).behind
  by_fault (Some fault) e = t
  by_fault None e =
      let x : Mounted = record m { device = split m.device } in
      restored_told s.pool.waiting [] (put_in s.mounted n x) n calls (split_good m refl e)
      (told_same s.mounted n m x (mounted_number s.mounted n m there) t there (joined_waits m.device).1)

-- All lines

record Behind (s : Subsystem) : Type 0 where
  good : AreSo Good s.mounted
  told : IsTold s

shows : (asked : Asked) (h : EventHappened) → Behind h.behind → RepairsBy asked h → Behind h.behind × TellsWaiting (logged asked h)
shows asked h q r = (q, record { behind = sum_told q.told; repairs = r })

event_goes : (s : Subsystem) → Behind s → (e : Event) → Behind (happens s e).behind
event_goes s q e = record { good = event_so Good AnyEvent good_kept s q.good e tt; told = event_told s q.told e }

replace_goes : (s : Subsystem) → Behind s → (d : ℕ) (side : Side) → Behind (replaced s d side unfailing).behind
unfolding H.replaced
replace_goes s q d side = record {
  good = replaced_so Good AnyEvent good_kept s d side unfailing q.good (mounted_in s.mounted d) (mounted_so Good s.mounted d q.good);
  told = replaced_told s q.told d side unfailing (mounted_in s.mounted d) refl;
}

unpair_goes : (s : Subsystem) → Behind s → (a : ℕ) → Behind (unpaired s a unfailing).behind
unfolding H.unpaired
unpair_goes s q a = record {
  good = unpaired_so Good AnyEvent good_kept s a unfailing q.good (mounted_in s.mounted a) (mounted_so Good s.mounted a q.good);
  told = unpaired_told s q.good q.told a unfailing (mounted_in s.mounted a) refl
      (λ m at fault. put_so Good s.mounted a (record m { device = split m.device }) q.good (good_kept.splits m.device fault (good_of m at)));
}
  where
    good_of : (m : Mounted) → mounted_in s.mounted a ≡ Some m → Good m.device
    good_of m at = subst (λ (o : Option Mounted). IfSome o (λ x. Good x.device)) at (mounted_so Good s.mounted a q.good)

waiting_goes : Goes Behind (λ s. TellsWaiting) AnyEvent
waiting_goes = record {
  once = λ s e may q. shows (Once e) (happens s e) (event_goes s q e) (repairs_by s q.told e);
  stepped = λ s d q. shows (Run d) (happens s (events.Step d)) (event_goes s q (events.Step d)) tt;
  idle = λ s d q. shows (Run d) (quietly s s ends.Idle) q tt;
  backed = λ s d q. shows (Settle d) (happens s (events.Back d)) (event_goes s q (events.Back d)) tt;
  replaces = λ s d side q. shows (Replace d side) (replaced s d side unfailing) (replace_goes s q d side) tt;
  unpairs = λ s a q. shows (Unpair a) (unpaired s a unfailing) (unpair_goes s q a) tt;
}

-- On new devices no track waits

none_below : (n : ℕ) (p : ℕ → Bool) → ((t : ℕ) → p t ≡ false) → count_below n p ≡ 0
unfolding N.count_below
none_below zero p e = refl
none_below (suc n) p e = ap (λ (b : Bool). count_below n p + (if b then 1 else 0)) (e n) ∙ ap (λ (k : ℕ). k + 0) (none_below n p e)

and_off : (a b : Bool) → b ≡ false → (a && b) ≡ false
and_off true b e = e
and_off false b e = refl

new_waits : (number : ℕ) (on : Geometry) (n : ℕ) (tracks : List Track) (plans : Plans) → waiting_of (first_device number on n tracks plans) ≡ 0
unfolding O.waits
new_waits number on n tracks plans =
    let s = first_store number on n tracks in
    none_below (n * 15) (waits by_plain s)
    (λ t. ap (λ (o : Option Bool). not (is_lost s t) && waits_by by_plain s t o) (empty_places (n * 15) t None)
    ∙ and_off (not (is_lost s t)) (is_some (patch_at s t)) (ap (λ (o : Option (Unit {0})). is_some o) (empty_places (n * 15) t None)))

opened_told : (firsts : Firsts) (deck : DeckLines) (seen : List ℕ) (ds : List DeviceLine) → AreNumbered seen ds →
    AreTold (replicate 16 0) seen (map (opened_device_on firsts deck) ds)
opened_told firsts deck seen [] h = none_told (λ q out. empty_places 16 q 0)
opened_told firsts deck seen (d ∷ ds) h =
    one_told d.number refl h.0 h.1 (empty_places 16 d.number 0 ∙ sym (new_waits d.number d.geometry d.cylinders (firsts d.number d.cylinders) (plans_of deck.programs d.number)))
    (opened_told firsts deck (d.number ∷ seen) ds h.2)

pub run_tells_of_waiting : (firsts : Firsts) (deck : DeckLines) → IsServedDeck deck → AreNumbered [] deck.devices → All TellsWaiting (run_on firsts deck).events
unfolding D.run_asked_on
run_tells_of_waiting firsts deck h numbered =
    run_shows Behind TellsWaiting waiting_goes (map asked_by deck.events) (opened_on firsts deck)
    (record { good = opened_good firsts deck deck.devices h.devices; told = opened_told firsts deck [] deck.devices numbered })
