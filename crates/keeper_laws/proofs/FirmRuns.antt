-- In a run the firm volume of a device behind an event is the one before with the Firm messages of the event put in.
use Rattle.std.proofs.Common.{
  ◌≡◌,
  ◌==◌,
  ◌++◌,
  ℕ,
  zero,
  suc,
  Bool,
  true,
  false,
  List,
  [],
  ◌∷◌,
  Option,
  Some,
  None,
  not,
  is_some,
  set,
  refl,
  sym,
  ap,
  subst,
  ◌∙◌,
}
use Rattle.std.specs.Prelude.{⊤, if◌then◌else◌}
use Rattle.std.proofs.lemmas.Bool.{eqb-true, eq-eqb}
use Rattle.ckd_types.specs.declared.paths.Side.{Side}
use Rattle.ckd_types.specs.declared.paths.Side.TheVariants.{A, B}
use Rattle.ckd_types.specs.declared.record.Track.{Track}
use Rattle.loss_model.specs.declared.Loss.TheVariants as losses
use Rattle.track_image.specs.Image.{Image}
use Rattle.device_outside.specs.Hears.{messages}
use Rattle.device_outside.specs.Interaction.{Done, and_then}
use Rattle.device_outside.specs.Keeper.{Message, BeforeEdit, Firm}
use Rattle.device_outside.specs.Pool.{Pool, cache_failed, store_failed, power_lost, cache_repaired, store_repaired}
use Rattle.device_outside.specs.Told.{Calls}
use Rattle.device_defs.specs.Command.{command}
use Rattle.device_defs.specs.Contents.{by_plain}
use Rattle.device_defs.specs.Cutting.{reset, power}
use Rattle.device_defs.specs.Device.{event_begun, event_ended}
use Rattle.device_defs.specs.Events.{second, lose, background}
use Rattle.device_defs.specs.Losses as L
use Rattle.device_defs.specs.Losses.{without_frame, without_patch}
use Rattle.device_defs.specs.Marks.{MarksDevice, MarksStore}
use Rattle.device_defs.specs.Orders as O
use Rattle.device_defs.specs.Orders.{replace, lend, lent_to, with_tracks, given_up}
use Rattle.device_defs.specs.Owed.{noted_begin, waiting_count}
use Rattle.device_defs.specs.Peek.{peek}
use Rattle.device_defs.specs.Start as S
use Rattle.device_defs.specs.Start.{start, next_ordinal}
use Rattle.device_defs.specs.Store.{HalfWrite, tracks_of}
use Rattle.device_laws.proofs.PoolWalks.{ended_asks}
use Rattle.subsystem_defs.specs.declared.end.EventEnd.{EventEnd}
use Rattle.subsystem_defs.specs.declared.end.EventEnd.TheVariants as ends
use Rattle.subsystem_defs.specs.declared.event.Event.{Event}
use Rattle.subsystem_defs.specs.Deeds.{Ends, Becomes, Asks, Repairs, Lends, deed, end_of, ends_done}
use Rattle.subsystem_defs.specs.Happening as H
use Rattle.subsystem_defs.specs.Happening.{
  MarksDeed,
  Talk,
  told_to,
  held_with,
  mounted_behind,
  asks,
  sweep,
  happens_by,
  happens,
  replaced,
  is_lent_to,
  unpaired,
}
use Rattle.subsystem_defs.specs.Looks as K
use Rattle.subsystem_defs.specs.Looks.{looked_at, looked}
use Rattle.subsystem_defs.specs.Subsystem.{Mounted, Subsystem, devices_of, number_of, mounted_in, put_in}
use Rattle.subsystem_laws.proofs.DeedWalk.{Stands, seat_of, IsDeedwise, deed_is}
use Rattle.subsystem_laws.proofs.Walks.{mounted_number}
use Rattle.subsystem_laws.specs.Looking.{messages_at, look_messages}
use Rattle.keeper_laws.specs.Firmness.{told_firm, is_half_loose, IsTold, has_one, IsFirm}
use Rattle.keeper_laws.specs.Messages as M
use Rattle.keeper_laws.specs.Messages.{asked_messages, swept_messages, deed_messages, event_messages}
use Rattle.keeper_laws.proofs.FirmCommands.{Keeps, command_keeps}
use Rattle.keeper_laws.proofs.FirmEvents.{second_keeps, background_keeps}
use Rattle.keeper_laws.proofs.FirmLosses.{lose_keeps, reset_keeps, power_keeps, peek_keeps}
use Rattle.keeper_laws.proofs.FirmParts.{settled_debt}
use Rattle.keeper_laws.proofs.FirmStores.{NotLoose, half_track, On, on_like, like_then, like_unframed, like_unpatched}
use Rattle.keeper_laws.proofs.FirmWrites.{Rest, rest_from}
use Rattle.keeper_laws.proofs.Firms.{firms_done, firms_then, firms_held, firms_other}
use Rattle.keeper_laws.proofs.Places.{IsAt, Leaves, place, put_at, put_here, first_at, later_at, deed_at, replaced_there, unpaired_there}
use Rattle.keeper_laws.proofs.Silent.{Silent, silent_done, silent_then, silent_held, asks_silent}

some_is : {X : Type 0} {x y : X} → Some x ≡ Some y → x ≡ y
some_is e = cc

pub told_both : (n : ℕ) (ms ns : List (Message Image)) (v : List Track) → told_firm n (ms ++ ns) v ≡ told_firm n ns (told_firm n ms v)
told_both n [] ns v = refl
told_both n (BeforeEdit d t i ∷ ms) ns v = told_both n ms ns v
told_both n (Firm d t i ∷ ms) ns v = told_both n ms ns (if d == n then set v t i.track else v)

firm_half : (h : Option (HalfWrite (Unit {0}))) (l : List Bool) → is_half_loose h l ≡ false → NotLoose (half_track h) l
firm_half None l e = tt
firm_half (Some h) l e = e

half_firm : (h : Option (HalfWrite (Unit {0}))) (l : List Bool) → NotLoose (half_track h) l → is_half_loose h l ≡ false
half_firm None l e = refl
half_firm (Some h) l e = e

-- A volume that is lent

module _ (k : ℕ) (p : Type 0) (v : List Track) where
  given_on : (h : Option (HalfWrite (Unit {0}))) (o : Option ℕ) (b : List Track) (n : ℕ) (s : MarksStore) → On k p h o b v s →
      On k p h o b v (L.over n (given_up by_plain) s)
  unfolding L.over
  given_on h o b zero s x = x
  given_on h o b (suc n) s x =
      let z = L.over n (given_up by_plain) s in
      on_like k p h o b z (given_up by_plain n z)
      (like_then z (without_frame z n) (given_up by_plain n z) (like_unframed z n) (like_unpatched (without_frame z n) n)) (given_on h o b n s x)

  ended_rest : (h : Option (HalfWrite (Unit {0}))) (b : List Track) (d e : MarksDevice) → On k p h (half_track h) b v e.store →
      Silent (λ (y : MarksDevice) (_ : Unit {0}). Rest k p v y.store) (event_ended by_plain d e tt)
  ended_rest h b d e x =
      silent_then (λ z _. Done (record e { store = z }) tt)
      (asks_silent (ended_asks by_plain (On k p h (half_track h) b v) (λ z q g. settled_debt k p h (half_track h) b z q g)
      (waiting_count by_plain d.store) e.store x))
      (λ z _ g. silent_done (rest_from k p {h = h} {b = b} z g))

  pub lend_rest : (d : MarksDevice) (to : ℕ) → Rest k p v d.store → Silent (λ (e : MarksDevice) (_ : Unit {0}). Rest k p v e.store) (lend by_plain d to)
  unfolding O.lend
  lend_rest d to x =
      ended_rest d.store.half d.store.plain d
      (with_tracks (event_begun d) (lent_to (L.over (tracks_of d.store) (given_up by_plain) (noted_begin d.store)) to))
      (given_on d.store.half (half_track d.store.half) d.store.plain (tracks_of d.store) (noted_begin d.store) x)

module _ (n : ℕ) (m : Mounted) where
  -- so is the device of that number
  abbrev So : List Track → MarksDevice → Type 0
  So v d = Rest n ⊤ v d.store

  firm_so : (v : List Track) (s : Subsystem) → IsAt n (So v) s.mounted → IsFirm v s n
  firm_so v s x =
      let i = x.is_so.1 tt in
      record {
        mounted = x.mounted;
        there = x.there;
        firm = i.0;
        told = record { room = i.4; free = i.1; half = half_firm x.mounted.device.store.half x.mounted.device.store.loose i.3 };
      }

  module _ (s : Subsystem) (there : mounted_in s.mounted n ≡ Some m) (told : IsTold m.device.store) where
    abbrev before : List Track
    before = m.device.store.firm

    now : So before m.device
    now = (
      mounted_number s.mounted n m there,
      λ _. (refl, told.free, refl, firm_half m.device.store.half m.device.store.loose told.half, told.room, refl),
    )

    unseen : (k : ℕ) (d : MarksDevice) → d.store.device ≡ k → Rest k ⊥ [] d.store
    unseen k d is = (is, λ none. absurd none)

    -- One device

    put_told : {X : Type 0} (k : ℕ) (y : Mounted) (talk : Talk X) → mounted_in s.mounted k ≡ Some y →
        ((p : Type 0) (v : List Track) → Rest k p v y.device.store → Keeps k p v talk) →
        IsAt n (So (told_firm n (messages true talk (told_to s.pool y)) before)) (put_in s.mounted k (mounted_behind (held_with s.pool y talk)))
    put_told k y talk is walk = by_test (k == n) refl
      where
        here : k ≡ n → IsAt n (So (told_firm n (messages true talk (told_to s.pool y)) before)) (put_in s.mounted n (mounted_behind (held_with s.pool y talk)))
        here same =
            let same_device : m ≡ y = some_is (sym there ∙ sym (ap (mounted_in s.mounted) same) ∙ is) in
            let walked : Keeps n ⊤ before talk =
            subst (λ (j : ℕ). Rest j ⊤ before y.device.store → Keeps j ⊤ before talk) same (walk ⊤ before)
            (subst (λ (z : Mounted). So before z.device) same_device now) in
            let left = firms_held n (λ u d _. So u d) walked (told_to s.pool y) in
            put_here n (So (told_firm n (messages true talk (told_to s.pool y)) before)) s.mounted m
            (mounted_behind (held_with s.pool y talk)) there left.0 left

        by_test : (b : Bool) → (k == n) ≡ b →
            IsAt n (So (told_firm n (messages true talk (told_to s.pool y)) before)) (put_in s.mounted k (mounted_behind (held_with s.pool y talk)))
        by_test true e =
            subst (λ (j : ℕ). IsAt n (So (told_firm n (messages true talk (told_to s.pool y)) before))
            (put_in s.mounted j (mounted_behind (held_with s.pool y talk))))
            (sym (eqb-true k n e)) (here (eqb-true k n e))
        by_test false e =
            let walked = walk ⊥ [] (unseen k y.device (mounted_number s.mounted k y is)) in
            let left = firms_held k (λ u d _. Rest k ⊥ u d.store) walked (told_to s.pool y) in
            subst (λ (v : List Track). IsAt n (So v) (put_in s.mounted k (mounted_behind (held_with s.pool y talk))))
            (sym (firms_other k (λ u d _. Rest k ⊥ u d.store) n e before walked (told_to s.pool y)))
            (put_at n (So before) s.mounted k (mounted_behind (held_with s.pool y talk)) (place n (So before) s m there now) left.0
            (λ same. absurd (let no : true ≡ false = sym (eq-eqb k n same) ∙ e in cc)))

    asked_told : (k : ℕ) (talk : Talk (Option EventEnd)) (o : Option Mounted) → mounted_in s.mounted k ≡ o →
        ((y : Mounted) → mounted_in s.mounted k ≡ Some y → (p : Type 0) (v : List Track) → Rest k p v y.device.store → Keeps k p v talk) →
        IsAt n (So (told_firm n (asked_messages s o talk) before)) (asks s k o talk).behind.mounted
    asked_told k talk None is walk = place n (So before) s m there now
    asked_told k talk (Some y) is walk = put_told k y talk is (walk y is)

    look_told : (k q : ℕ) (o : Option Mounted) → mounted_in s.mounted k ≡ o →
        IsAt n (So (told_firm n (messages_at s q o) before)) (looked_at s k q o).behind.mounted
    look_told k q None is = place n (So before) s m there now
    look_told k q (Some y) is = put_told k y (peek by_plain y.device q) is (λ p v x. peek_keeps k p y.device q x)

    pub firm_look : (k q : ℕ) → IsFirm (told_firm n (look_messages s k q) before) (looked s k q).behind n
    unfolding K.looked
    firm_look k q = firm_so (told_firm n (look_messages s k q) before) (looked s k q).behind (look_told k q (mounted_in s.mounted k) refl)

    -- Each device, where one has the number

    module _ (f : MarksDevice → Talk (Unit {0}))
        (walk : (d : MarksDevice) (k : ℕ) (p : Type 0) (v : List Track) → Rest k p v d.store → Keeps k p v (f d)) where
      others_told : (u : List Track) (ms : List Mounted) (pool : Pool) → mounted_in ms n ≡ None → told_firm n (swept_messages f ms pool) u ≡ u
      unfolding M.swept_messages
      others_told u [] pool none = refl
      others_told u (x ∷ ms) pool none = by_test (number_of x == n) refl none (others_told u ms)
        where
          by_test : (b : Bool) → (number_of x == n) ≡ b → (if b then Some x else mounted_in ms n) ≡ None →
              ((q : Pool) → mounted_in ms n ≡ None → told_firm n (swept_messages f ms q) u ≡ u) →
              told_firm n (messages true (f x.device) (told_to pool x) ++ swept_messages f ms (held_with pool x (f x.device)).told.pool) u ≡ u
          by_test true e off later = absurd (cc)
          by_test false e off later =
              let k = x.device.store.device in
              told_both n (messages true (f x.device) (told_to pool x)) (swept_messages f ms (held_with pool x (f x.device)).told.pool) u
              ∙ ap (told_firm n (swept_messages f ms (held_with pool x (f x.device)).told.pool))
              (firms_other k (λ u d _. Rest k ⊥ u d.store) n e u (walk x.device k ⊥ [] (unseen k x.device refl)) (told_to pool x))
              ∙ later (held_with pool x (f x.device)).told.pool off

      swept_told : (ms : List Mounted) (pool : Pool) → mounted_in ms n ≡ Some m → has_one n ms ≡ true →
          IsAt n (So (told_firm n (swept_messages f ms pool) before)) (sweep f ms pool).mounted
      unfolding M.swept_messages H.sweep
      swept_told [] pool at one = absurd (cc)
      swept_told (x ∷ ms) pool at one = by_test (number_of x == n) refl at one (swept_told ms)
        where
          by_test : (b : Bool) → (number_of x == n) ≡ b → (if b then Some x else mounted_in ms n) ≡ Some m →
              (if b then not (is_some (mounted_in ms n)) else has_one n ms) ≡ true →
              ((q : Pool) → mounted_in ms n ≡ Some m → has_one n ms ≡ true → IsAt n (So (told_firm n (swept_messages f ms q) before)) (sweep f ms q).mounted) →
              IsAt n (So (told_firm n (messages true (f x.device) (told_to pool x) ++ swept_messages f ms (held_with pool x (f x.device)).told.pool) before))
              (mounted_behind (held_with pool x (f x.device)) ∷ (sweep f ms (held_with pool x (f x.device)).told.pool).mounted)
          by_test true e is only later =
              let walked = walk x.device n ⊤ before (subst (λ (z : Mounted). So before z.device) (sym (some_is is)) now) in
              let left = firms_held n (λ u d _. So u d) walked (told_to pool x) in
              subst (λ (v : List Track). IsAt n (So v)
              (mounted_behind (held_with pool x (f x.device)) ∷ (sweep f ms (held_with pool x (f x.device)).told.pool).mounted))
              (sym (told_both n (messages true (f x.device) (told_to pool x)) (swept_messages f ms (held_with pool x (f x.device)).told.pool) before
              ∙ others_told (told_firm n (messages true (f x.device) (told_to pool x)) before) ms (held_with pool x (f x.device)).told.pool
              (none_of (mounted_in ms n) only)))
              (first_at n (So (told_firm n (messages true (f x.device) (told_to pool x)) before))
              (mounted_behind (held_with pool x (f x.device))) _ left.0 left)
            where
              none_of : (o : Option Mounted) → not (is_some o) ≡ true → o ≡ None
              none_of None e = refl
              none_of (Some y) e = absurd (cc)
          by_test false e is only later =
              let k = x.device.store.device in
              let walked = walk x.device k ⊥ [] (unseen k x.device refl) in
              let left = firms_held k (λ u d _. Rest k ⊥ u d.store) walked (told_to pool x) in
              subst (λ (v : List Track). IsAt n (So v)
              (mounted_behind (held_with pool x (f x.device)) ∷ (sweep f ms (held_with pool x (f x.device)).told.pool).mounted))
              (sym (told_both n (messages true (f x.device) (told_to pool x)) (swept_messages f ms (held_with pool x (f x.device)).told.pool) before
              ∙ ap (told_firm n (swept_messages f ms (held_with pool x (f x.device)).told.pool))
              (firms_other k (λ u d _. Rest k ⊥ u d.store) n e before walked (told_to pool x))))
              (later_at n (So (told_firm n (swept_messages f ms (held_with pool x (f x.device)).told.pool) before))
              (mounted_behind (held_with pool x (f x.device))) _ (ap (λ (j : ℕ). j == n) left.0 ∙ e)
              (later (held_with pool x (f x.device)).told.pool is only))

    -- Deeds

    module _ (one : has_one n s.mounted ≡ true) where
      abbrev Claim : MarksDeed → Type 0
      Claim x = IsAt n (So (told_firm n (deed_messages s x) before)) (happens_by s x).behind.mounted

      stood : (d : MarksDevice) → Stands s d → d.store.device ≡ n → So before d
      stood d x same = subst (So before) (seat_of s d x m (ap (mounted_in s.mounted) same ∙ there)) now

      asks_claim : {X : Type 0} (d : MarksDevice) (talk : Talk X) (f : X → Option EventEnd) → Stands s d →
          ((k : ℕ) (p : Type 0) (v : List Track) → Rest k p v d.store → Keeps k p v talk) → Claim (Asks d (and_then talk (λ e a. Done e (f a))))
      asks_claim d talk f x walk =
          asked_told d.store.device (and_then talk (λ e a. Done e (f a))) (mounted_in s.mounted d.store.device) refl
          (λ y is p v g. firms_then (λ e a. Done e (f a))
          (walk d.store.device p v (subst (λ (z : MarksDevice). Rest d.store.device p v z.store) (seat_of s d x y is) g))
          (λ u e a r. firms_done r))

      quiet_deed : (x : MarksDeed) → Leaves n (So before) s m there now x → IsAt n (So before) (happens_by s x).behind.mounted
      quiet_deed x h = deed_at n (So before) s m there now x h

      started : (d : MarksDevice) (path : ℕ) → Stands s d → (start d path).store.device ≡ n → So before (start d path)
      unfolding S.start
      started d path x = stood d x

      claims : IsDeedwise s Claim
      claims = record {
        ended = λ end. quiet_deed (Ends end) tt;
        started = λ d x path fault. quiet_deed (Becomes (start d path) (ends.Started (next_ordinal d path))) (started d path x);
        seconded = λ d x h is. asks_claim d (second by_plain d) (λ a. Some (ends.Second a)) x (λ k p v g. second_keeps k p d g);
        commanded = λ d x whole o running. asks_claim d (command by_plain d) (end_of ends.Stepped) x (λ k p v g. command_keeps k p d whole g);
        worked = λ d x whole. asks_claim d (background by_plain d) (end_of ends.Back) x (λ k p v g. background_keeps k p d whole g);
        cut = λ d x path. asks_claim d (reset by_plain d path) (λ a. Some (ends_done a)) x (λ k p v g. reset_keeps k p d path g);
        lost_cache = swept_told (λ d. lose by_plain d losses.Cache) (λ d k p v g. lose_keeps k p d losses.Cache g) s.mounted (cache_failed s.pool) there one;
        lost_store = swept_told (λ d. lose by_plain d losses.Store) (λ d k p v g. lose_keeps k p d losses.Store g) s.mounted (store_failed s.pool) there one;
        lost_side = λ d x side fault.
            asks_claim d (lose by_plain d (losses.Side side)) (λ a. Some (ends_done a)) x (λ k p v g. lose_keeps k p d (losses.Side side) g);
        lost_power = swept_told (power by_plain) (λ d k p v g. power_keeps k p d g) s.mounted (power_lost s.pool) there one;
        repaired_cache = quiet_deed (Repairs (cache_repaired s.pool)) tt;
        repaired_store = quiet_deed (Repairs (store_repaired s.pool)) tt;
        lent = λ x y a b fault. quiet_deed (Lends x y) (
          (λ u. (silent_held (λ (e : MarksDevice) (_ : Unit {0}). So before e) n 0 (lend_rest n ⊤ before m.device x.store.device now) u).1),
          λ d g. g,
        );
        held = λ d x fault. quiet_deed (Becomes _ ends.Done) (stood d x);
        resumed = λ d x fault. quiet_deed (Becomes _ ends.Done) (stood d x);
      }

      pub firm_event : (e : Event) → IsFirm (told_firm n (event_messages s e) before) (happens s e).behind n
      unfolding H.happens M.event_messages
      firm_event e =
          let x = deed by_plain s.pool (devices_of s) e in
          firm_so (told_firm n (deed_messages s x) before) (happens_by s x).behind (deed_is s Claim claims e)

    -- The orders for which a volume is handed in tell nothing

    side_so : (side : Side) → So before (replace m.device side)
    side_so A = now
    side_so B = now

    pub firm_replaced : (d : ℕ) (side : Side) (volume : Calls) → IsFirm before (replaced s d side volume).behind n
    firm_replaced d side volume =
        firm_so before (replaced s d side volume).behind (replaced_there n (So before) s m there now d side volume (side_so side))

    -- a device that isn't lent gets no other volume where a pair is taken apart
    abbrev AtHome : MarksDevice → Type 0
    AtHome d = So before d × (d.store.lent ≡ None)

    lent_none : (o : Option ℕ) (k : ℕ) → o ≡ None → is_lent_to o k ≡ true → ⊥
    lent_none None k e lent = absurd (cc)
    lent_none (Some to) k e lent = absurd (cc)

    pub firm_unpaired : m.device.store.lent ≡ None → (d : ℕ) (volume : Calls) → IsFirm before (unpaired s d volume).behind n
    firm_unpaired home d volume =
        let x = unpaired_there n AtHome s m there (now, home) (λ y g. g) d volume (λ y g lent. absurd (lent_none y.store.lent d g.1 lent)) in
        firm_so before (unpaired s d volume).behind (record { mounted = x.mounted; there = x.there; is_so = x.is_so.0 })
