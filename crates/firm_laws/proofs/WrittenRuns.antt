-- In a run the firm writes of a device behind an event are those before it, and then what it was told of firm tracks.
use Rattle.std.proofs.Common.{◌≡◌, ◌==◌, ◌++◌, ℕ, Bool, true, false, List, [], ◌∷◌, Option, Some, None, not, is_some, refl, sym, ap, subst, ◌∙◌}
use Rattle.std.specs.Prelude.{if◌then◌else◌}
use Rattle.std.proofs.lemmas.Bool.{eqb-true, eq-eqb}
use Rattle.std.proofs.lemmas.List.{append-nil}
use Rattle.ckd_types.specs.declared.geometry.Geometry.{Geometry}
use Rattle.ckd_types.specs.declared.paths.Side.{Side}
use Rattle.ckd_types.specs.declared.paths.Side.TheVariants.{A, B}
use Rattle.ckd_types.specs.declared.record.Track.{Track}
use Rattle.loss_model.specs.declared.Loss.TheVariants as losses
use Rattle.plain_defs.specs.History.{OpenEntry, History}
use Rattle.plain_defs.specs.Journal.{Plans}
use Rattle.plain_defs.specs.PlainState.{PlainState}
use Rattle.device_outside.specs.Hears.{messages}
use Rattle.device_outside.specs.Interaction.{Done, and_then}
use Rattle.device_outside.specs.Pool.{Pool, cache_failed, store_failed, power_lost, cache_repaired, store_repaired}
use Rattle.device_outside.specs.Told.{Calls, Told, hold}
use Rattle.device_defs.specs.Command.{command}
use Rattle.device_defs.specs.Contents.{by_plain}
use Rattle.device_defs.specs.Cutting.{reset, power}
use Rattle.device_defs.specs.Device.{event_begun}
use Rattle.device_defs.specs.Events.{second, lose, background}
use Rattle.device_defs.specs.Losses as L
use Rattle.device_defs.specs.Losses.{without_frame}
use Rattle.device_defs.specs.Marks.{MarksDevice, MarksStore}
use Rattle.device_defs.specs.Orders as O
use Rattle.device_defs.specs.Orders.{restore, replace, lend, lent_to, with_tracks, given_up}
use Rattle.device_defs.specs.Owed.{noted_begin}
use Rattle.device_defs.specs.Peek.{peek}
use Rattle.device_defs.specs.Start as S
use Rattle.device_defs.specs.Start.{start, start_fault, next_ordinal}
use Rattle.device_defs.specs.Store.{tracks_of}
use Rattle.device_laws.specs.NewDevice.{first_state}
use Rattle.device_laws.proofs.DeviceHistory.{starts_where_idle}
use Rattle.device_laws.proofs.Had.{Had, had_done, had_then, held}
use Rattle.device_laws.proofs.PlainCommand.{command_follows}
use Rattle.device_laws.proofs.PlainCuts.{reset_follows}
use Rattle.device_laws.proofs.PlainLosses.{loss_follows, background_follows}
use Rattle.device_laws.proofs.PlainPower.{power_follows}
use Rattle.device_laws.proofs.PlainSeconds.{second_follows}
use Rattle.device_laws.proofs.PlainStores.{Core, core_of}
use Rattle.device_laws.proofs.PlainTurns.{IsAtHome, Follows}
use Rattle.subsystem_defs.specs.declared.end.EventEnd.{EventEnd}
use Rattle.subsystem_defs.specs.declared.end.EventEnd.TheVariants as ends
use Rattle.subsystem_defs.specs.declared.event.Event.{Event}
use Rattle.subsystem_defs.specs.Decks.{Firsts}
use Rattle.subsystem_defs.specs.Deeds.{Ends, Becomes, Asks, Each, Repairs, Lends, deed, end_of, ends_done}
use Rattle.subsystem_defs.specs.Happening as H
use Rattle.subsystem_defs.specs.Happening.{MarksDeed, Talk, told_to, held_with, mounted_behind, asks, sweep, happens_by, happens, replaced, is_lent_to, unpaired}
use Rattle.subsystem_defs.specs.Looks as K
use Rattle.subsystem_defs.specs.Looks.{looked_at, looked}
use Rattle.subsystem_defs.specs.Promised.{first_of}
use Rattle.subsystem_defs.specs.Subsystem.{Mounted, Subsystem, devices_of, number_of, mounted_in, put_in}
use Rattle.subsystem_laws.proofs.DeedWalk.{Stands, seat_of, IsDeedwise, deed_is}
use Rattle.subsystem_laws.proofs.PlainRuns.{PlainlyFrom, PlainlyOn, first_held, still_first}
use Rattle.subsystem_laws.proofs.Walks.{mounted_number}
use Rattle.subsystem_laws.specs.Looking.{messages_at, look_messages}
use Rattle.keeper_laws.specs.Firmness.{IsTold, has_one}
use Rattle.keeper_laws.specs.Messages as M
use Rattle.keeper_laws.specs.Messages.{asked_messages, swept_messages, deed_messages, event_messages}
use Rattle.keeper_laws.proofs.FirmCommands.{Keeps, command_keeps}
use Rattle.keeper_laws.proofs.FirmEvents.{second_keeps, background_keeps}
use Rattle.keeper_laws.proofs.FirmLosses.{lose_keeps, reset_keeps, power_keeps, peek_keeps}
use Rattle.keeper_laws.proofs.FirmWrites.{Rest}
use Rattle.keeper_laws.proofs.Sizes.{peek_sized}
use Rattle.keeper_laws.proofs.Places.{IsAt, Leaves, place, put_at, put_here, first_at, later_at, deed_at, replaced_there, unpaired_there}
use Rattle.firm_laws.specs.FirmWrites.{FirmWrite, firm_writes, firm_writes_on, firms_in}
use Rattle.firm_laws.specs.Written.{HasWrittenOn}
use Rattle.firm_laws.proofs.HistoryWrites.{started_written, emptied_written}
use Rattle.firm_laws.proofs.Made.{acts_written, made_written}
use Rattle.firm_laws.proofs.SaidStores.{Same, same_then, same_unframed, same_unpatched, over_same}
use Rattle.keeper_laws.proofs.Firms.{firms_done, firms_then, firms_held}
use Rattle.firm_laws.proofs.Tells.{Tells, tells_held, all_firms, own_held, own_firms, other_firms, firms_more}
use Rattle.firm_laws.proofs.WrittenEvents.{end_tells, Left, Looked, command_left, second_left, background_left, store_left, side_left, cache_left, reset_left, power_left, peek_left}

some_is : {X : Type 0} {x y : X} → Some x ≡ Some y → x ≡ y
some_is e = cc

-- A volume that is lent tells nothing, and brings nothing

given_same : (t : ℕ) (z : MarksStore) → Same z (given_up by_plain t z)
given_same t z = same_then z (without_frame z t) (given_up by_plain t z) (same_unframed z t) (same_unpatched (without_frame z t) t)

-- nothing of its writes is another
abbrev Alike : MarksDevice → List FirmWrite → MarksDevice → Type 0
Alike d u y =
    (y.history ≡ d.history) × (y.plans ≡ d.plans) × (y.store.device ≡ d.store.device) × (y.store.geometry ≡ d.store.geometry)
    × (y.store.cylinders ≡ d.store.cylinders)

alike_closed : (d : MarksDevice) (u : List FirmWrite) (y : MarksDevice) (z : MarksStore) → core_of z ≡ core_of y.store → Alike d u y →
    Alike d u (record y { store = z })
alike_closed d u y z e k = (
  k.0,
  k.1,
  ap (λ (c : Core). c.device) e ∙ k.2,
  ap (λ (c : Core). c.geometry) e ∙ k.3,
  ap (λ (c : Core). c.cylinders) e ∙ k.4,
)

lend_alike : (d : MarksDevice) (to : ℕ) → Tells (λ u y (_ : Unit {0}). Alike d u y) [] (lend by_plain d to)
unfolding O.lend
lend_alike d to =
    let same = over_same (tracks_of d.store) (given_up by_plain) given_same (noted_begin d.store) in
    end_tells d (Alike d) (alike_closed d) []
    (with_tracks (event_begun d) (lent_to (L.over (tracks_of d.store) (given_up by_plain) (noted_begin d.store)) to)) tt
    (refl, refl, ap (λ (c : Core). c.device) same.core, ap (λ (c : Core). c.geometry) same.core, ap (λ (c : Core). c.cylinders) same.core)

module _ (firsts : Firsts) (n : ℕ) (m : Mounted) (s : Subsystem) (there : mounted_in s.mounted n ≡ Some m) (told : IsTold m.device.store)
    (plain : PlainlyFrom firsts m.device) where
  abbrev before : List FirmWrite
  before = firm_writes_on firsts m.device

  -- what the volume of its number held first
  abbrev first : ℕ → List Track
  first = firsts m.device.store.device

  -- the device of that number has these firm writes
  abbrev So : List FirmWrite → MarksDevice → Type 0
  So w d = (d.store.device ≡ n) × (firm_writes d.plans (first_of first d) d.history ≡ w)

  now : So before m.device
  now = (mounted_number s.mounted n m there, refl)

  written : (w : List FirmWrite) (z : Subsystem) → IsAt n (So w) z.mounted → HasWrittenOn firsts w z n
  written w z x =
      let d = x.mounted.device in
      record {
        mounted = x.mounted;
        there = x.there;
        writes = ap (λ (k : ℕ). firm_writes d.plans (first_of (firsts k) d) d.history) (x.is_so.0 ∙ sym now.0) ∙ x.is_so.1;
      }

  none_more : (ms : List Mounted) → IsAt n (So before) ms → IsAt n (So (before ++ [])) ms
  none_more ms x = subst (λ (w : List FirmWrite). IsAt n (So w) ms) (sym (append-nil before)) x

  -- the device at hand
  record Is (d : MarksDevice) : Type 0 where
    beside : PlainlyOn first d
    tells : IsTold d.store
    number : d.store.device ≡ n
    writes : firm_writes d.plans (first_of first d) d.history ≡ before

  mine : Is m.device
  mine = record { beside = plain; tells = told; number = now.0; writes = refl }

  unseen : (k : ℕ) (d : MarksDevice) → d.store.device ≡ k → Rest k ⊥ [] d.store
  unseen k d is = (is, λ none. absurd none)

  -- of another number it tells nothing
  abbrev Own : {X : Type 0} → MarksDevice → Talk X → Type 0
  Own d talk = (k : ℕ) → Rest k ⊥ [] d.store → Keeps k ⊥ [] talk

  own_in : {X : Type 0} (d : MarksDevice) (talk : Talk X) → Own d talk → d.store.device ≡ n → (o : Told) →
      firms_in n (messages true talk o) ≡ all_firms (messages true talk o)
  own_in d talk own is o = own_firms n n (messages true talk o) (eq-eqb n n refl) (own_held (own n (unseen n d is)) o)

  own_not : {X : Type 0} (d : MarksDevice) (talk : Talk X) → Own d talk → (d.store.device == n) ≡ false → (o : Told) →
      firms_in n (messages true talk o) ≡ []
  own_not d talk own other o =
      other_firms d.store.device n (messages true talk o) other (own_held (own d.store.device (unseen d.store.device d refl)) o)

  module _ {X : Type 0} (d : MarksDevice) (x : Is d) (talk : Talk X) (own : Own d talk) where
    left_so : Tells (λ u y (_ : X). Left x.beside.number x.beside.empty d x.beside.follows x.tells u y) [] talk →
        Had talk (λ y (_ : X). Follows x.beside.number x.beside.empty y) → (o : Told) →
        So (before ++ firms_in n (messages true talk o)) (hold true talk o).state
    left_so tells had o =
        let y = (hold true talk o).state in
        let u = all_firms (messages true talk o) in
        let left = tells_held (λ u y (_ : X). Left x.beside.number x.beside.empty d x.beside.follows x.tells u y) tells o in
        let after = held true had o in
        let base = still_first first x.beside.number x.beside.empty y after (first_held first x.beside.empty d x.beside.base) in (
          after.number ∙ sym x.beside.follows.number ∙ x.number,
          ap (λ (e : PlainState). firm_writes y.plans e y.history) (sym base)
              ∙ made_written x.beside.number x.beside.empty d x.beside.follows u y left.0 after left.1
              ∙ ap (λ (e : PlainState). firm_writes d.plans e d.history ++ u) x.beside.base
              ∙ ap (λ (w : List FirmWrite). w ++ u) x.writes
              ∙ ap (λ (w : List FirmWrite). before ++ w) (sym (own_in d talk own x.number o)),
        )

  -- One device

  module _ {X : Type 0} (k : ℕ) (d : MarksDevice) (number : d.store.device ≡ k) (talk : Talk X) (own : Own d talk)
      (main : Is d → (o : Told) → So (before ++ firms_in n (messages true talk o)) (hold true talk o).state) where
    put_so : (y : Mounted) → mounted_in s.mounted k ≡ Some y → y.device ≡ d →
        IsAt n (So (before ++ firms_in n (messages true talk (told_to s.pool y)))) (put_in s.mounted k (mounted_behind (held_with s.pool y talk)))
    put_so y is seat = by_test (k == n) refl
      where
        here : k ≡ n → IsAt n (So (before ++ firms_in n (messages true talk (told_to s.pool y))))
            (put_in s.mounted n (mounted_behind (held_with s.pool y talk)))
        here same =
            let same_device : m ≡ y = some_is (sym there ∙ sym (ap (mounted_in s.mounted) same) ∙ is) in
            let left = main (subst Is (ap (λ (x : Mounted). x.device) same_device ∙ seat) mine) (told_to s.pool y) in
            put_here n (So (before ++ firms_in n (messages true talk (told_to s.pool y)))) s.mounted m (mounted_behind (held_with s.pool y talk)) there
            left.0 left

        by_test : (c : Bool) → (k == n) ≡ c → IsAt n (So (before ++ firms_in n (messages true talk (told_to s.pool y))))
            (put_in s.mounted k (mounted_behind (held_with s.pool y talk)))
        by_test true e =
            subst (λ (j : ℕ). IsAt n (So (before ++ firms_in n (messages true talk (told_to s.pool y))))
            (put_in s.mounted j (mounted_behind (held_with s.pool y talk))))
            (sym (eqb-true k n e)) (here (eqb-true k n e))
        by_test false e =
            let stays = firms_held k (λ u x _. Rest k ⊥ u x.store) (own k (unseen k d number)) (told_to s.pool y) in
            subst (λ (l : List FirmWrite). IsAt n (So (before ++ l)) (put_in s.mounted k (mounted_behind (held_with s.pool y talk))))
            (sym (own_not d talk own (ap (λ (j : ℕ). j == n) number ∙ e) (told_to s.pool y)))
            (none_more (put_in s.mounted k (mounted_behind (held_with s.pool y talk)))
            (put_at n (So before) s.mounted k (mounted_behind (held_with s.pool y talk)) (place n (So before) s m there now) stays.0
            (λ same. absurd (let no : true ≡ false = sym (eq-eqb k n same) ∙ e in cc))))

  -- Looks

  look_main : (d : MarksDevice) (q : ℕ) → Is d → (o : Told) →
      So (before ++ firms_in n (messages true (peek by_plain d q) o)) (hold true (peek by_plain d q) o).state
  look_main d q x o =
      let talk = peek by_plain d q in
      let y = (hold true talk o).state in
      let u = all_firms (messages true talk o) in
      let f = x.beside.follows in
      let own : Own d talk = λ k g. peek_keeps k ⊥ d q g in
      let left = tells_held (λ u z _. Looked x.beside.number x.beside.empty d x.beside.follows x.tells u z)
      (peek_left x.beside.number x.beside.empty d f x.tells q) o in
      let sized = peek_sized d q o in
      let empty : first_of first y ≡ x.beside.empty =
      ap (λ (g : Geometry). first_state g y.store.cylinders (first y.store.cylinders)) sized.geometry
      ∙ ap (λ (c : ℕ). first_state d.store.geometry c (first c)) sized.cylinders
      ∙ sym x.beside.base in (
        sized.device ∙ x.number,
        ap (λ (e : PlainState). firm_writes y.plans e y.history) empty
            ∙ acts_written x.beside.number x.beside.empty d f u y left.0 left.1 left.2
            ∙ ap (λ (e : PlainState). firm_writes d.plans e d.history ++ u) x.beside.base
            ∙ ap (λ (w : List FirmWrite). w ++ u) x.writes
            ∙ ap (λ (w : List FirmWrite). before ++ w) (sym (own_in d talk own x.number o)),
      )

  look_so : (k q : ℕ) (o : Option Mounted) → mounted_in s.mounted k ≡ o →
      IsAt n (So (before ++ firms_in n (messages_at s q o))) (looked_at s k q o).behind.mounted
  look_so k q None is = none_more s.mounted (place n (So before) s m there now)
  look_so k q (Some y) is =
      put_so k y.device (mounted_number s.mounted k y is) (peek by_plain y.device q) (λ j g. peek_keeps j ⊥ y.device q g)
      (λ x o. look_main y.device q x o) y is refl

  pub written_look : (k q : ℕ) → HasWrittenOn firsts (before ++ firms_in n (look_messages s k q)) (looked s k q).behind n
  unfolding K.looked
  written_look k q =
      written (before ++ firms_in n (look_messages s k q)) (looked s k q).behind (look_so k q (mounted_in s.mounted k) refl)

  -- Each device, where one has the number

  module _ (f : MarksDevice → Talk (Unit {0})) (own : (d : MarksDevice) → Own d (f d))
      (main : (d : MarksDevice) → Is d → (o : Told) → So (before ++ firms_in n (messages true (f d) o)) (hold true (f d) o).state) where
    others_none : (ms : List Mounted) (pool : Pool) → mounted_in ms n ≡ None → firms_in n (swept_messages f ms pool) ≡ []
    unfolding M.swept_messages
    others_none [] pool none = refl
    others_none (x ∷ ms) pool none = by_test (number_of x == n) refl none (others_none ms)
      where
        by_test : (c : Bool) → (number_of x == n) ≡ c → (if c then Some x else mounted_in ms n) ≡ None →
            ((q : Pool) → mounted_in ms n ≡ None → firms_in n (swept_messages f ms q) ≡ []) →
            firms_in n (messages true (f x.device) (told_to pool x) ++ swept_messages f ms (held_with pool x (f x.device)).told.pool) ≡ []
        by_test true e off later = absurd (cc)
        by_test false e off later =
            firms_more n (messages true (f x.device) (told_to pool x)) (swept_messages f ms (held_with pool x (f x.device)).told.pool)
            ∙ ap (λ (l : List FirmWrite). l ++ firms_in n (swept_messages f ms (held_with pool x (f x.device)).told.pool))
            (own_not x.device (f x.device) (own x.device) e (told_to pool x))
            ∙ later (held_with pool x (f x.device)).told.pool off

    swept_so : (ms : List Mounted) (pool : Pool) → mounted_in ms n ≡ Some m → has_one n ms ≡ true →
        IsAt n (So (before ++ firms_in n (swept_messages f ms pool))) (sweep f ms pool).mounted
    unfolding M.swept_messages H.sweep
    swept_so [] pool at one = absurd (cc)
    swept_so (x ∷ ms) pool at one = by_test (number_of x == n) refl at one (swept_so ms)
      where
        by_test : (c : Bool) → (number_of x == n) ≡ c → (if c then Some x else mounted_in ms n) ≡ Some m →
            (if c then not (is_some (mounted_in ms n)) else has_one n ms) ≡ true →
            ((q : Pool) → mounted_in ms n ≡ Some m → has_one n ms ≡ true → IsAt n (So (before ++ firms_in n (swept_messages f ms q))) (sweep f ms q).mounted) →
            IsAt n (So (before ++ firms_in n (messages true (f x.device) (told_to pool x) ++ swept_messages f ms (held_with pool x (f x.device)).told.pool)))
            (mounted_behind (held_with pool x (f x.device)) ∷ (sweep f ms (held_with pool x (f x.device)).told.pool).mounted)
        by_test true e is only later =
            let later_pool = (held_with pool x (f x.device)).told.pool in
            let ms_told = messages true (f x.device) (told_to pool x) in
            let same : m ≡ x = sym (some_is is) in
            let left = main x.device (subst (λ (y : Mounted). Is y.device) same mine) (told_to pool x) in
            subst (λ (w : List FirmWrite). IsAt n (So (before ++ w))
            (mounted_behind (held_with pool x (f x.device)) ∷ (sweep f ms (held_with pool x (f x.device)).told.pool).mounted))
            (sym (firms_more n ms_told (swept_messages f ms later_pool)
            ∙ ap (λ (l : List FirmWrite). firms_in n ms_told ++ l) (others_none ms later_pool (none_of (mounted_in ms n) only))
            ∙ append-nil (firms_in n ms_told)))
            (first_at n (So (before ++ firms_in n ms_told)) (mounted_behind (held_with pool x (f x.device)))
            (sweep f ms (held_with pool x (f x.device)).told.pool).mounted left.0 left)
          where
            none_of : (o : Option Mounted) → not (is_some o) ≡ true → o ≡ None
            none_of None e = refl
            none_of (Some y) e = absurd (cc)
        by_test false e is only later =
            let k = x.device.store.device in
            let later_pool = (held_with pool x (f x.device)).told.pool in
            let ms_told = messages true (f x.device) (told_to pool x) in
            let stays = firms_held k (λ u y _. Rest k ⊥ u y.store) (own x.device k (unseen k x.device refl)) (told_to pool x) in
            subst (λ (w : List FirmWrite). IsAt n (So (before ++ w))
            (mounted_behind (held_with pool x (f x.device)) ∷ (sweep f ms (held_with pool x (f x.device)).told.pool).mounted))
            (sym (firms_more n ms_told (swept_messages f ms later_pool)
            ∙ ap (λ (l : List FirmWrite). l ++ firms_in n (swept_messages f ms later_pool))
            (own_not x.device (f x.device) (own x.device) e (told_to pool x))))
            (later_at n (So (before ++ firms_in n (swept_messages f ms later_pool))) (mounted_behind (held_with pool x (f x.device)))
            (sweep f ms (held_with pool x (f x.device)).told.pool).mounted (ap (λ (j : ℕ). j == n) stays.0 ∙ e) (later later_pool is only))

  -- Deeds

  module _ (one : has_one n s.mounted ≡ true) where
    abbrev Claim : MarksDeed → Type 0
    Claim x = IsAt n (So (before ++ firms_in n (deed_messages s x))) (happens_by s x).behind.mounted

    stood : (d : MarksDevice) → Stands s d → d.store.device ≡ n → So before d
    stood d x same = subst (So before) (seat_of s d x m (ap (mounted_in s.mounted) same ∙ there)) now

    asks_claim : {X : Type 0} (d : MarksDevice) (talk : Talk X) (f : X → Option EventEnd) → Stands s d → Own d talk →
        ((x : Is d) → Tells (λ u y (_ : X). Left x.beside.number x.beside.empty d x.beside.follows x.tells u y) [] talk) →
        ((x : Is d) → Had talk (λ y (_ : X). Follows x.beside.number x.beside.empty y)) →
        Claim (Asks d (and_then talk (λ e a. Done e (f a))))
    asks_claim d talk f stands own tells had = by_found (mounted_in s.mounted d.store.device) refl
      where
        all_own : Own d (and_then talk (λ e a. Done e (f a)))
        all_own k g = firms_then (λ e a. Done e (f a)) (own k g) (λ u e a r. firms_done r)

        main : Is d → (o : Told) → So (before ++ firms_in n (messages true (and_then talk (λ e a. Done e (f a))) o))
            (hold true (and_then talk (λ e a. Done e (f a))) o).state
        main x o =
            left_so d x (and_then talk (λ e a. Done e (f a))) all_own (firms_then (λ e a. Done e (f a)) (tells x) (λ u y a k. firms_done k))
            (had_then (had x) (λ y a g. had_done g)) o

        by_found : (o : Option Mounted) → mounted_in s.mounted d.store.device ≡ o →
            IsAt n (So (before ++ firms_in n (asked_messages s o (and_then talk (λ e a. Done e (f a))))))
            (asks s d.store.device o (and_then talk (λ e a. Done e (f a)))).behind.mounted
        by_found None is = none_more s.mounted (place n (So before) s m there now)
        by_found (Some y) is =
            put_so d.store.device d refl (and_then talk (λ e a. Done e (f a))) all_own main y is (seat_of s d stands y is)

    quiet_deed : (x : MarksDeed) → Leaves n (So before) s m there now x → IsAt n (So (before ++ [])) (happens_by s x).behind.mounted
    quiet_deed x h = none_more (happens_by s x).behind.mounted (deed_at n (So before) s m there now x h)

    started : (d : MarksDevice) (path : ℕ) → Stands s d → start_fault d path ≡ None → (start d path).store.device ≡ n → So before (start d path)
    unfolding S.start
    started d path x fault same =
        let y = stood d x same in
        (y.0, started_written d.plans (first_of first d) d.history path (next_ordinal d path) (starts_where_idle d path fault) ∙ y.1)

    lent_so : (to : ℕ) (o : Told) → So before (hold true (lend by_plain m.device to) o).state
    lent_so to o =
        let y = (hold true (lend by_plain m.device to) o).state in
        let left = tells_held (λ u y _. Alike m.device u y) (lend_alike m.device to) o in (
          left.2 ∙ now.0,
          ap (λ (p : Plans). firm_writes p (first_of first y) y.history) left.1
              ∙ ap (λ (g : Geometry). firm_writes m.device.plans (first_state g y.store.cylinders (first y.store.cylinders)) y.history) left.3
              ∙ ap (λ (c : ℕ). firm_writes m.device.plans (first_state m.device.store.geometry c (first c)) y.history) left.4
              ∙ ap (λ (h : History). firm_writes m.device.plans (first_of first m.device) h) left.0,
        )

    swept : (f : MarksDevice → Talk (Unit {0})) → ((d : MarksDevice) → Own d (f d)) →
        ((d : MarksDevice) (x : Is d) → Tells (λ u y (_ : Unit {0}). Left x.beside.number x.beside.empty d x.beside.follows x.tells u y) [] (f d)) →
        ((d : MarksDevice) (x : Is d) → Had (f d) (λ y (_ : Unit {0}). Follows x.beside.number x.beside.empty y)) → (pool : Pool) →
        Claim (Each pool f)
    swept f own tells had pool = swept_so f own (λ d x o. left_so d x (f d) (own d) (tells d x) (had d x) o) s.mounted pool there one

    claims : IsDeedwise s Claim
    claims = record {
      ended = λ end. quiet_deed (Ends end) tt;
      started = λ d x path fault. quiet_deed (Becomes (start d path) (ends.Started (next_ordinal d path))) (started d path x fault);
      seconded = λ d x h is. asks_claim d (second by_plain d) (λ a. Some (ends.Second a)) x (λ k g. second_keeps k ⊥ d g)
          (λ y. second_left y.beside.number y.beside.empty d y.beside.follows y.tells h is)
          (λ y. second_follows y.beside.number y.beside.empty d y.beside.follows h is);
      commanded = λ d x whole o running. asks_claim d (command by_plain d) (end_of ends.Stepped) x (λ k g. command_keeps k ⊥ d whole g)
          (λ y. command_left y.beside.number y.beside.empty d y.beside.follows y.tells o running whole)
          (λ y. command_follows y.beside.number y.beside.empty d y.beside.follows o running whole);
      worked = λ d x whole. asks_claim d (background by_plain d) (end_of ends.Back) x (λ k g. background_keeps k ⊥ d whole g)
          (λ y. background_left y.beside.number y.beside.empty d y.beside.follows y.tells whole)
          (λ y. background_follows y.beside.number y.beside.empty d y.beside.follows whole);
      cut = λ d x path. asks_claim d (reset by_plain d path) (λ a. Some (ends_done a)) x (λ k g. reset_keeps k ⊥ d path g)
          (λ y. reset_left y.beside.number y.beside.empty d y.beside.follows y.tells path)
          (λ y. reset_follows y.beside.number y.beside.empty d y.beside.follows path);
      lost_cache = swept (λ d. lose by_plain d losses.Cache) (λ d k g. lose_keeps k ⊥ d losses.Cache g)
          (λ d y. cache_left y.beside.number y.beside.empty d y.beside.follows y.tells)
          (λ d y. loss_follows y.beside.number y.beside.empty d y.beside.follows losses.Cache) (cache_failed s.pool);
      lost_store = swept (λ d. lose by_plain d losses.Store) (λ d k g. lose_keeps k ⊥ d losses.Store g)
          (λ d y. store_left y.beside.number y.beside.empty d y.beside.follows y.tells)
          (λ d y. loss_follows y.beside.number y.beside.empty d y.beside.follows losses.Store) (store_failed s.pool);
      lost_side = λ d x side fault.
          asks_claim d (lose by_plain d (losses.Side side)) (λ a. Some (ends_done a)) x (λ k g. lose_keeps k ⊥ d (losses.Side side) g)
          (λ y. side_left y.beside.number y.beside.empty d y.beside.follows y.tells side)
          (λ y. loss_follows y.beside.number y.beside.empty d y.beside.follows (losses.Side side));
      lost_power = swept (power by_plain) (λ d k g. power_keeps k ⊥ d g)
          (λ d y. power_left y.beside.number y.beside.empty d y.beside.follows y.tells)
          (λ d y. power_follows y.beside.number y.beside.empty d y.beside.follows) (power_lost s.pool);
      repaired_cache = quiet_deed (Repairs (cache_repaired s.pool)) tt;
      repaired_store = quiet_deed (Repairs (store_repaired s.pool)) tt;
      lent = λ x y a b fault. quiet_deed (Lends x y) (λ o. lent_so x.store.device o, λ d g. g);
      held = λ d x fault. quiet_deed (Becomes _ ends.Done) (stood d x);
      resumed = λ d x fault. quiet_deed (Becomes _ ends.Done) (stood d x);
    }

    pub written_event : (e : Event) → HasWrittenOn firsts (before ++ firms_in n (event_messages s e)) (happens s e).behind n
    unfolding H.happens M.event_messages
    written_event e =
        let x = deed by_plain s.pool (devices_of s) e in
        written (before ++ firms_in n (deed_messages s x)) (happens_by s x).behind (deed_is s Claim claims e)

  -- The orders for which a volume is handed in tell nothing

  side_so : (side : Side) → So before (replace m.device side)
  side_so A = now
  side_so B = now

  pub written_replaced : (d : ℕ) (side : Side) (volume : Calls) → HasWrittenOn firsts before (replaced s d side volume).behind n
  written_replaced d side volume =
      written before (replaced s d side volume).behind (replaced_there n (So before) s m there now d side volume (side_so side))

  -- a device that was lent gets an empty volume where its pair is taken apart, while it runs nothing: that is no write
  abbrev AtHome : MarksDevice → Type 0
  AtHome d = So before d × IsAtHome d.store.lent d.history.running

  idle_lent : (o : Option ℕ) (k : ℕ) (r : Option OpenEntry) → is_lent_to o k ≡ true → IsAtHome o r → r ≡ None
  idle_lent (Some to) k r lent home = home
  idle_lent None k r lent home = absurd (cc)

  restored : (k : ℕ) (d : MarksDevice) → AtHome d → is_lent_to d.store.lent k ≡ true → AtHome (restore d)
  restored k d x lent =
      ((x.0.0, emptied_written d.plans (first_of first d) d.history (idle_lent d.store.lent k d.history.running lent x.1) ∙ x.0.1), tt)

  pub written_unpaired : (d : ℕ) (volume : Calls) → HasWrittenOn firsts before (unpaired s d volume).behind n
  written_unpaired d volume =
      let x = unpaired_there n AtHome s m there (now, plain.follows.home) (λ y g. g) d volume (restored d) in
      written before (unpaired s d volume).behind (record { mounted = x.mounted; there = x.there; is_so = x.is_so.0 })
