-- A pair is made: what it comes to in a run, and what is told of it.
use Rattle.std.proofs.Common.{◌≡◌, ◌∙◌, ◌+◌, ℕ, Bool, true, false, List, [], ◌∷◌, Option, Some, None, is_some, arith, refl, sym, ap, subst}
use Rattle.std.specs.Prelude.{◌==◌, ◌&&◌, option_map, if◌then◌else◌}
use Rattle.std.proofs.lemmas.Bool.{eqb-true}
use Rattle.std.proofs.lemmas.Bool.Decides.{nat_tests}
use Rattle.device_outside.specs.declared.keep.NoKeep.{NoKeep}
use Rattle.device_outside.specs.declared.volume.Volume.{Ghosts}
use Rattle.device_outside.specs.Interaction.{Done}
use Rattle.device_outside.specs.Outside.{Ran}
use Rattle.device_outside.specs.Pool as pools
use Rattle.device_defs.specs.Contents.{contents}
use Rattle.device_defs.specs.Marks.{MarksDevice}
use Rattle.device_defs.specs.Device.{event_begun}
use Rattle.device_defs.specs.Losses.{over}
use Rattle.device_defs.specs.Orders as O
use Rattle.device_defs.specs.Orders.{given_up, join, lend, lent_to, with_tracks}
use Rattle.device_defs.specs.Store.{tracks_of}
use Rattle.device_laws.proofs.Based.{Base}
use Rattle.device_laws.proofs.Had.{Had, had_done, had_weaker}
use Rattle.device_laws.proofs.PlainEvents.{had_both}
use Rattle.subsystem_core.proofs.Seating.{lend_based}
use Rattle.subsystem_laws.proofs.LendBase.{given_base}
use Rattle.device_store.specs.State.{on_a, on_b}
use Rattle.device_core.specs.declared.device.Device.{Device}
use Rattle.device_core.specs.State.{DefinedDevice, device_of}
use Rattle.frame_pool.specs.Shared.{shared_view}
use Rattle.report_text.specs.declared.order.Order.TheVariants as orders
use Rattle.subsystem_core.specs.declared.end.EventEnd.{EventEnd}
use Rattle.subsystem_core.specs.declared.subsystem.Subsystem.{Subsystem}
use Rattle.subsystem_core.specs.Comes.{Came, CameBy, Joins, OwnDeed}
use Rattle.subsystem_core.specs.Devices.{device_at, devices_of, put_at}
use Rattle.subsystem_core.proofs.Found.{found_in, number_found}
use Rattle.subsystem_defs.specs.declared.end.EventEnd as ends
use Rattle.subsystem_defs.specs.declared.end.EventEnd.TheVariants as answers
use Rattle.subsystem_defs.specs.declared.end.OrderFault.{OrderFault}
use Rattle.subsystem_defs.specs.declared.end.OrderFault.TheVariants.{Paired, Same}
use Rattle.subsystem_defs.specs.declared.event.Event.TheVariants as events
use Rattle.subsystem_defs.specs.Deeds as D
use Rattle.subsystem_defs.specs.Deeds.{Lends, deed, device_in, on_device, order}
use Rattle.subsystem_defs.specs.Happening as H
use Rattle.subsystem_defs.specs.Happening.{happens, happens_by, is_lent_to}
use Rattle.subsystem_defs.specs.Lines.{Once, logged}
use Rattle.subsystem_defs.specs.Refusals as R
use Rattle.subsystem_defs.specs.Refusals.{lent_by, pair_fault, where_so}
use Rattle.subsystem_defs.specs.Subsystem as runs
use Rattle.subsystem_laws.specs.WholeComes as laws
use Rattle.subsystem_laws.specs.WholeComes.{subsystem_of, IsWhatCame}
use Rattle.subsystem_laws.specs.WholeStood as stood
use Rattle.subsystem_laws.specs.WholeStood.{Stood}
use Rattle.subsystem_laws.proofs.WholeHappens.{event_so}
use Rattle.subsystem_defs.proofs.Unrefused.{first_none, where_none}
use Rattle.deck_run.specs.Ordered.{IsOrdered}
use Rattle.deck_run.specs.Owning.{AllOwn, AreOwn, ChainsStand, IsOwn}
use Rattle.deck_run.specs.Sides.{AreAccounted, Sides, all_sides, away_here, lent_here, one_if, paired_here, sides_of, total, volumes_here}
use Rattle.deck_run.specs.Standing.{StandsAs, all_stood, stood_of}
use Rattle.deck_run.specs.Sweeping.{order_end}
use Rattle.deck_run.proofs.Accounted.{map_some, put_long, put_sum, ran_there}
use Rattle.deck_run.proofs.Events.{FitsOwn, hears, own_so}
use Rattle.deck_run.proofs.Found.{chains_are, devices_stood, own_at, own_put, put_stood, stood_found}
use Rattle.deck_run.proofs.Ordered.{IsQuiet, ordered_tells}
use Rattle.deck_run.proofs.Stays.{HasOf, quiet_had}
use Rattle.deck_run.proofs.Surely.{had_still, ran_so}
use Rattle.deck_run.proofs.Sweeping.{blank, order_seen}
use Rattle.deck_run.proofs.Telling.{HavePasts, all_known, put_then, same_pasts}

some_same : {X : Type 0} {x y : X} → Some x ≡ Some y → x ≡ y
some_same e = cc

-- No volume is called

quiet_order : (s : runs.Subsystem) (x y : MarksDevice) (o : Option OrderFault) → IsQuiet s (happens_by s (order o (Lends x y)))
quiet_order s x y None = (refl, (refl, refl))
quiet_order s x y (Some f) = (refl, (refl, refl))

quiet_second : (s : runs.Subsystem) (x : MarksDevice) (o : Option MarksDevice) →
    IsQuiet s (happens_by s (on_device o (λ y. order (pair_fault x y) (Lends x y))))
quiet_second s x None = (refl, (refl, refl))
quiet_second s x (Some y) = quiet_order s x y (pair_fault x y)

quiet_first : (s : runs.Subsystem) (o p : Option MarksDevice) →
    IsQuiet s (happens_by s (on_device o (λ x. on_device p (λ y. order (pair_fault x y) (Lends x y)))))
quiet_first s None p = (refl, (refl, refl))
quiet_first s (Some x) p = quiet_second s x p

pair_quiet : (s : runs.Subsystem) (a b : ℕ) → IsQuiet s (happens s (events.Pair a b))
unfolding H.happens D.deed
pair_quiet s a b = quiet_first s (device_in (runs.devices_of s) a) (device_in (runs.devices_of s) b)

-- Two devices that may be a pair

pub record MayPair (x y : DefinedDevice) : Type 0 where
  pub free_x : x.store.lent ≡ None
  pub free_y : y.store.lent ≡ None
  pub single_x : x.store.paired ≡ false
  pub single_y : y.store.paired ≡ false
  pub other : (x.store.device == y.store.device) ≡ false

none_lent : (o : Option ℕ) → lent_by o ≡ None → o ≡ None
none_lent None e = refl
none_lent (Some to) e = absurd (cc)

pub may_pair : (x y : DefinedDevice) → pair_fault x y ≡ None → MayPair x y
unfolding R.pair_fault
may_pair x y e =
    let a = first_none (where_so (x.store.device == y.store.device) Same) _ e in
    let b = first_none (lent_by x.store.lent) _ a.1 in
    let c = first_none (lent_by y.store.lent) _ b.1 in
    let f = first_none (where_so x.store.paired Paired) _ c.1 in
    let g = first_none (where_so y.store.paired Paired) _ f.1 in
    record {
      free_x = none_lent x.store.lent b.0;
      free_y = none_lent y.store.lent c.0;
      single_x = where_none x.store.paired Paired f.0;
      single_y = where_none y.store.paired Paired g.0;
      other = where_none (x.store.device == y.store.device) Same a.0;
    }

-- The one that lends

pub record HasLent (d : DefinedDevice) (to : ℕ) (y : DefinedDevice) : Type 0 where
  pub own : IsOwn y
  pub history : y.history ≡ d.history
  pub lent : y.store.lent ≡ Some to
  pub number : y.store.device ≡ d.store.device

lend_leaves : (d : DefinedDevice) (to : ℕ) → Had (lend contents d to) (λ y (_ : Unit {0}). (y.plans ≡ d.plans) × (y.chain ≡ d.chain) × (y.history ≡ d.history))
unfolding O.lend
lend_leaves d to =
    quiet_had contents (λ y (_ : Unit {0}). (y.plans ≡ d.plans) × (y.chain ≡ d.chain) × (y.history ≡ d.history)) (λ y z a e k. k) d
    (λ z. Done (with_tracks z (lent_to (over (tracks_of z.store) (given_up contents) z.store) to)) (tt {0})) (had_done (refl, refl, refl))

lend_owns : (d : DefinedDevice) (to : ℕ) → IsOwn d → Had (lend contents d to) (λ y _. HasLent d to y)
lend_owns d to own =
    let given = given_base contents (tracks_of d.store) (event_begun d).store in
    had_weaker (had_both (lend_leaves d to) (had_still (lend_based d to)))
    (λ y a l. record {
      own = own_so d y own.plans (l.1.4 ∙ ap (λ (b : Base). b.geometry) given) l.0.0 (subst (HasOf (FitsOwn d.store.geometry)) (sym l.0.1) own.chain);
      history = l.0.2;
      lent = l.1.2;
      number = l.1.0 ∙ ap (λ (b : Base). b.device) given;
    })

join_own : (d : DefinedDevice) → IsOwn d → IsOwn (join d)
join_own d own = record { plans = own.plans; chain = own.chain }

-- Sums behind two changes

both_more : (before lent first second one l k q : ℕ) → k + before ≡ l + lent → q + first ≡ k + second → before ≡ 0 → lent ≡ one → first ≡ second →
    q ≡ l + one
both_more before lent first second one l k q e f none is same = omega (arith, e, f, none, is, same)

both_paired : (before behind first second one l k q : ℕ) → k + before ≡ l + behind → q + first ≡ k + second → before ≡ 0 → behind ≡ 0 → first ≡ 0 →
    second ≡ one → q ≡ l + one
both_paired before behind first second one l k q e f none no_more alone is = omega (arith, e, f, none, no_more, alone, is)

both_same : (before behind first second l k q : ℕ) → k + before ≡ l + behind → q + first ≡ k + second → before ≡ behind + 1 → second ≡ first + 1 → q ≡ l
both_same before behind first second l k q e f gone came = omega (arith, e, f, gone, came)

both_none : (before behind first second l k q : ℕ) → k + before ≡ l + behind → q + first ≡ k + second → behind ≡ 0 → second ≡ 0 → l ≡ 0 → q ≡ 0
both_none before behind first second l k q e f gone came none = omega (arith, e, f, gone, came, none)

pub and_so : (b c : Bool) → c ≡ true → (b && c) ≡ b
and_so true c is = is
and_so false c is = refl

and_not : (b c : Bool) → c ≡ false → (b && c) ≡ false
and_not true c is = is
and_not false c is = refl

pub first_so : (b c : Bool) → (b && c) ≡ true → b ≡ true
first_so true c e = refl
first_so false c e = e

pub second_so : (b c : Bool) → (b && c) ≡ true → c ≡ true
second_so true c e = e
second_so false c e = absurd (cc)

pub both_so : (b c : Bool) → b ≡ true → c ≡ true → (b && c) ≡ true
both_so true true e f = refl
both_so true false e f = absurd (cc)
both_so false c e f = absurd (cc)

swap_test : (m n : ℕ) → (m == n) ≡ false → (n == m) ≡ false
swap_test m n e = grind (arith, nat_tests)

module _ {V : Type 0} {G : Ghosts V} where
  other_by : (d y : Device V G) (ds : List (Device V G)) (m n : ℕ) (b : Bool) → (d.store.number == m) ≡ b → y.store.number ≡ m → (m == n) ≡ false →
      device_at (put_at ds m y) n ≡ device_at ds n → device_at (if b then y ∷ ds else d ∷ put_at ds m y) n ≡ device_at (d ∷ ds) n
  other_by d y ds m n true e is off rest =
      ap (λ (b : Bool). if b then Some y else device_at ds n) (ap (λ (k : ℕ). k == n) is ∙ off)
      ∙ ap (λ (b : Bool). if b then Some d else device_at ds n) (sym (ap (λ (k : ℕ). k == n) (eqb-true d.store.number m e) ∙ off))
  other_by d y ds m n false e is off rest = ap (λ (o : Option (Device V G)). if d.store.number == n then Some d else o) rest

  -- another device is where it was
  pub put_other : (xs : List (Device V G)) (m n : ℕ) (y : Device V G) → y.store.number ≡ m → (m == n) ≡ false → device_at (put_at xs m y) n ≡ device_at xs n
  put_other [] m n y is off = refl
  put_other (d ∷ ds) m n y is off = other_by d y ds m n (d.store.number == m) refl is off (put_other ds m n y is off)

  module _ (n m : ℕ) (y : DefinedDevice) (old new : Subsystem V G) (j : Joins n m y old new) (x z : Device V G) (at_x : device_at old.devices.items n ≡ Some x)
      (at_z : device_at old.devices.items m ≡ Some z) (is : y ≡ device_of z) (may : MayPair (device_of x) (device_of z)) (own : AreOwn old.devices.items) where
    abbrev between : List (Device V G)
    between = put_at old.devices.items m j.behind

    before_is : j.before ≡ z
    before_is = some_same (sym j.stood ∙ at_z)

    gone : HasLent (device_of z) n (device_of j.behind)
    gone =
        let k : NoKeep = record {} in
        ran_so (λ e _. HasLent (device_of z) n e)
        (subst (λ (e : DefinedDevice). Ran (λ ok. ok ≡ true) hears (lend contents e n) (laws.outside_at (shared_view old.pool) (stood_of j.before) k)
        (device_of j.behind) tt (record (laws.outside_at (shared_view new.pool) (stood_of j.behind) k) { a = Some (G.view j.volume) })) is (j.asked k))
        (lend_owns (device_of z) n (own_at old.devices.items m z own.each at_z))

    behind_number : j.behind.store.number ≡ m
    behind_number = gone.number ∙ number_found old.devices.items m z at_z

    off : (m == n) ≡ false
    off =
        swap_test n m (ap (λ (k : ℕ). k == m) (sym (number_found old.devices.items n x at_x))
        ∙ ap (λ (k : ℕ). x.store.number == k) (sym (number_found old.devices.items m z at_z)) ∙ may.other)

    first_is : j.first ≡ x
    first_is = some_same (sym j.other ∙ put_other old.devices.items m n j.behind behind_number off ∙ at_x)

    second_history : (device_of j.second).history ≡ (device_of j.first).history
    second_history = ap (λ (e : DefinedDevice). e.history) j.joined

    pub pair_pasts : HavePasts old.devices.items new.devices.items
    pair_pasts =
        subst (λ (l : List (Device V G)). HavePasts old.devices.items l) (sym j.stands)
        (put_then old.devices.items (put_at between n j.second) m z j.behind gone.history at_z
        (put_then between (put_at between n j.second) n j.first j.second second_history j.other (same_pasts (put_at between n j.second))))

    own_each : AllOwn new.devices.items
    own_each =
        let each = own_put old.devices.items m j.behind own.each gone.own in
        subst AllOwn (sym j.stands)
        (own_put between n j.second each (subst IsOwn (sym j.joined) (join_own (device_of j.first) (own_at between n j.first each j.other))))

    -- the volume goes from the one to the other
    there_before : is_some (on_a z.store) ≡ true
    there_before = z.store.pair.home (ap (λ (o : Option ℕ). is_some o) may.free_y)

    b_before : is_some (on_b z.store) ≡ false
    b_before = may.single_y

    b_behind : is_some (on_b j.behind.store) ≡ false
    b_behind =
        let k : NoKeep = record {} in
        sym (map_some G.view (on_b j.behind.store)) ∙ (ran_there (j.asked k)).1 ∙ map_some G.view (on_b j.before.store)
        ∙ ap (λ (w : Device V G). is_some (on_b w.store)) before_is ∙ b_before

    lent_second : (device_of j.second).store.lent ≡ (device_of j.first).store.lent
    lent_second = ap (λ (e : DefinedDevice). e.store.lent) j.joined

    number_second : j.second.store.number ≡ n
    number_second = ap (λ (e : DefinedDevice). e.store.device) j.joined ∙ number_found between n j.first j.other

    b_first : is_some (on_b j.first.store) ≡ false
    b_first = ap (λ (w : Device V G). is_some (on_b w.store)) first_is ∙ may.single_x

    b_second : is_some (on_b j.second.store) ≡ true
    b_second = ap (λ (o : Option V). is_some o) j.b

    one_put : (f : Sides → ℕ) → total f (all_sides between) + f (sides_of z) ≡ total f (all_sides old.devices.items) + f (sides_of j.behind)
    one_put f = put_sum f old.devices.items m z j.behind at_z

    two_put : (f : Sides → ℕ) → total f (all_sides (put_at between n j.second)) + f (sides_of j.first) ≡ total f (all_sides between) + f (sides_of j.second)
    two_put f = put_sum f between n j.first j.second j.other

    lent_more : (i : ℕ) → total (lent_here i) (all_sides (put_at between n j.second)) ≡ total (lent_here i) (all_sides old.devices.items) + one_if (n == i)
    lent_more i =
        let f = lent_here i in
        both_more (f (sides_of z)) (f (sides_of j.behind)) (f (sides_of j.first)) (f (sides_of j.second)) (one_if (n == i))
        (total f (all_sides old.devices.items)) (total f (all_sides between)) (total f (all_sides (put_at between n j.second))) (one_put f) (two_put f)
        (ap (λ (o : Option ℕ). one_if (is_lent_to o i)) may.free_y) (ap (λ (o : Option ℕ). one_if (is_lent_to o i)) gone.lent)
        (ap (λ (o : Option ℕ). one_if (is_lent_to o i)) (sym lent_second))

    pair_more : (i : ℕ) → total (paired_here i) (all_sides (put_at between n j.second)) ≡ total (paired_here i) (all_sides old.devices.items) + one_if (n == i)
    pair_more i =
        let f = paired_here i in
        both_paired (f (sides_of z)) (f (sides_of j.behind)) (f (sides_of j.first)) (f (sides_of j.second)) (one_if (n == i))
        (total f (all_sides old.devices.items)) (total f (all_sides between)) (total f (all_sides (put_at between n j.second))) (one_put f) (two_put f)
        (ap one_if (and_not (z.store.number == i) _ b_before)) (ap one_if (and_not (j.behind.store.number == i) _ b_behind))
        (ap one_if (and_not (j.first.store.number == i) _ b_first))
        (ap one_if (and_so (j.second.store.number == i) _ b_second) ∙ ap (λ (k : ℕ). one_if (k == i)) number_second)

    away_none : total away_here (all_sides (put_at between n j.second)) ≡ 0
    away_none =
        let f = away_here in
        both_none (f (sides_of z)) (f (sides_of j.behind)) (f (sides_of j.first)) (f (sides_of j.second))
        (total f (all_sides old.devices.items)) (total f (all_sides between)) (total f (all_sides (put_at between n j.second))) (one_put f) (two_put f)
        (ap one_if (and_not (is_some j.behind.store.pair.lent) _ (ap (λ (o : Option V). is_some o) j.gone)))
        (ap (λ (o : Option ℕ). one_if (is_some o && is_some (on_a j.second.store)))
        (lent_second ∙ ap (λ (w : Device V G). w.store.pair.lent) first_is ∙ may.free_x)) own.accounted.away

    volumes_same : total volumes_here (all_sides (put_at between n j.second)) ≡ total volumes_here (all_sides old.devices.items)
    volumes_same =
        let f = volumes_here in
        both_same (f (sides_of z)) (f (sides_of j.behind)) (f (sides_of j.first)) (f (sides_of j.second))
        (total f (all_sides old.devices.items)) (total f (all_sides between)) (total f (all_sides (put_at between n j.second))) (one_put f) (two_put f)
        (volumes_by (is_some (on_a z.store)) (is_some (on_b z.store)) (is_some (on_a j.behind.store)) (is_some (on_b j.behind.store)) there_before b_before
        (ap (λ (o : Option V). is_some o) j.gone) b_behind)
        (volumes_on (is_some (on_a j.first.store)) (is_some (on_b j.first.store)) (is_some (on_a j.second.store)) (is_some (on_b j.second.store))
        (ap (λ (o : Option V). is_some o) j.a) b_first b_second)
      where
        volumes_by : (a b c d : Bool) → a ≡ true → b ≡ false → c ≡ false → d ≡ false → one_if a + one_if b ≡ (one_if c + one_if d) + 1
        volumes_by true false false false e f g h = refl
        volumes_by false b c d e f g h = absurd (cc)
        volumes_by true true c d e f g h = absurd (cc)
        volumes_by true false true d e f g h = absurd (cc)
        volumes_by true false false true e f g h = absurd (cc)

        volumes_on : (a b c d : Bool) → c ≡ a → b ≡ false → d ≡ true → one_if c + one_if d ≡ (one_if a + one_if b) + 1
        volumes_on true false true true e f g = refl
        volumes_on false false false true e f g = refl
        volumes_on true false false d e f g = absurd (cc)
        volumes_on false false true d e f g = absurd (cc)
        volumes_on a true c d e f g = absurd (cc)
        volumes_on a false c false e f g = absurd (cc)

    pub pair_own : AreOwn new.devices.items
    pair_own = record {
      each = own_each;
      accounted = subst (λ (l : List (Device V G)). AreAccounted (all_sides l)) (sym j.stands) (record {
        away = away_none;
        mates = λ i. lent_more i ∙ ap (λ (k : ℕ). k + one_if (n == i)) (own.accounted.mates i) ∙ sym (pair_more i);
        volumes = volumes_same ∙ own.accounted.volumes ∙ sym (put_long old.devices.items m j.behind) ∙ sym (put_long between n j.second);
      });
    }

    -- The laws' words for it

    empty_side : record (stood_of j.behind) { a = None } ≡ stood_of j.behind
    empty_side =
        ap (λ (o : Option V). record { device = device_of j.behind; a = option_map G.view o; b = option_map G.view (on_b j.behind.store) }) (sym j.gone)

    abbrev lent_stood : Stood
    lent_stood = record { device = device_of j.behind; a = Some (G.view j.volume); b = option_map G.view (on_b j.behind.store) }

    put_is : stood.put_at (all_stood old.devices.items) m (record lent_stood { a = None }) ≡ all_stood between
    put_is =
        ap (λ (s : Stood). stood.put_at (all_stood old.devices.items) m s) empty_side ∙ sym (put_stood old.devices.items m j.behind)

    second_is : stood_of j.second ≡ record { device = join (device_of j.first); a = option_map G.view (on_a j.first.store); b = Some (G.view j.volume) }
    second_is =
        ap (λ (e : DefinedDevice). record { device = e; a = option_map G.view (on_a j.second.store); b = option_map G.view (on_b j.second.store) }) j.joined
        ∙ ap (λ (o : Option V). record { device = join (device_of j.first); a = option_map G.view o; b = option_map G.view (on_b j.second.store) }) j.a
        ∙ ap (λ (o : Option V). record { device = join (device_of j.first); a = option_map G.view (on_a j.first.store); b = option_map G.view o }) j.b

    pub law_joins : laws.Joins hears n m y old.pool.pool (all_stood old.devices.items) new.pool.pool (all_stood new.devices.items)
    law_joins =
        let k : NoKeep = record {} in
        record {
          before = stood_of j.before;
          behind = lent_stood;
          first = stood_of j.first;
          stood = stood_found old.devices.items m j.before j.stood;
          asked = record {
            port = shared_view old.pool;
            after = shared_view new.pool;
            keeper = k;
            later = k;
            pool_before = refl;
            pool_behind = refl;
            ran = j.asked k;
          };
          other = ap (λ (l : List Stood). stood.stood_in l n) put_is ∙ stood_found between n j.first j.other;
          stands = ap all_stood j.stands ∙ put_stood between n j.second
              ∙ ap (λ (s : Stood). stood.put_at (all_stood between) n s) second_is
              ∙ ap (λ (l : List Stood). stood.put_at l n
              (record { device = join (device_of j.first); a = option_map G.view (on_a j.first.store); b = Some (G.view j.volume) }))
              (sym put_is);
        }

  -- The event

  pub record Told (d : OwnDeed) (old new : Subsystem V G) (a : EventEnd) : Type 0 where
    pub end : ends.EventEnd
    pub seen : order_end a ≡ end
    pub comes : laws.CameBy hears d old.pool.pool (all_stood old.devices.items) end new.pool.pool (all_stood new.devices.items)
    pub own : AreOwn new.devices.items
    pub pasts : HavePasts old.devices.items new.devices.items

  module _ (n m : ℕ) (old new : Subsystem V G) (a : EventEnd) (x z : Device V G) (at_x : device_at old.devices.items n ≡ Some x)
      (at_z : device_at old.devices.items m ≡ Some z) (own : AreOwn old.devices.items) where
    told_by : (o : Option OrderFault) → pair_fault (device_of x) (device_of z) ≡ o → CameBy (order o (Lends (device_of x) (device_of z))) old (Some a) new →
        Told (order o (Lends (device_of x) (device_of z))) old new a
    told_by (Some f) free came = record {
      end = answers.Refused f;
      seen = order_seen a (answers.Refused f) tt (came.0 blank);
      comes = (refl, ap (λ s. s.pool) came.1.0, ap all_stood came.1.1);
      own = subst AreOwn (sym came.1.1) own;
      pasts = subst (λ (l : List (Device V G)). HavePasts old.devices.items l) (sym came.1.1) (same_pasts old.devices.items);
    }
    told_by None free came =
        let j : Joins n m (device_of z) old new =
        subst (λ (i : ℕ). Joins i m (device_of z) old new) (number_found old.devices.items n x at_x)
        (subst (λ (i : ℕ). Joins x.store.number i (device_of z) old new) (number_found old.devices.items m z at_z) came.1) in
        let may = may_pair (device_of x) (device_of z) free in
        record {
          end = answers.Done;
          seen = order_seen a answers.Done tt (came.0 blank);
          comes = (
            refl,
            subst (λ (i : ℕ). laws.Joins hears i z.store.number (device_of z) old.pool.pool (all_stood old.devices.items) new.pool.pool
                (all_stood new.devices.items))
                (sym (number_found old.devices.items n x at_x))
                (subst (λ (i : ℕ). laws.Joins hears n i (device_of z) old.pool.pool (all_stood old.devices.items) new.pool.pool (all_stood new.devices.items))
                (sym (number_found old.devices.items m z at_z)) (law_joins n m (device_of z) old new j x z at_x at_z refl may own)),
          );
          own = pair_own n m (device_of z) old new j x z at_x at_z refl may own;
          pasts = pair_pasts n m (device_of z) old new j x z at_x at_z refl may own;
        }

    pub told_so : Came (events.Pair n m) old (Some a) new → Told (deed contents old.pool.pool (devices_of old.devices.items) (events.Pair n m)) old new a
    unfolding D.deed
    told_so came =
        let ds = devices_of old.devices.items in
        let first = found_in old.devices.items n x at_x in
        let second = found_in old.devices.items m z at_z in
        let plain : OwnDeed = order (pair_fault (device_of x) (device_of z)) (Lends (device_of x) (device_of z)) in
        let whole : deed contents old.pool.pool ds (events.Pair n m) ≡ plain =
        ap (λ (o : Option DefinedDevice). on_device o (λ u. on_device (device_in ds m) (λ v. order (pair_fault u v) (Lends u v)))) first
        ∙ ap (λ (o : Option DefinedDevice). on_device o (λ v. order (pair_fault (device_of x) v) (Lends (device_of x) v))) second in
        subst (λ (d : OwnDeed). Told d old new a) (sym whole)
        (told_by (pair_fault (device_of x) (device_of z)) refl (subst (λ (d : OwnDeed). CameBy d old (Some a) new) whole came))

    module _ (came : Came (events.Pair n m) old (Some a) new) where
      pub pair_owns : AreOwn new.devices.items
      pair_owns = (told_so came).own

      pub pair_ordered : (run : runs.Subsystem) → ChainsStand old.devices.items → StandsAs old run →
          IsOrdered (logged (Once (events.Pair n m)) (happens run (events.Pair n m))) (orders.Pair n m) (order_end a) new
      pair_ordered run stand all =
          let t = told_so came in
          let e = events.Pair n m in
          let comes : laws.Comes hears e old.pool.pool (all_stood old.devices.items) t.end new.pool.pool (all_stood new.devices.items) =
          subst (λ (l : List DefinedDevice). laws.CameBy hears (deed contents old.pool.pool l e) old.pool.pool (all_stood old.devices.items) t.end new.pool.pool
          (all_stood new.devices.items)) (sym (devices_stood old.devices.items)) t.comes in
          let is : run ≡ subsystem_of old.pool.pool run.mounted = ap (λ (p : pools.Pool). record { pool = p; mounted = run.mounted }) all.pool in
          let w = event_so hears old.pool.pool new.pool.pool (all_stood old.devices.items) (all_stood new.devices.items) run.mounted t.end all.mounted e
          (chains_are old.devices.items own.each stand) comes in
          let v : IsWhatCame (happens run e) t.end new.pool.pool (all_stood new.devices.items) =
          subst (λ (s : runs.Subsystem). IsWhatCame (happens s e) t.end new.pool.pool (all_stood new.devices.items)) (sym is) w in
          record {
            stands = record { pool = v.left; mounted = v.mounted };
            lines = ordered_tells (Once e) (happens run e) run (orders.Pair n m) (order_end a) old.devices.items new.devices.items (pair_quiet run n m)
                (v.ended ∙ sym t.seen) (λ end ds es. refl) t.pasts (all_known (all_stood old.devices.items) run.mounted all.mounted)
                (all_known (all_stood new.devices.items) (happens run e).behind.mounted v.mounted);
          }
