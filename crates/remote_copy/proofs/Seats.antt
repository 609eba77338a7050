-- After an event or an order a device has its number and its size, and isn't lent where it wasn't and the event doesn't lend it; whether or not
-- memory was had.
use Rattle.std.proofs.Common.{◌≡◌, ◌∙◌, ◌==◌, ℕ, Bool, true, false, List, [], ◌∷◌, Option, Some, None, is_some, refl, sym, ap, subst}
use Rattle.std.specs.Prelude.{if◌then◌else◌, not}
use Rattle.std.proofs.lemmas.Bool.{cond_both, eq-eqb, eqb-true}
use Rattle.ckd_types.specs.declared.paths.Side.{Side}
use Rattle.ckd_types.specs.declared.paths.Side.TheVariants.{A, B}
use Rattle.loss_model.specs.declared.Loss.{Loss}
use Rattle.loss_model.specs.declared.Loss.TheVariants as losses
use Rattle.track_image.specs.Image.{Image}
use Rattle.plain_defs.specs.History.{is_path_of}
use Rattle.device_outside.specs.declared.volume.Volume.{Ghosts}
use Rattle.device_outside.specs.Interaction.{Done, and_then}
use Rattle.device_outside.specs.Keeper.{Hearing}
use Rattle.device_outside.specs.Lists.{is_in}
use Rattle.device_outside.specs.Outside.{Outside, Ran}
use Rattle.device_outside.specs.Pool as pools
use Rattle.device_defs.specs.declared.answers.StartFault.{StartFault}
use Rattle.device_defs.specs.Command.{command}
use Rattle.device_defs.specs.Contents.{contents}
use Rattle.device_defs.specs.Cutting.{power, reset}
use Rattle.device_defs.specs.Device.{event_begun}
use Rattle.device_defs.specs.Events.{background, lose, second}
use Rattle.device_defs.specs.Peek.{Peeked, peek}
use Rattle.device_defs.specs.Orders.{hold_side, join, replace, restore, resume, split}
use Rattle.device_defs.specs.Start as starting
use Rattle.device_defs.specs.Start.{next_ordinal, start, start_fault}
use Rattle.device_defs.specs.Store.{tracks_of}
use Rattle.device_laws.proofs.Based.{Any, Base, Based, based_done, based_then, kept}
use Rattle.device_laws.proofs.BasedEvents.{base_in, background_based, command_based, lose_based, power_based, reset_body, second_based, with_one_loss}
use Rattle.device_laws.proofs.Based.{based_any}
use Rattle.device_laws.proofs.KeepLaws.{ran_same}
use Rattle.device_core.specs.declared.device.Device.{Device}
use Rattle.device_core.specs.State.{DefinedDevice, device_of}
use Rattle.frame_pool.specs.Shared.{Shared}
use Rattle.subsystem_core.specs.declared.end.EventEnd as ends
use Rattle.subsystem_core.specs.declared.subsystem.Subsystem.{Subsystem}
use Rattle.subsystem_core.specs.Comes.{AreStill, BecameBy, CameKept, CameKeptBy, Changes, IsRestored, JoinsKept, OwnDeed, Parts, Replaced, ReplacedBy, Restored, SweptBy, SweepsKept, Talk, Unpaired, UnpairedBy, next, over, none_was_lent, this_was_lent, another_was_lent}
use Rattle.subsystem_core.specs.Devices.{device_at, devices_of, numbers_of, put_at}
use Rattle.subsystem_core.specs.Places.{may_come}
use Rattle.subsystem_core.proofs.Found.{at_other, found_in, number_found}
use Rattle.subsystem_core.proofs.Numbers.{both}
use Rattle.subsystem_core.proofs.Seating.{lend_based}
use Rattle.subsystem_laws.proofs.LendBase.{given_base}
use Rattle.subsystem_defs.specs.declared.end.EventEnd.{EventEnd}
use Rattle.subsystem_defs.specs.declared.end.EventEnd.TheVariants as answers
use Rattle.subsystem_defs.specs.declared.end.OrderFault.{OrderFault}
use Rattle.subsystem_defs.specs.declared.end.OrderFault.TheVariants.{Down, Up}
use Rattle.subsystem_defs.specs.declared.event.Event.{Event}
use Rattle.subsystem_defs.specs.declared.event.Event.TheVariants as events
use Rattle.subsystem_defs.specs.Deeds as D
use Rattle.subsystem_defs.specs.Deeds.{Asks, Becomes, Each, Ends, Lends, Repairs, back, deed, device_in, end_of, ends_by, ends_done, may_end_by, on_device, order, seconds, start_by, starts, step}
use Rattle.subsystem_defs.specs.Refusals.{fail_fault, pair_fault, replace_fault, resume_fault, suspend_fault, unpair_fault}
use Rattle.subsystem_laws.proofs.looking.Keeps.{peek_keeps_own}
use Rattle.deck_run.proofs.Events.{has_one}
use Rattle.remote_copy.specs.Mirroring.{is_lending}

some_same : {X : Type 0} {x y : X} → Some x ≡ Some y → x ≡ y
some_same e = cc

heads : {X : Type 0} {x y : X} {xs ys : List X} → x ∷ xs ≡ y ∷ ys → x ≡ y
heads e = cc

tails : {X : Type 0} {x y : X} {xs ys : List X} → x ∷ xs ≡ y ∷ ys → xs ≡ ys
tails e = cc

-- Seats

pub record IsSeat (b x : Base) : Type 0 where
  pub device : x.device ≡ b.device
  pub geometry : x.geometry ≡ b.geometry
  pub cylinders : x.cylinders ≡ b.cylinders
  pub home : b.lent ≡ None → x.lent ≡ None

same_base : (b : Base) → IsSeat b b
same_base b = record { device = refl; geometry = refl; cylinders = refl; home = λ e. e }

-- a talk of a device leaves it in its seat
record Leaves {A : Type 0} (d : DefinedDevice) (talk : Talk A) : Type 0 where
  base : Base
  seat : IsSeat (kept d.store) base
  based : Based base_in Any base talk

ran_leaves : {A K : Type 0} {had : Bool → Type 0} {hears : Hearing Image K} {d e : DefinedDevice} {talk : Talk A} {a : A} {u z : Outside (List ℕ) K} → Leaves d talk →
    Ran had hears talk u e a z → IsSeat (kept d.store) (kept e.store)
ran_leaves l r =
    let same = ran_same l.based r in
    record {
      device = same.device ∙ l.seat.device;
      geometry = same.geometry ∙ l.seat.geometry;
      cylinders = same.cylinders ∙ l.seat.cylinders;
      home = λ e. same.lent ∙ l.seat.home e;
    }

-- an answer changes nothing of it
answered : {A C : Type 0} (d : DefinedDevice) (talk : Talk A) (f : A → C) → Leaves d talk → Leaves d (and_then talk (λ e a. Done e (f a)))
answered d talk f l =
    record { base = l.base; seat = l.seat; based = based_then (λ e a. Done e (f a)) l.based (λ e a. based_done refl) }

module _ (d : DefinedDevice) where
  leaves_command : Leaves d (command contents d)
  leaves_command = record { base = kept d.store; seat = same_base (kept d.store); based = command_based contents d }

  leaves_second : Leaves d (second contents d)
  leaves_second = record { base = kept d.store; seat = same_base (kept d.store); based = second_based contents d }

  leaves_work : Leaves d (background contents d)
  leaves_work = record { base = kept d.store; seat = same_base (kept d.store); based = background_based contents d }

  leaves_reset : (path : ℕ) → Leaves d (reset contents d path)
  leaves_reset path = record { base = kept d.store; seat = same_base (kept d.store); based = based_any (reset_body contents d path) }

  leaves_loss : (loss : Loss) → Leaves d (lose contents d loss)
  leaves_loss loss = record {
    base = with_one_loss loss (kept d.store);
    seat = record { device = refl; geometry = refl; cylinders = refl; home = λ e. e };
    based = lose_based contents d loss;
  }

  leaves_power : Leaves d (power contents d)
  leaves_power = record {
    base = with_one_loss losses.Cache (kept d.store);
    seat = record { device = refl; geometry = refl; cylinders = refl; home = λ e. e };
    based = power_based contents d;
  }

  started_seat : (path : ℕ) → IsSeat (kept d.store) (kept (start d path).store)
  unfolding starting.start
  started_seat path = same_base (kept d.store)

module _ {V : Type 0} {G : Ghosts V} where
  abbrev pub SameSeat : Device V G → Device V G → Type 0
  SameSeat x y = IsSeat (kept (device_of x).store) (kept (device_of y).store)

  same_seat : (x : Device V G) → SameSeat x x
  same_seat x = same_base (kept (device_of x).store)

  -- as another device of the definitions sits
  seat_as : (x y : Device V G) (d : DefinedDevice) → device_of y ≡ d → IsSeat (kept (device_of x).store) (kept d.store) → SameSeat x y
  seat_as x y d is seat = subst (λ (e : DefinedDevice). IsSeat (kept (device_of x).store) (kept e.store)) (sym is) seat

  then_seat : (x y z : Device V G) → SameSeat x y → SameSeat y z → SameSeat x z
  then_seat x y z a b = record {
    device = b.device ∙ a.device;
    geometry = b.geometry ∙ a.geometry;
    cylinders = b.cylinders ∙ a.cylinders;
    home = λ e. b.home (a.home e);
  }

  -- the device of this number is there, in the seat of this one
  pub record Sits (n : ℕ) (ys : List (Device V G)) (x : Device V G) : Type 0 where
    pub device : Device V G
    pub found : device_at ys n ≡ Some device
    pub seat : SameSeat x device

  pub sits_still : (n : ℕ) (xs ys : List (Device V G)) (x : Device V G) → ys ≡ xs → device_at xs n ≡ Some x → Sits n ys x
  sits_still n xs ys x same at =
      record { device = x; found = ap (λ (l : List (Device V G)). device_at l n) same ∙ at; seat = same_seat x }

  -- Another device in a place

  put_by : (d x y : Device V G) (ds : List (Device V G)) (n : ℕ) (b : Bool) → (d.store.number == n) ≡ b → y.store.number ≡ n →
      (device_at ds n ≡ Some x → device_at (put_at ds n y) n ≡ Some y) → (if b then Some d else device_at ds n) ≡ Some x →
      device_at (if b then y ∷ ds else d ∷ put_at ds n y) n ≡ Some y
  put_by d x y ds n true e is rest at = ap (λ (b : Bool). if b then Some y else device_at ds n) (eq-eqb y.store.number n is)
  put_by d x y ds n false e is rest at = ap (λ (b : Bool). if b then Some d else device_at (put_at ds n y) n) e ∙ rest at

  put_found : (ds : List (Device V G)) (n : ℕ) (x y : Device V G) → device_at ds n ≡ Some x → y.store.number ≡ n → device_at (put_at ds n y) n ≡ Some y
  put_found [] n x y at is = absurd (cc)
  put_found (d ∷ ds) n x y at is = put_by d x y ds n (d.store.number == n) refl is (λ a. put_found ds n x y a is) at

  module _ (n m : ℕ) (xs : List (Device V G)) (u v x : Device V G) (stood : device_at xs m ≡ Some u) (seat : SameSeat u v)
      (at : device_at xs n ≡ Some x) where
    put_number : v.store.number ≡ m
    put_number = seat.device ∙ number_found xs m u stood

    put_test : (b : Bool) → (m == n) ≡ b → Sits n (put_at xs m v) x
    put_test true e =
        let same : m ≡ n = eqb-true m n e in
        record {
          device = v;
          found = ap (device_at (put_at xs m v)) (sym same) ∙ put_found xs m u v stood put_number;
          seat = subst (λ (z : Device V G). SameSeat z v) (some_same (sym stood ∙ ap (device_at xs) same ∙ at)) seat;
        }
    put_test false e = record { device = x; found = at_other xs m n v put_number e ∙ at; seat = same_seat x }

    put_sits : Sits n (put_at xs m v) x
    put_sits = put_test (m == n) refl

  pub changed_sits : (n m : ℕ) (how : Device V G → Device V G → Type 0) (xs ys : List (Device V G)) (x : Device V G) (ch : Changes m how xs ys) →
      SameSeat ch.before ch.behind → device_at xs n ≡ Some x → Sits n ys x
  changed_sits n m how xs ys x ch seat at =
      subst (λ (l : List (Device V G)). Sits n l x) (sym ch.stands) (put_sits n m xs ch.before ch.behind x ch.stood seat at)

  -- a look leaves a device in its seat
  pub seat_of_own : {K : Type 0} {had : Bool → Type 0} {hears : Hearing Image K} (x y : Device V G) (t : ℕ) {a : Option Peeked} {u w : Outside (List ℕ) K} →
      Ran had hears (peek contents (device_of x) t) u (device_of y) a w → SameSeat x y
  seat_of_own x y t ran =
      let own = peek_keeps_own (device_of x) (device_of y) t ran in
      record { device = own.number; geometry = own.geometry; cylinders = own.cylinders; home = λ e. own.lent ∙ e }

  -- Each device in its turn

  next_sits : (n : ℕ) (u v x : Device V G) (us vs : List (Device V G)) → SameSeat u v → (device_at us n ≡ Some x → Sits n vs x) → (b : Bool) →
      (u.store.number == n) ≡ b → (if b then Some u else device_at us n) ≡ Some x → Sits n (v ∷ vs) x
  next_sits n u v x us vs seat rest true e at = record {
    device = v;
    found = ap (λ (b : Bool). if b then Some v else device_at vs n) (ap (λ (k : ℕ). k == n) seat.device ∙ e);
    seat = subst (λ (z : Device V G). SameSeat z v) (some_same at) seat;
  }
  next_sits n u v x us vs seat rest false e at =
      let more = rest at in
      record {
        device = more.device;
        found = ap (λ (b : Bool). if b then Some v else device_at vs n) (ap (λ (k : ℕ). k == n) seat.device ∙ e) ∙ more.found;
        seat = more.seat;
      }

  swept_sits : {K : Type 0} {hears : Hearing Image K} (n : ℕ) (f : DefinedDevice → Talk (Unit {0})) → ((d : DefinedDevice) → Leaves d (f d)) →
      {s z : Shared × K} {xs ys : List (Device V G)} → SweptBy (SweepsKept hears f) s xs ys z → (x : Device V G) → device_at xs n ≡ Some x → Sits n ys x
  swept_sits n f l over x at = absurd (cc)
  swept_sits n f l (next {x = u} {y = v} {xs = us} {ys = vs} ran rest) x at =
      next_sits n u v x us vs (ran_leaves (l (device_of u)) ran) (swept_sits n f l rest x) (u.store.number == n) refl at

  -- Deeds

  record SeatOf (xs : List (Device V G)) (m : ℕ) (p : Device V G → Type 0) : Type 0 where
    device : Device V G
    found : device_at xs m ≡ Some device
    is_so : p device

  module _ (n : ℕ) (xs : List (Device V G)) where
    -- what a deed leaves of its devices
    abbrev Seated : OwnDeed → Type 0
    Seated (Ends end) = Unit {0}
    Seated (Becomes d end) = SeatOf xs d.store.device (λ x. IsSeat (kept (device_of x).store) (kept d.store))
    Seated (Asks d talk) = SeatOf xs d.store.device (λ x. Leaves (device_of x) talk)
    Seated (Each pool f) = (d : DefinedDevice) → Leaves d (f d)
    Seated (Repairs pool) = Unit {0}
    Seated (Lends a b) = (b.store.device == n) ≡ false

    own_place : (m : ℕ) (x : Device V G) → device_at xs m ≡ Some x → device_at xs x.store.number ≡ Some x
    own_place m x at = ap (device_at xs) (number_found xs m x at) ∙ at

    asks_seated : {C : Type 0} (m : ℕ) (x : Device V G) (talk : Talk C) (f : C → Option EventEnd) → device_at xs m ≡ Some x →
        Leaves (device_of x) talk → Seated (Asks (device_of x) (and_then talk (λ e a. Done e (f a))))
    asks_seated m x talk f at l = record { device = x; found = own_place m x at; is_so = answered (device_of x) talk f l }

    -- of a device in its seat
    becomes_seated : (m : ℕ) (x : Device V G) (d : DefinedDevice) (end : EventEnd) → device_at xs m ≡ Some x →
        IsSeat (kept (device_of x).store) (kept d.store) → Seated (Becomes d end)
    becomes_seated m x d end at seat = record { device = x; found = ap (device_at xs) seat.device ∙ own_place m x at; is_so = seat }

    order_seated : (o : Option OrderFault) (d : OwnDeed) → Seated d → Seated (order o d)
    order_seated (Some fault) d s = tt
    order_seated None d s = s

    abbrev OnDevice : (DefinedDevice → OwnDeed) → Option DefinedDevice → Type 0
    OnDevice f o = Seated (on_device o f)

    at_device : (m : ℕ) (f : DefinedDevice → OwnDeed) → is_in m (numbers_of xs) ≡ true →
        ((x : Device V G) → device_at xs m ≡ Some x → Seated (f (device_of x))) → Seated (on_device (device_in (devices_of xs) m) f)
    at_device m f here h =
        let one = has_one xs m here in
        subst (OnDevice f) (sym (found_in xs m one.device one.found)) (h one.device one.found)

    start_seated : (path m : ℕ) (x : Device V G) (o : Option StartFault) → device_at xs m ≡ Some x → Seated (start_by (device_of x) path o)
    start_seated path m x (Some fault) at = tt
    start_seated path m x None at = becomes_seated m x (start (device_of x) path) (answers.Started (next_ordinal (device_of x) path)) at (started_seat (device_of x) path)

    starts_seated : (path m : ℕ) (x : Device V G) → device_at xs m ≡ Some x → Seated (starts path (device_of x))
    starts_seated path m x at =
        cond_both (is_path_of (device_of x).history.running path) (Ends answers.Running) (start_by (device_of x) path (start_fault (device_of x) path)) Seated
        (λ _. tt) (λ _. start_seated path m x (start_fault (device_of x) path) at)

    second_seated : (m : ℕ) (x : Device V G) → device_at xs m ≡ Some x → Seated (seconds contents (device_of x))
    second_seated m x at = asks_seated m x (second contents (device_of x)) (λ a. Some (answers.Second a)) at (leaves_second (device_of x))

    step_seated : (m : ℕ) (x : Device V G) → device_at xs m ≡ Some x → Seated (step contents (device_of x))
    step_seated m x at =
        cond_both (is_some (device_of x).store.half) (seconds contents (device_of x))
        (if is_some (device_of x).history.running then Asks (device_of x) (may_end_by answers.Stepped (command contents (device_of x))) else Ends answers.Idle)
        Seated (λ _. second_seated m x at)
        (λ _. cond_both (is_some (device_of x).history.running) (Asks (device_of x) (may_end_by answers.Stepped (command contents (device_of x))))
        (Ends answers.Idle) Seated
        (λ _. asks_seated m x (command contents (device_of x)) (end_of answers.Stepped) at (leaves_command (device_of x))) (λ _. tt))

    back_seated : (m : ℕ) (x : Device V G) → device_at xs m ≡ Some x → Seated (back contents (device_of x))
    back_seated m x at =
        cond_both (is_some (device_of x).store.half) (seconds contents (device_of x))
        (Asks (device_of x) (may_end_by answers.Back (background contents (device_of x)))) Seated (λ _. second_seated m x at)
        (λ _. asks_seated m x (background contents (device_of x)) (end_of answers.Back) at (leaves_work (device_of x)))

    refused_or : (b : Bool) (fault : OrderFault) (d : OwnDeed) → Seated d → Seated (D.order_if_not b fault d)
    refused_or b fault d s = cond_both b (Ends (answers.Refused fault)) d Seated (λ _. tt) (λ _. s)

    repair_seated : (up : Bool) (pool repaired : pools.Pool) → Seated (D.repair up pool repaired)
    repair_seated up pool repaired =
        refused_or up Up (if pools.all_waiting pool == 0 then Repairs repaired else Ends (answers.Pending (pools.all_waiting pool)))
        (cond_both (pools.all_waiting pool == 0) (Repairs repaired) (Ends (answers.Pending (pools.all_waiting pool))) Seated (λ _. tt) (λ _. tt))

    deed_seated : (pool : pools.Pool) (e : Event) → may_come (numbers_of xs) e ≡ true → is_lending e n ≡ false →
        Seated (deed contents pool (devices_of xs) e)
    unfolding D.deed
    deed_seated pool (events.Start path m) may off = at_device m (starts path) may (λ x at. starts_seated path m x at)
    deed_seated pool (events.Step m) may off = at_device m (step contents) may (λ x at. step_seated m x at)
    deed_seated pool (events.Back m) may off = at_device m (back contents) may (λ x at. back_seated m x at)
    deed_seated pool (events.Reset path m) may off =
        at_device m (λ y. Asks y (ends_by ends_done (reset contents y path))) may
        (λ x at. asks_seated m x (reset contents (device_of x) path) (λ a. Some (ends_done a)) at (leaves_reset (device_of x) path))
    deed_seated pool events.FailCache may off =
        refused_or (not pool.cache_up) Down (Each (pools.cache_failed pool) (λ x. lose contents x losses.Cache)) (λ d. leaves_loss d losses.Cache)
    deed_seated pool events.FailStore may off =
        refused_or (not pool.store_up) Down (Each (pools.store_failed pool) (λ x. lose contents x losses.Store)) (λ d. leaves_loss d losses.Store)
    deed_seated pool (events.FailVolume m side) may off =
        at_device m (λ y. order (fail_fault y side) (Asks y (ends_by ends_done (lose contents y (losses.Side side))))) may
        (λ x at. order_seated (fail_fault (device_of x) side) (Asks (device_of x) (ends_by ends_done (lose contents (device_of x) (losses.Side side))))
        (asks_seated m x (lose contents (device_of x) (losses.Side side)) (λ a. Some (ends_done a)) at (leaves_loss (device_of x) (losses.Side side))))
    deed_seated pool events.RepairCache may off = repair_seated pool.cache_up pool (pools.cache_repaired pool)
    deed_seated pool events.RepairStore may off = repair_seated pool.store_up pool (pools.store_repaired pool)
    deed_seated pool (events.Pair a b) may off =
        let here = both (is_in a (numbers_of xs)) (is_in b (numbers_of xs)) may in
        at_device a (λ y. on_device (device_in (devices_of xs) b) (λ z. order (pair_fault y z) (Lends y z))) here.0
        (λ x at_x. at_device b (λ z. order (pair_fault (device_of x) z) (Lends (device_of x) z)) here.1
        (λ z at_z. order_seated (pair_fault (device_of x) (device_of z)) (Lends (device_of x) (device_of z))
        (ap (λ (k : ℕ). k == n) (number_found xs b z at_z) ∙ off)))
    deed_seated pool (events.Suspend m) may off =
        at_device m (λ y. order (suspend_fault y) (Becomes (hold_side y) answers.Done)) may
        (λ x at. order_seated (suspend_fault (device_of x)) (Becomes (hold_side (device_of x)) answers.Done)
        (becomes_seated m x (hold_side (device_of x)) answers.Done at (same_seat x)))
    deed_seated pool (events.Resume m) may off =
        at_device m (λ y. order (resume_fault y) (Becomes (resume y) answers.Done)) may
        (λ x at. order_seated (resume_fault (device_of x)) (Becomes (resume (device_of x)) answers.Done)
        (becomes_seated m x (resume (device_of x)) answers.Done at (same_seat x)))
    deed_seated pool events.Power may off = λ d. leaves_power d

  -- What came

  module _ {K : Type 0} (hears : Hearing Image K) (n : ℕ) (old new : Subsystem V G) (k l : K) (x : Device V G)
      (at : device_at old.devices.items n ≡ Some x) where
    found_seat : (m : ℕ) (u : Device V G) (p : Device V G → Type 0) → device_at old.devices.items m ≡ Some u → SeatOf old.devices.items m p → p u
    found_seat m u p stood s = subst p (some_same (sym s.found ∙ stood)) s.is_so

    became_sits : (d : DefinedDevice) (end : EventEnd) (a : Option ends.EventEnd) →
        SeatOf old.devices.items d.store.device (λ y. IsSeat (kept (device_of y).store) (kept d.store)) → BecameBy d end old a new →
        Sits n new.devices.items x
    became_sits d end (Some a) s came =
        let ch = came.2 in
        changed_sits n d.store.device _ old.devices.items new.devices.items x ch
        (seat_as ch.before ch.behind d ch.is_so.0
        (found_seat d.store.device ch.before (λ y. IsSeat (kept (device_of y).store) (kept d.store)) ch.stood s)) at
    became_sits d end None s came =
        let ch = came.1 in
        changed_sits n d.store.device _ old.devices.items new.devices.items x ch
        (seat_as ch.before ch.behind (device_of ch.before) ch.is_so.0 (same_seat ch.before)) at

    joined_sits : (a b : DefinedDevice) → (b.store.device == n) ≡ false → JoinsKept hears a.store.device b.store.device b old new → Sits n new.devices.items x
    joined_sits a b off j =
        let number : j.behind.store.number ≡ b.store.device =
        (ran_same (lend_based b a.store.device) (j.asked k)).device
        ∙ ap (λ (x : Base). x.device) (given_base contents (tracks_of b.store) (event_begun b).store) in
        subst (λ (ys : List (Device V G)). Sits n ys x) (sym j.stands)
        (put_sits n a.store.device (put_at old.devices.items b.store.device j.behind) j.first j.second x j.other
        (seat_as j.first j.second (join (device_of j.first)) j.joined (same_seat j.first))
        (at_other old.devices.items b.store.device n j.behind number off ∙ at))

    deed_sits : (a : Option ends.EventEnd) (d : OwnDeed) → Seated n old.devices.items d → CameKeptBy hears d old k a new l → Sits n new.devices.items x
    deed_sits a (Ends end) s came = sits_still n old.devices.items new.devices.items x came.0.1.1 at
    deed_sits a (Becomes d end) s came = became_sits d end a s came.0
    deed_sits a (Asks d talk) s came =
        changed_sits n d.store.device _ old.devices.items new.devices.items x came
        (ran_leaves (found_seat d.store.device came.before (λ y. Leaves (device_of y) talk) came.stood s) came.is_so) at
    deed_sits a (Each pool f) s came = swept_sits n f s came.1 x at
    deed_sits a (Repairs pool) s came = sits_still n old.devices.items new.devices.items x came.0.2 at
    deed_sits a (Lends y z) s came = joined_sits y z s came.1

    pub came_sits : (a : Option ends.EventEnd) (e : Event) → may_come (numbers_of old.devices.items) e ≡ true → is_lending e n ≡ false →
        CameKept hears e old k a new l → Sits n new.devices.items x
    came_sits a e may off came =
        deed_sits a (deed contents old.pool.pool (devices_of old.devices.items) e) (deed_seated n old.devices.items old.pool.pool e may off) came

  -- The orders for which a volume is handed in

  module _ (n : ℕ) (old new : Subsystem V G) (x : Device V G) (at : device_at old.devices.items n ≡ Some x) where
    replaced_seat : (side : Side) (u : Device V G) → IsSeat (kept (device_of u).store) (kept (replace (device_of u) side).store)
    replaced_seat A u = same_seat u
    replaced_seat B u = same_seat u

    replaced_by_sits : (m : ℕ) (side : Side) (volume : V) (o : Option OrderFault) (end : ends.EventEnd) → ReplacedBy m side volume o old end new →
        Sits n new.devices.items x
    replaced_by_sits m side volume (Some fault) end came = sits_still n old.devices.items new.devices.items x came.1.1 at
    replaced_by_sits m side volume None end came =
        let ch = came.2 in
        changed_sits n m _ old.devices.items new.devices.items x ch
        (seat_as ch.before ch.behind (replace (device_of ch.before) side) ch.is_so.0 (replaced_seat side ch.before)) at

    pub replaced_sits : (m : ℕ) (side : Side) (volume : V) (o : Option (Device V G)) (end : ends.EventEnd) → Replaced m side volume o old end new →
        Sits n new.devices.items x
    replaced_sits m side volume (Some u) end came = replaced_by_sits m side volume (replace_fault (device_of u) side) end came
    replaced_sits m side volume None end came = absurd came

  restored_seat : (u v : Device V G) (volume : V) → IsRestored volume u v → SameSeat u v
  restored_seat u v volume is =
      seat_as u v (restore (device_of u)) is.device (record { device = refl; geometry = refl; cylinders = refl; home = λ e. refl })

  restored_sits : (n m : ℕ) (volume : V) {xs ys : List (Device V G)} → Restored m volume xs ys → (x : Device V G) → device_at xs n ≡ Some x → Sits n ys x
  restored_sits n m volume none_was_lent x at = absurd (cc)
  restored_sits n m volume (this_was_lent {x = u} {y = v} {xs = us} lent is) x at =
      next_sits n u v x us us (restored_seat u v volume is) (sits_still n us us x refl) (u.store.number == n) refl at
  restored_sits n m volume (another_was_lent {x = u} {xs = us} {ys = vs} lent rest) x at =
      next_sits n u u x us vs (same_seat u) (restored_sits n m volume rest x) (u.store.number == n) refl at

  module _ (n : ℕ) (old new : Subsystem V G) (x : Device V G) (at : device_at old.devices.items n ≡ Some x) where
    parted_sits : (m : ℕ) (volume : V) → Parts m volume old.devices.items new.devices.items → Sits n new.devices.items x
    parted_sits m volume p =
        let ch = p.split in
        let first = changed_sits n m _ old.devices.items p.between x ch
        (seat_as ch.before ch.behind (split (device_of ch.before)) ch.is_so.device (same_seat ch.before)) at in
        let last = restored_sits n m volume p.restored first.device first.found in
        record { device = last.device; found = last.found; seat = then_seat x first.device last.device first.seat last.seat }

    unpaired_by_sits : (m : ℕ) (volume : V) (o : Option OrderFault) (end : ends.EventEnd) → UnpairedBy m volume o old end new → Sits n new.devices.items x
    unpaired_by_sits m volume (Some fault) end came = sits_still n old.devices.items new.devices.items x came.1.1 at
    unpaired_by_sits m volume None end came = parted_sits m volume came.2

    pub unpaired_sits : (m : ℕ) (volume : V) (o : Option (Device V G)) (end : ends.EventEnd) → Unpaired m volume o old end new → Sits n new.devices.items x
    unpaired_sits m volume (Some u) end came = unpaired_by_sits m volume (unpair_fault (device_of u)) end came
    unpaired_sits m volume None end came = absurd came

  -- devices that are what they were, though perhaps not their volumes' places
  still_by : (n : ℕ) (xs ys : List (Device V G)) → devices_of ys ≡ devices_of xs → (x : Device V G) → device_at xs n ≡ Some x → Sits n ys x
  still_by n [] ys same x at = absurd (cc)
  still_by n (u ∷ us) [] same x at = absurd (cc)
  still_by n (u ∷ us) (v ∷ vs) same x at =
      next_sits n u v x us vs (seat_as u v (device_of u) (heads same) (same_seat u)) (still_by n us vs (tails same) x) (u.store.number == n) refl at

  pub still_sits : (n : ℕ) (old new : List (Device V G)) (x : Device V G) → AreStill old new → device_at old n ≡ Some x → Sits n new x
  still_sits n old new x still at = still_by n old new still.0 x at
