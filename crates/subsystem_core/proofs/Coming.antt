-- From what a call of a device did to what the event came to.
use Rattle.std.proofs.Common.{◌≡◌, ◌∙◌, ◌<◌, ℕ, Bool, true, false, List, ◌∷◌, Option, Some, None, arith, refl, sym, ap, subst}
use Rattle.std.specs.Prelude.{Result, Ok, Err, IfOk, OnOk, OnErr, IsSome, is_some, not, option_map}
use Rattle.std.specs.Prelude.{◌==◌}
use Rattle.std.proofs.lemmas.Bool.Decides.{nat_tests}
use Rattle.ckd_types.specs.declared.NoMemory.{NoMemory}
use Rattle.ckd_types.specs.declared.paths.Side.{Side}
use Rattle.ckd_types.specs.declared.paths.Side.TheVariants.{A, B}
use Rattle.track_image.specs.Image.{Image}
use Rattle.device_outside.specs.declared.volume.Volume.{Ghosts}
use Rattle.device_outside.specs.Keeper.{Hearing}
use Rattle.device_outside.specs.Outside.{done, where_ok}
use Rattle.device_outside.specs.Pool.{Pool}
use Rattle.device_outside.proofs.Runs.{joined, ran_weaker}
use Rattle.frame_pool.specs.Shared.{Shared}
use Rattle.plain_defs.specs.History.{OpenEntry}
use Rattle.device_defs.specs.declared.answers.Did.{Did}
use Rattle.device_defs.specs.declared.answers.SecondEnd.{SecondEnd}
use Rattle.device_defs.specs.declared.answers.Stepped as defs
use Rattle.device_defs.specs.Contents.{contents}
use Rattle.device_defs.specs.Orders.{replace}
use Rattle.device_defs.specs.Start.{start, next_ordinal}
use Rattle.duplex_pair.specs.Sides.{volume_of}
use Rattle.device_store.specs.State.{surely}
use Rattle.device_core.specs.declared.device.Device.{Device}
use Rattle.device_core.specs.declared.start.NotStarted.{NotStarted}
use Rattle.device_core.specs.declared.history.Stepped.{Stepped}
use Rattle.device_core.specs.declared.second.SecondStep.{SecondStep}
use Rattle.device_core.specs.State.{DefinedDevice, device_of, last_end, second_seen, step_had}
use Rattle.subsystem_defs.specs.declared.end.EventEnd as ends_of
use Rattle.subsystem_defs.specs.declared.end.EventEnd.TheVariants as answers
use Rattle.subsystem_defs.specs.declared.event.Event.{Event}
use Rattle.subsystem_defs.specs.declared.end.OrderFault.{OrderFault}
use Rattle.subsystem_defs.specs.declared.end.OrderFault.TheVariants.{NoSide}
use Rattle.subsystem_defs.specs.Refusals.{first_cause, lent_by, where_so, replace_fault}
use Rattle.subsystem_defs.specs.Deeds.{Ends, Becomes, Asks, Each, Repairs, Lends, ends_by, may_end_by, ends_done, end_of, deed}
use Rattle.subsystem_core.specs.declared.end.EventEnd.{EventEnd}
use Rattle.subsystem_core.specs.declared.end.EventEnd.TheVariants as ends
use Rattle.subsystem_core.specs.declared.subsystem.Subsystem.{Subsystem}
use Rattle.subsystem_core.specs.Comes.{
  OwnDeed,
  Talk,
  with_pool,
  AskedKept,
  Changes,
  SweptKept,
  IsNow,
  IsStill,
  StartsBy,
  IsSame,
  AskedKeptBy,
  CameBy,
  CameKeptBy,
  CameKept,
  JoinsKept,
}
use Rattle.subsystem_core.specs.Devices.{devices_of, device_at}
use Rattle.subsystem_core.specs.Ends.{end_had, Answers}
use Rattle.subsystem_core.proofs.Found.{changed_into, number_found, some_same}

-- A program that runs, as it is seen

pub open_none : (r : Option OpenEntry) → option_map (λ (o : OpenEntry). o.path) r ≡ None → is_some r ≡ false
open_none None is = refl
open_none (Some r) is = absurd (cc)

pub open_some : (r : Option OpenEntry) (p : ℕ) → option_map (λ (o : OpenEntry). o.path) r ≡ Some p → is_some r ≡ true
open_some None p is = absurd (cc)
open_some (Some r) p is = refl

pub runs : (r : Option OpenEntry) (p : ℕ) → option_map (λ (o : OpenEntry). o.path) r ≡ Some p → IsSome r
runs None p is = absurd (cc)
runs (Some r) p is = refl

-- Whether a track waits

pub none_wait : (n : ℕ) → n ≡ 0 → (n == 0) ≡ true
none_wait n is = rw is refl

pub some_wait : (n m : ℕ) → m ≡ n → 0 < m → (n == 0) ≡ false
some_wait n m is more = grind (arith, nat_tests)

pub not_lent : (o : Option ℕ) (rest : List (Option OrderFault)) → first_cause (lent_by o ∷ rest) ≡ None → is_some o ≡ false
not_lent None rest is = refl
not_lent (Some n) rest is = absurd (cc)

no_cause : (o : Option OrderFault) (rest : List (Option OrderFault)) → first_cause (o ∷ rest) ≡ None → first_cause rest ≡ None
no_cause None rest is = is
no_cause (Some f) rest is = absurd (cc)

has_side_by : (b : Bool) (rest : List (Option OrderFault)) → first_cause (where_so (not b) NoSide ∷ rest) ≡ None → b ≡ true
has_side_by true rest is = refl
has_side_by false rest is = absurd (cc)

module _ {V : Type 0} {G : Ghosts V} {K : Type 0} {hears : Hearing Image K} {k l : K} where
  -- What a device ran, as the event's end

  step_ends : (talk : Talk (Option defs.Stepped)) (pool new : Shared) (x y : Device V G) (s : Stepped) →
      AskedKept hears (where_ok {E = NoMemory} (Ok s)) talk (step_had {E = NoMemory} (last_end y) (Ok s)) pool k x y new l →
      AskedKept hears surely (may_end_by answers.Stepped talk) (end_had (last_end y) (Some (ends.Stepped s))) pool k x y new l
  step_ends talk pool new x y s ran = joined _ (ran_weaker (λ ok h. h) ran) done

  step_lacks : (e : NoMemory) (talk : Talk (Option defs.Stepped)) (pool new : Shared) (x y : Device V G) →
      AskedKept hears (where_ok {X = Stepped} (Err e)) talk (step_had (last_end y) (Err e)) pool k x y new l →
      AskedKept hears (λ ok. Unit {0}) (may_end_by answers.Stepped talk) None pool k x y new l
  step_lacks e talk pool new x y ran = joined _ (ran_weaker (λ ok h. tt) ran) done

  back_ends : (talk : Talk (Option Did)) (pool new : Shared) (x y : Device V G) (did : Did) →
      AskedKept hears (where_ok {E = NoMemory} (Ok did)) talk (Some did) pool k x y new l →
      AskedKept hears surely (may_end_by answers.Back talk) (Some (answers.Back did)) pool k x y new l
  back_ends talk pool new x y did ran = joined _ (ran_weaker (λ ok h. h) ran) done

  back_lacks : (e : NoMemory) (talk : Talk (Option Did)) (pool new : Shared) (x y : Device V G) →
      AskedKept hears (where_ok {X = Did} (Err e)) talk None pool k x y new l →
      AskedKept hears (λ ok. Unit {0}) (may_end_by answers.Back talk) None pool k x y new l
  back_lacks e talk pool new x y ran = joined _ (ran_weaker (λ ok h. tt) ran) done

  done_ends : (talk : Talk (Unit {0})) (pool new : Shared) (x y : Device V G) → AskedKept hears surely talk tt pool k x y new l →
      AskedKept hears surely (ends_by ends_done talk) (Some answers.Done) pool k x y new l
  done_ends talk pool new x y ran = joined _ ran done

  second_by : (talk : Talk SecondEnd) (pool new : Shared) (x y : Device V G) (o : Option SecondEnd) → IsSome o →
      ((e : SecondEnd) → o ≡ Some e → AskedKept hears surely talk e pool k x y new l) →
      AskedKept hears surely (ends_by answers.Second talk) (end_of answers.Second o) pool k x y new l
  second_by talk pool new x y None is ran = absurd (cc)
  second_by talk pool new x y (Some e) is ran = joined _ (ran e refl) done

module _ {V : Type 0} {G : Ghosts V} where
  -- Starts

  pub starts_by : (path : ℕ) (r : Result ℕ NoMemory) (o : Result ℕ NotStarted) (x y : Device V G) (fault : NotStarted) →
      IfOk r (λ n. o ≡ Ok n) → OnErr r (o ≡ Err fault) → IfOk o (λ n. n ≡ next_ordinal (device_of x) path) →
      OnOk o (device_of y ≡ start (device_of x) path) → OnErr o (device_of y ≡ device_of x) → y.store ≡ x.store → StartsBy path r x y
  starts_by path (Ok n) o x y fault is lacks ordinal started still store =
      let number : n ≡ next_ordinal (device_of x) path = rw is at ordinal in
      let now : device_of y ≡ start (device_of x) path = rw is at started in
      (number, (now, ap (λ s. s.pair.volumes) store))
  starts_by path (Err e) o x y fault is lacks ordinal started still store =
      let now : device_of y ≡ device_of x = rw lacks at still in
      (now, ap (λ s. s.pair.volumes) store)

  pub same_number : (x : Device V G) (path : ℕ) → (start (device_of x) path).store.device ≡ x.store.number
  unfolding start
  same_number x path = refl

  -- Events

  module _ {K : Type 0} (hears : Hearing Image K) (k l : K) (old new : Subsystem V G) (e : Event) where
    came_by : (a : Option EventEnd) (d : OwnDeed) → deed contents old.pool.pool (devices_of old.devices.items) e ≡ d →
        CameKeptBy hears d old k a new l → CameKept hears e old k a new l
    came_by a d is h = subst (λ x. CameKeptBy hears x old k a new l) (sym is) h

  module _ {K : Type 0} {hears : Hearing Image K} {k l : K} (old new : Subsystem V G) (e : Event) where
    -- a device was asked
    pub asked_one : (n : ℕ) (x : Device V G) (a : Option EventEnd) (talk : Talk (Option ends_of.EventEnd)) (how : Device V G → Device V G → Type 0) →
        device_at old.devices.items n ≡ Some x →
        deed contents old.pool.pool (devices_of old.devices.items) e ≡ Asks (device_of x) talk →
        ((y : Device V G) → how x y → AskedKeptBy hears talk old k a new l x y) → Changes n how old.devices.items new.devices.items →
        CameKept hears e old k a new l
    asked_one n x a talk how found is f ch =
        let number = number_found old.devices.items n x found in
        came_by hears k l old new e a (Asks (device_of x) talk) is
        (subst (λ m. Changes m (AskedKeptBy hears talk old k a new l) old.devices.items new.devices.items) (sym number)
        (changed_into how (AskedKeptBy hears talk old k a new l) found f ch))

    pub commanded : (n : ℕ) (x : Device V G) (how : DefinedDevice → Talk (Option defs.Stepped)) (s : Stepped) →
        device_at old.devices.items n ≡ Some x →
        deed contents old.pool.pool (devices_of old.devices.items) e ≡ Asks (device_of x) (may_end_by answers.Stepped (how (device_of x))) →
        Changes n (λ a y. AskedKept hears (where_ok {E = NoMemory} (Ok s)) (how (device_of a)) (step_had {E = NoMemory} (last_end y) (Ok s)) old.pool k a y
        new.pool l)
        old.devices.items new.devices.items →
        CameKept hears e old k (Some (ends.Stepped s)) new l
    commanded n x how s found is ch =
        asked_one n x (Some (ends.Stepped s)) (may_end_by answers.Stepped (how (device_of x)))
        (λ a y. AskedKept hears (where_ok {E = NoMemory} (Ok s)) (how (device_of a)) (step_had {E = NoMemory} (last_end y) (Ok s)) old.pool k a y new.pool l)
        found is
        (λ y ran. step_ends (how (device_of x)) old.pool new.pool x y s ran) ch

    pub command_lacked : (n : ℕ) (x : Device V G) (how : DefinedDevice → Talk (Option defs.Stepped)) (lack : NoMemory) →
        device_at old.devices.items n ≡ Some x →
        deed contents old.pool.pool (devices_of old.devices.items) e ≡ Asks (device_of x) (may_end_by answers.Stepped (how (device_of x))) →
        Changes n (λ a y. AskedKept hears (where_ok {X = Stepped} (Err lack)) (how (device_of a)) (step_had (last_end y) (Err lack)) old.pool k a y new.pool l)
        old.devices.items new.devices.items →
        CameKept hears e old k None new l
    command_lacked n x how lack found is ch =
        asked_one n x None (may_end_by answers.Stepped (how (device_of x)))
        (λ a y. AskedKept hears (where_ok {X = Stepped} (Err lack)) (how (device_of a)) (step_had (last_end y) (Err lack)) old.pool k a y new.pool l) found is
        (λ y ran. step_lacks lack (how (device_of x)) old.pool new.pool x y ran) ch

    pub worked : (n : ℕ) (x : Device V G) (how : DefinedDevice → Talk (Option Did)) (did : Did) →
        device_at old.devices.items n ≡ Some x →
        deed contents old.pool.pool (devices_of old.devices.items) e ≡ Asks (device_of x) (may_end_by answers.Back (how (device_of x))) →
        Changes n (λ a y. AskedKept hears (where_ok {E = NoMemory} (Ok did)) (how (device_of a)) (Some did) old.pool k a y new.pool l)
        old.devices.items new.devices.items →
        CameKept hears e old k (Some (ends.Back did)) new l
    worked n x how did found is ch =
        asked_one n x (Some (ends.Back did)) (may_end_by answers.Back (how (device_of x)))
        (λ a y. AskedKept hears (where_ok {E = NoMemory} (Ok did)) (how (device_of a)) (Some did) old.pool k a y new.pool l) found is
        (λ y ran. back_ends (how (device_of x)) old.pool new.pool x y did ran) ch

    pub work_lacked : (n : ℕ) (x : Device V G) (how : DefinedDevice → Talk (Option Did)) (lack : NoMemory) →
        device_at old.devices.items n ≡ Some x →
        deed contents old.pool.pool (devices_of old.devices.items) e ≡ Asks (device_of x) (may_end_by answers.Back (how (device_of x))) →
        Changes n (λ a y. AskedKept hears (where_ok {X = Did} (Err lack)) (how (device_of a)) None old.pool k a y new.pool l)
        old.devices.items new.devices.items →
        CameKept hears e old k None new l
    work_lacked n x how lack found is ch =
        asked_one n x None (may_end_by answers.Back (how (device_of x)))
        (λ a y. AskedKept hears (where_ok {X = Did} (Err lack)) (how (device_of a)) None old.pool k a y new.pool l) found is
        (λ y ran. back_lacks lack (how (device_of x)) old.pool new.pool x y ran) ch

    -- which lacks no memory, and tells nothing
    pub was_done : (n : ℕ) (x : Device V G) (how : DefinedDevice → Talk (Unit {0})) → device_at old.devices.items n ≡ Some x →
        deed contents old.pool.pool (devices_of old.devices.items) e ≡ Asks (device_of x) (ends_by ends_done (how (device_of x))) →
        Changes n (λ a y. AskedKept hears surely (how (device_of a)) tt old.pool k a y new.pool l) old.devices.items new.devices.items →
        CameKept hears e old k (Some ends.Done) new l
    was_done n x how found is ch =
        asked_one n x (Some ends.Done) (ends_by ends_done (how (device_of x)))
        (λ a y. AskedKept hears surely (how (device_of a)) tt old.pool k a y new.pool l) found is
        (λ y ran. done_ends (how (device_of x)) old.pool new.pool x y ran) ch

    pub seconded : (n : ℕ) (x : Device V G) (how : DefinedDevice → Talk SecondEnd) (s : SecondStep) → device_at old.devices.items n ≡ Some x →
        deed contents old.pool.pool (devices_of old.devices.items) e ≡ Asks (device_of x) (ends_by answers.Second (how (device_of x))) →
        Changes n (λ a y. IsSome (second_seen (last_end y) s) × ((z : SecondEnd) → second_seen (last_end y) s ≡ Some z → AskedKept hears surely (how
        (device_of a)) z old.pool k a y new.pool l))
        old.devices.items new.devices.items →
        CameKept hears e old k (Some (ends.Second s)) new l
    seconded n x how s found is ch =
        asked_one n x (Some (ends.Second s)) (ends_by answers.Second (how (device_of x)))
        (λ a y. IsSome (second_seen (last_end y) s) × ((z : SecondEnd) → second_seen (last_end y) s ≡ Some z → AskedKept hears surely (how
        (device_of a)) z old.pool k a y new.pool l))
        found is (λ y ran. second_by (how (device_of x)) old.pool new.pool x y (second_seen (last_end y) s) ran.0 ran.1) ch

    -- all devices
    pub all_swept : (p : Pool) (f : DefinedDevice → Talk (Unit {0})) (q : Shared) → deed contents old.pool.pool (devices_of old.devices.items) e ≡ Each p f →
        q ≡ with_pool old.pool p → SweptKept hears f q k old.devices.items new.devices.items new.pool l → CameKept hears e old k (Some ends.Done) new l
    all_swept p f q is same swept =
        came_by hears k l old new e (Some ends.Done) (Each p f) is
        ((λ h. refl), subst (λ z. SweptKept hears f z k old.devices.items new.devices.items new.pool l) same swept)

  module _ {K : Type 0} (hears : Hearing Image K) (k : K) (old new : Subsystem V G) (e : Event) where
    -- a device became another
    pub became : (n : ℕ) (x : Device V G) (d : DefinedDevice) (end : ends_of.EventEnd) (a : EventEnd) (how : Device V G → Device V G → Type 0) →
        device_at old.devices.items n ≡ Some x → deed contents old.pool.pool
        (devices_of old.devices.items) e ≡ Becomes d end → d.store.device ≡ x.store.number →
        Answers (Some a) end → new.pool ≡ old.pool → ((y : Device V G) → how x y → IsNow d x y) →
        Changes n how old.devices.items new.devices.items → CameKept hears e old k (Some a) new k
    became n x d end a how found is number answers pool f ch =
        let so : CameBy (Becomes d end) old (Some a) new = (
          answers,
          pool,
          subst (λ m. Changes m (IsNow d) old.devices.items new.devices.items) (sym (number ∙ number_found old.devices.items n x found))
              (changed_into how (IsNow d) found f ch),
        ) in
        came_by hears k k old new e (Some a) (Becomes d end) is (so, refl)

    pub has_started : (n : ℕ) (x : Device V G) (path ordinal : ℕ) → device_at old.devices.items n ≡ Some x →
        deed contents old.pool.pool (devices_of old.devices.items) e ≡ Becomes (start (device_of x) path) (answers.Started (next_ordinal (device_of x) path)) →
        new.pool ≡ old.pool → Changes n (StartsBy {E = NoMemory} path (Ok ordinal)) old.devices.items new.devices.items →
        CameKept hears e old k (Some (ends.Started ordinal)) new k
    has_started n x path ordinal found is pool ch =
        let how = StartsBy {E = NoMemory} path (Ok ordinal) in
        let same : ch.before ≡ x = some_same (sym ch.stood ∙ found) in
        let number : ordinal ≡ next_ordinal (device_of x) path =
        subst (λ (z : Device V G). ordinal ≡ next_ordinal (device_of z) path) same ch.is_so.0 in
        became n x (start (device_of x) path) (answers.Started (next_ordinal (device_of x) path)) (ends.Started ordinal) how found is (same_number x path)
        (λ p. ap (λ m. Some (answers.Started m)) number) pool (λ y so. so.1) ch

    -- or it didn't, as memory was lacking
    pub became_none : (n : ℕ) (x : Device V G) (d : DefinedDevice) (end : ends_of.EventEnd) →
        device_at old.devices.items n ≡ Some x → deed contents old.pool.pool
        (devices_of old.devices.items) e ≡ Becomes d end → d.store.device ≡ x.store.number →
        new.pool ≡ old.pool → Changes n IsStill old.devices.items new.devices.items → CameKept hears e old k None new k
    became_none n x d end found is number pool ch =
        let so : CameBy (Becomes d end) old None new =
        (pool, subst (λ m. Changes m IsStill old.devices.items new.devices.items) (sym (number ∙ number_found old.devices.items n x found)) ch) in
        came_by hears k k old new e None (Becomes d end) is (so, refl)

    pub repaired : (p : Pool) → deed contents old.pool.pool (devices_of old.devices.items) e ≡ Repairs p → new.pool ≡ with_pool old.pool p →
        new.devices.items ≡ old.devices.items → CameKept hears e old k (Some ends.Done) new k
    repaired p is pool devices =
        let so : CameBy (Repairs p) old (Some ends.Done) new = ((λ h. refl), pool, devices) in
        came_by hears k k old new e (Some ends.Done) (Repairs p) is (so, refl)

    -- two devices became a pair
    pub became_pair : (a b : ℕ) (x y : Device V G) → device_at old.devices.items a ≡ Some x → device_at old.devices.items b ≡ Some y →
        deed contents old.pool.pool (devices_of old.devices.items) e ≡ Lends (device_of x) (device_of y) → JoinsKept hears a b (device_of y) old new →
        CameKept hears e old k (Some ends.Done) new k
    became_pair a b x y first second is so =
        let number = number_found old.devices.items a x first in
        let other = number_found old.devices.items b y second in
        came_by hears k k old new e (Some ends.Done) (Lends (device_of x) (device_of y)) is (
          (λ h. refl),
          subst (λ (n : ℕ). JoinsKept hears n y.store.number (device_of y) old new) (sym number)
              (subst (λ (m : ℕ). JoinsKept hears a m (device_of y) old new) (sym other) so),
          refl,
        )

    -- nothing changed
    pub ended : (end : ends_of.EventEnd) (a : EventEnd) → deed contents old.pool.pool (devices_of old.devices.items) e ≡ Ends end →
        Answers (Some a) end → IsSame old new → CameKept hears e old k (Some a) new k
    ended end a is answers same =
        let so : CameBy (Ends end) old (Some a) new = (answers, same) in
        came_by hears k k old new e (Some a) (Ends end) is (so, refl)

  -- Orders

  pub is_home : (x : Device V G) (side : Side) → replace_fault (device_of x) side ≡ None → is_some x.store.pair.lent ≡ false
  unfolding replace_fault
  is_home x A is = not_lent x.store.pair.lent _ is
  is_home x B is = not_lent x.store.pair.lent _ is

  -- a side that may get another volume is there
  pub is_there : (x : Device V G) (side : Side) → replace_fault (device_of x) side ≡ None → is_some (volume_of x.store.pair.volumes side) ≡ true
  unfolding replace_fault
  is_there x A is = x.store.pair.home (not_lent x.store.pair.lent _ is)
  is_there x B is = has_side_by (is_some x.store.pair.volumes.b) _ (no_cause (lent_by x.store.pair.lent) _ is)

  pub same_replaced : (x y : Device V G) (side : Side) → device_of y ≡ replace (device_of x) side → y.store.number ≡ x.store.number
  same_replaced x y A is = ap (λ (d : DefinedDevice). d.store.device) is
  same_replaced x y B is = ap (λ (d : DefinedDevice). d.store.device) is
