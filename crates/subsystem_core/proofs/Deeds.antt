-- What an event does, case by case.
use Rattle.std.proofs.Common.{◌≡◌, ℕ, Bool, true, false, List, Some, None, refl}
use Rattle.std.specs.Prelude.{◌==◌, is_some, if◌then◌else◌}
use Rattle.ckd_types.specs.declared.paths.Side.{Side}
use Rattle.loss_model.specs.declared.Loss.TheVariants as losses
use Rattle.plain_defs.specs.History.{is_path_of}
use Rattle.device_outside.specs.Pool.{Pool, cache_failed, store_failed, power_lost, all_waiting}
use Rattle.device_defs.specs.declared.answers.StartFault.{StartFault}
use Rattle.device_defs.specs.Command.{command}
use Rattle.device_defs.specs.Contents.{Contents}
use Rattle.device_defs.specs.Cutting.{reset, power}
use Rattle.device_defs.specs.Device.{Device}
use Rattle.device_defs.specs.Events.{second, background, lose}
use Rattle.device_defs.specs.Orders.{hold_side, resume}
use Rattle.device_defs.specs.Start.{start_fault, start, next_ordinal}
use Rattle.subsystem_defs.specs.declared.end.EventEnd.TheVariants as ends
use Rattle.subsystem_defs.specs.declared.end.OrderFault.{OrderFault}
use Rattle.subsystem_defs.specs.declared.end.OrderFault.TheVariants.{Down, Up}
use Rattle.subsystem_defs.specs.declared.event.Event.TheVariants as events
use Rattle.subsystem_defs.specs.Deeds.{Ends, Becomes, Asks, Each, Repairs, Lends, ends_done, device_in, ends_by, may_end_by, start_by, deed}
use Rattle.subsystem_defs.specs.Refusals.{pair_fault, suspend_fault, resume_fault, fail_fault}

module _ {F P H R : Type 0} (c : Contents F P H R) (pool : Pool) (ds : List (Device F P H)) where
  -- One device

  module _ (n : ℕ) (d : Device F P H) (is : device_in ds n ≡ Some d) where
    pub own_runs : (path : ℕ) → is_path_of d.history.running path ≡ true → deed c pool ds (events.Start path n) ≡ Ends ends.Running
    unfolding deed
    own_runs path own = rw (is, own) refl

    pub start_refused : (path : ℕ) (f : StartFault) → is_path_of d.history.running path ≡ false → start_fault d path ≡ Some f →
        deed c pool ds (events.Start path n) ≡ Ends (ends.NotStarted f)
    unfolding deed
    start_refused path f own fault = rw (is, own, fault) refl

    started_by : (path : ℕ) (own : Bool) → own ≡ false → start_fault d path ≡ None →
        (if own then Ends ends.Running else start_by {R = R} d path (start_fault d path))
        ≡ Becomes (start d path) (ends.Started (next_ordinal d path))
    started_by path false e fault = rw fault refl
    started_by path true e fault = absurd (cc)

    pub started : (path : ℕ) → is_path_of d.history.running path ≡ false → start_fault d path ≡ None →
        deed c pool ds (events.Start path n) ≡ Becomes (start d path) (ends.Started (next_ordinal d path))
    unfolding deed
    started path own fault = rw is (started_by path (is_path_of d.history.running path) own fault)

    pub second_first : is_some d.store.half ≡ true → deed c pool ds (events.Step n) ≡ Asks d (ends_by ends.Second (second c d))
    unfolding deed
    second_first half = rw (is, half) refl

    pub commanded : is_some d.store.half ≡ false → is_some d.history.running ≡ true →
        deed c pool ds (events.Step n) ≡ Asks d (may_end_by ends.Stepped (command c d))
    unfolding deed
    commanded half running = rw (is, half, running) refl

    pub idle : is_some d.store.half ≡ false → is_some d.history.running ≡ false → deed c pool ds (events.Step n) ≡ Ends ends.Idle
    unfolding deed
    idle half running = rw (is, half, running) refl

    pub back_second : is_some d.store.half ≡ true → deed c pool ds (events.Back n) ≡ Asks d (ends_by ends.Second (second c d))
    unfolding deed
    back_second half = rw (is, half) refl

    pub worked : is_some d.store.half ≡ false → deed c pool ds (events.Back n) ≡ Asks d (may_end_by ends.Back (background c d))
    unfolding deed
    worked half = rw (is, half) refl

    pub was_reset : (path : ℕ) → deed c pool ds (events.Reset path n) ≡ Asks d (ends_by ends_done (reset c d path))
    unfolding deed
    was_reset path = rw is refl

    pub loss_refused : (side : Side) (f : OrderFault) → fail_fault d side ≡ Some f → deed c pool ds (events.FailVolume n side) ≡ Ends (ends.Refused f)
    unfolding deed
    loss_refused side f fault = rw (is, fault) refl

    pub side_lost : (side : Side) → fail_fault d side ≡ None →
        deed c pool ds (events.FailVolume n side) ≡ Asks d (ends_by ends_done (lose c d (losses.Side side)))
    unfolding deed
    side_lost side fault = rw (is, fault) refl

    pub suspend_refused : (f : OrderFault) → suspend_fault d ≡ Some f → deed c pool ds (events.Suspend n) ≡ Ends (ends.Refused f)
    unfolding deed
    suspend_refused f fault = rw (is, fault) refl

    pub suspended : suspend_fault d ≡ None → deed c pool ds (events.Suspend n) ≡ Becomes (hold_side d) ends.Done
    unfolding deed
    suspended fault = rw (is, fault) refl

    pub resumed : resume_fault d ≡ None → deed c pool ds (events.Resume n) ≡ Becomes (resume d) ends.Done
    unfolding deed
    resumed fault = rw (is, fault) refl

    pub resume_refused : (f : OrderFault) → resume_fault d ≡ Some f → deed c pool ds (events.Resume n) ≡ Ends (ends.Refused f)
    unfolding deed
    resume_refused f fault = rw (is, fault) refl

  -- Two of them

  module _ (n m : ℕ) (d e : Device F P H) (is : device_in ds n ≡ Some d) (other : device_in ds m ≡ Some e) where
    pub pair_refused : (f : OrderFault) → pair_fault d e ≡ Some f → deed c pool ds (events.Pair n m) ≡ Ends (ends.Refused f)
    unfolding deed
    pair_refused f fault = rw (is, other, fault) refl

    pub paired : pair_fault d e ≡ None → deed c pool ds (events.Pair n m) ≡ Lends d e
    unfolding deed
    paired fault = rw (is, other, fault) refl

  -- All of them

  pub cache_down : pool.cache_up ≡ false → deed c pool ds events.FailCache ≡ Ends (ends.Refused Down)
  unfolding deed
  cache_down up = rw up refl

  pub cache_lost : pool.cache_up ≡ true → deed c pool ds events.FailCache ≡ Each (cache_failed pool) (λ x. lose c x losses.Cache)
  unfolding deed
  cache_lost up = rw up refl

  pub store_down : pool.store_up ≡ false → deed c pool ds events.FailStore ≡ Ends (ends.Refused Down)
  unfolding deed
  store_down up = rw up refl

  pub store_lost : pool.store_up ≡ true → deed c pool ds events.FailStore ≡ Each (store_failed pool) (λ x. lose c x losses.Store)
  unfolding deed
  store_lost up = rw up refl

  -- Repairs

  pub cache_is_up : pool.cache_up ≡ true → deed c pool ds events.RepairCache ≡ Ends (ends.Refused Up)
  unfolding deed
  cache_is_up up = rw up refl

  pub cache_waits : pool.cache_up ≡ false → (all_waiting pool == 0) ≡ false → deed c pool ds events.RepairCache ≡ Ends (ends.Pending (all_waiting pool))
  unfolding deed
  cache_waits up some = rw (up, some) refl

  pub cache_again : pool.cache_up ≡ false → (all_waiting pool == 0) ≡ true → deed c pool ds events.RepairCache ≡ Repairs (record pool { cache_up = true })
  unfolding deed
  cache_again up none = rw (up, none) refl

  pub store_is_up : pool.store_up ≡ true → deed c pool ds events.RepairStore ≡ Ends (ends.Refused Up)
  unfolding deed
  store_is_up up = rw up refl

  pub store_waits : pool.store_up ≡ false → (all_waiting pool == 0) ≡ false → deed c pool ds events.RepairStore ≡ Ends (ends.Pending (all_waiting pool))
  unfolding deed
  store_waits up some = rw (up, some) refl

  pub store_again : pool.store_up ≡ false → (all_waiting pool == 0) ≡ true → deed c pool ds events.RepairStore ≡ Repairs (record pool { store_up = true })
  unfolding deed
  store_again up none = rw (up, none) refl

  pub power_came : deed c pool ds events.Power ≡ Each (power_lost pool) (power c)
  unfolding deed
  power_came = refl
