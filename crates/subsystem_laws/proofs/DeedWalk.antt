-- What is so of each kind of deed over a subsystem is so of the deed of each event.
use Rattle.std.proofs.Common.{◌≡◌, ◌==◌, ℕ, Bool, true, false, not, Option, Some, None, is_some, refl, sym, ap, ◌∙◌}
use Rattle.std.specs.Prelude.{if◌then◌else◌}
use Rattle.ckd_types.specs.declared.paths.Side.{Side}
use Rattle.loss_model.specs.declared.Loss.TheVariants as losses
use Rattle.plain_defs.specs.History.{OpenEntry, is_path_of}
use Rattle.device_outside.specs.Pool.{cache_failed, store_failed, power_lost, all_waiting, cache_repaired, store_repaired}
use Rattle.device_defs.specs.declared.answers.StartFault.{StartFault}
use Rattle.device_defs.specs.Command.{command}
use Rattle.device_defs.specs.Contents.{by_plain}
use Rattle.device_defs.specs.Cutting.{reset, power}
use Rattle.device_defs.specs.Events.{lose, background}
use Rattle.device_defs.specs.Marks.{MarksDevice}
use Rattle.device_defs.specs.Orders.{hold_side, resume}
use Rattle.device_defs.specs.Start.{start_fault, start, next_ordinal}
use Rattle.device_defs.specs.Store.{HalfWrite}
use Rattle.subsystem_defs.specs.declared.end.EventEnd.{EventEnd}
use Rattle.subsystem_defs.specs.declared.end.EventEnd.TheVariants as ends
use Rattle.subsystem_defs.specs.declared.end.OrderFault.{OrderFault}
use Rattle.subsystem_defs.specs.declared.event.Event.{Event}
use Rattle.subsystem_defs.specs.declared.event.Event.TheVariants as events
use Rattle.subsystem_defs.specs.Calm.{is_loss_event}
use Rattle.subsystem_defs.specs.Deeds as E
use Rattle.subsystem_defs.specs.Deeds.{
  back,
  order,
  Ends,
  Becomes,
  Asks,
  Each,
  Repairs,
  Lends,
  deed,
  device_in,
  on_device,
  starts,
  start_by,
  step,
  seconds,
  ends_by,
  may_end_by,
  ends_done,
  end_of,
}
use Rattle.subsystem_defs.specs.Happening.{MarksDeed}
use Rattle.subsystem_defs.specs.Refusals.{pair_fault, suspend_fault, resume_fault, fail_fault}
use Rattle.subsystem_defs.specs.Subsystem.{Mounted, Subsystem, devices_of, mounted_in}
use Rattle.subsystem_laws.proofs.FoundDevices.{number_found, same_found}

-- the one that is mounted at its number
abbrev pub IsSeat : Subsystem → MarksDevice → Type 0
IsSeat s d = (m : Mounted) → mounted_in s.mounted d.store.device ≡ Some m → m.device ≡ d

-- one of the devices
pub record Stands (s : Subsystem) (d : MarksDevice) : Type 0 where
  pub number : ℕ
  pub found : device_in (devices_of s) number ≡ Some d

pub seat_of : (s : Subsystem) (d : MarksDevice) → Stands s d → IsSeat s d
seat_of s d x m there =
    same_found s.mounted x.number d m x.found (ap (mounted_in s.mounted) (sym (number_found s.mounted x.number d x.found)) ∙ there)

-- what is so of each kind of deed, for the event that it is of
module _ (s : Subsystem) (Kept : Event → MarksDeed → Type 0) where
  pub record IsEventwise : Type 0 where
    pub ended : (e : Event) (end : EventEnd) → Kept e (Ends end)
    pub started : (path n : ℕ) (d : MarksDevice) → Stands s d → start_fault d path ≡ None →
        Kept (events.Start path n) (Becomes (start d path) (ends.Started (next_ordinal d path)))
    pub seconded : (e : Event) → is_loss_event e ≡ false → (d : MarksDevice) → Stands s d → (h : HalfWrite (Unit {0})) → d.store.half ≡ Some h →
        Kept e (seconds by_plain d)
    pub commanded : (n : ℕ) (d : MarksDevice) → Stands s d → d.store.half ≡ None → (o : OpenEntry) → d.history.running ≡ Some o →
        Kept (events.Step n) (Asks d (may_end_by ends.Stepped (command by_plain d)))
    pub worked : (n : ℕ) (d : MarksDevice) → Stands s d → d.store.half ≡ None → Kept (events.Back n) (Asks d (may_end_by ends.Back (background by_plain d)))
    pub cut : (path n : ℕ) (d : MarksDevice) → Stands s d → Kept (events.Reset path n) (Asks d (ends_by ends_done (reset by_plain d path)))
    pub lost_cache : Kept events.FailCache (Each (cache_failed s.pool) (λ x. lose by_plain x losses.Cache))
    pub lost_store : Kept events.FailStore (Each (store_failed s.pool) (λ x. lose by_plain x losses.Store))
    pub lost_side : (n : ℕ) (d : MarksDevice) → Stands s d → device_in (devices_of s) n ≡ Some d → (side : Side) → fail_fault d side ≡ None →
        Kept (events.FailVolume n side) (Asks d (ends_by ends_done (lose by_plain d (losses.Side side))))
    pub lost_power : Kept events.Power (Each (power_lost s.pool) (power by_plain))
    pub repaired_cache : Kept events.RepairCache (Repairs (cache_repaired s.pool))
    pub repaired_store : Kept events.RepairStore (Repairs (store_repaired s.pool))
    pub lent : (a b : ℕ) (x y : MarksDevice) → Stands s x → Stands s y → pair_fault x y ≡ None → Kept (events.Pair a b) (Lends x y)
    pub held : (n : ℕ) (d : MarksDevice) → Stands s d → suspend_fault d ≡ None → Kept (events.Suspend n) (Becomes (hold_side d) ends.Done)
    pub resumed : (n : ℕ) (d : MarksDevice) → Stands s d → resume_fault d ≡ None → Kept (events.Resume n) (Becomes (resume d) ends.Done)

  -- a record round it, so that event and deed can be inferred
  record Deeds (e : Event) (x : MarksDeed) : Type 0 where
    is : Kept e x

  module _ (k : IsEventwise) where
    on_found : (e : Event) (n : ℕ) (o : Option MarksDevice) → device_in (devices_of s) n ≡ o → (f : MarksDevice → MarksDeed) →
        ((d : MarksDevice) → device_in (devices_of s) n ≡ Some d → Deeds e (f d)) → Deeds e (on_device o f)
    on_found e n None here f h = record { is = k.ended e ends.Done }
    on_found e n (Some d) here f h = h d here

    at_device : (e : Event) (n : ℕ) (f : MarksDevice → MarksDeed) → ((d : MarksDevice) → device_in (devices_of s) n ≡ Some d → Deeds e (f d)) →
        Deeds e (on_device (device_in (devices_of s) n) f)
    at_device e n f h = on_found e n (device_in (devices_of s) n) refl f h

    stood : (n : ℕ) (d : MarksDevice) → device_in (devices_of s) n ≡ Some d → Stands s d
    stood n d here = record { number = n; found = here }

    deed_if : {e : Event} (b : Bool) {x y : MarksDeed} → Deeds e x → Deeds e y → Deeds e (if b then x else y)
    deed_if true f g = f
    deed_if false f g = g

    ordered : (e : Event) (o : Option OrderFault) {x : MarksDeed} → (o ≡ None → Deeds e x) → Deeds e (order o x)
    ordered e (Some fault) h = record { is = k.ended e (ends.Refused fault) }
    ordered e None h = h refl

    starts_by : (path n : ℕ) (d : MarksDevice) → Stands s d → (o : Option StartFault) → start_fault d path ≡ o →
        Deeds (events.Start path n) (start_by {R = Bool} d path o)
    starts_by path n d x (Some fault) is = record { is = k.ended (events.Start path n) (ends.NotStarted fault) }
    starts_by path n d x None is = record { is = k.started path n d x is }

    steps_by : (n : ℕ) (d : MarksDevice) → Stands s d → d.store.half ≡ None → (r : Option OpenEntry) → d.history.running ≡ r →
        Deeds (events.Step n) (if is_some r then Asks d (may_end_by ends.Stepped (command by_plain d)) else Ends ends.Idle)
    steps_by n d x whole None none = record { is = k.ended (events.Step n) ends.Idle }
    steps_by n d x whole (Some o) running = record { is = k.commanded n d x whole o running }

    step_by : (n : ℕ) (d : MarksDevice) → Stands s d → (h : Option (HalfWrite (Unit {0}))) → d.store.half ≡ h →
        Deeds (events.Step n) (if is_some h then seconds by_plain d
        else if is_some d.history.running then Asks d (may_end_by ends.Stepped (command by_plain d)) else Ends ends.Idle)
    step_by n d x (Some h) is = record { is = k.seconded (events.Step n) refl d x h is }
    step_by n d x None whole = steps_by n d x whole d.history.running refl

    back_by : (n : ℕ) (d : MarksDevice) → Stands s d → (h : Option (HalfWrite (Unit {0}))) → d.store.half ≡ h →
        Deeds (events.Back n) (if is_some h then seconds by_plain d else Asks d (may_end_by ends.Back (background by_plain d)))
    back_by n d x (Some h) is = record { is = k.seconded (events.Back n) refl d x h is }
    back_by n d x None whole = record { is = k.worked n d x whole }

    deed_by : (e : Event) → Deeds e (deed by_plain s.pool (devices_of s) e)
    unfolding E.deed
    deed_by (events.Start path n) =
        at_device (events.Start path n) n (starts path)
        (λ d here. deed_if (is_path_of d.history.running path) (record { is = k.ended (events.Start path n) ends.Running })
        (starts_by path n d (stood n d here) (start_fault d path) refl))
    deed_by (events.Step n) = at_device (events.Step n) n (step by_plain) (λ d here. step_by n d (stood n d here) d.store.half refl)
    deed_by (events.Back n) = at_device (events.Back n) n (back by_plain) (λ d here. back_by n d (stood n d here) d.store.half refl)
    deed_by (events.Reset path n) =
        at_device (events.Reset path n) n (λ d. Asks d (ends_by ends_done (reset by_plain d path))) (λ d here. record { is = k.cut path n d (stood n d here) })
    deed_by events.FailCache = deed_if (not s.pool.cache_up) (record { is = k.ended events.FailCache _ }) (record { is = k.lost_cache })
    deed_by events.FailStore = deed_if (not s.pool.store_up) (record { is = k.ended events.FailStore _ }) (record { is = k.lost_store })
    deed_by (events.FailVolume n side) =
        at_device (events.FailVolume n side) n (λ d. order (fail_fault d side) (Asks d (ends_by ends_done (lose by_plain d (losses.Side side)))))
        (λ d here. ordered (events.FailVolume n side) (fail_fault d side) (λ fault. record { is = k.lost_side n d (stood n d here) here side fault }))
    deed_by events.RepairCache =
        deed_if s.pool.cache_up (record { is = k.ended events.RepairCache _ })
        (deed_if (all_waiting s.pool == 0) (record { is = k.repaired_cache }) (record { is = k.ended events.RepairCache _ }))
    deed_by events.RepairStore =
        deed_if s.pool.store_up (record { is = k.ended events.RepairStore _ })
        (deed_if (all_waiting s.pool == 0) (record { is = k.repaired_store }) (record { is = k.ended events.RepairStore _ }))
    deed_by (events.Pair a b) =
        at_device (events.Pair a b) a (λ y. on_device (device_in (devices_of s) b) (λ z. order (pair_fault y z) (Lends y z)))
        (λ y at_y. at_device (events.Pair a b) b (λ z. order (pair_fault y z) (Lends y z))
        (λ z at_z. ordered (events.Pair a b) (pair_fault y z) (λ fault. record { is = k.lent a b y z (stood a y at_y) (stood b z at_z) fault })))
    deed_by (events.Suspend n) =
        at_device (events.Suspend n) n (λ d. order (suspend_fault d) (Becomes (hold_side d) ends.Done))
        (λ d here. ordered (events.Suspend n) (suspend_fault d) (λ fault. record { is = k.held n d (stood n d here) fault }))
    deed_by (events.Resume n) =
        at_device (events.Resume n) n (λ d. order (resume_fault d) (Becomes (resume d) ends.Done))
        (λ d here. ordered (events.Resume n) (resume_fault d) (λ fault. record { is = k.resumed n d (stood n d here) fault }))
    deed_by events.Power = record { is = k.lost_power }

    pub event_deed_is : (e : Event) → Kept e (deed by_plain s.pool (devices_of s) e)
    event_deed_is e = (deed_by e).is

-- whatever event it is of
module _ (s : Subsystem) (Kept : MarksDeed → Type 0) where
  pub record IsDeedwise : Type 0 where
    pub ended : (end : EventEnd) → Kept (Ends end)
    pub started : (d : MarksDevice) → Stands s d → (path : ℕ) → start_fault d path ≡ None → Kept (Becomes (start d path) (ends.Started (next_ordinal d path)))
    pub seconded : (d : MarksDevice) → Stands s d → (h : HalfWrite (Unit {0})) → d.store.half ≡ Some h → Kept (seconds by_plain d)
    pub commanded : (d : MarksDevice) → Stands s d → d.store.half ≡ None → (o : OpenEntry) → d.history.running ≡ Some o →
        Kept (Asks d (may_end_by ends.Stepped (command by_plain d)))
    pub worked : (d : MarksDevice) → Stands s d → d.store.half ≡ None → Kept (Asks d (may_end_by ends.Back (background by_plain d)))
    pub cut : (d : MarksDevice) → Stands s d → (path : ℕ) → Kept (Asks d (ends_by ends_done (reset by_plain d path)))
    pub lost_cache : Kept (Each (cache_failed s.pool) (λ x. lose by_plain x losses.Cache))
    pub lost_store : Kept (Each (store_failed s.pool) (λ x. lose by_plain x losses.Store))
    pub lost_side : (d : MarksDevice) → Stands s d → (side : Side) → fail_fault d side ≡ None →
        Kept (Asks d (ends_by ends_done (lose by_plain d (losses.Side side))))
    pub lost_power : Kept (Each (power_lost s.pool) (power by_plain))
    pub repaired_cache : Kept (Repairs (cache_repaired s.pool))
    pub repaired_store : Kept (Repairs (store_repaired s.pool))
    pub lent : (x y : MarksDevice) → Stands s x → Stands s y → pair_fault x y ≡ None → Kept (Lends x y)
    pub held : (d : MarksDevice) → Stands s d → suspend_fault d ≡ None → Kept (Becomes (hold_side d) ends.Done)
    pub resumed : (d : MarksDevice) → Stands s d → resume_fault d ≡ None → Kept (Becomes (resume d) ends.Done)

  eventwise : IsDeedwise → IsEventwise s (λ e. Kept)
  eventwise k = record {
    ended = λ e end. k.ended end;
    started = λ path n d x fault. k.started d x path fault;
    seconded = λ e calm d x h is. k.seconded d x h is;
    commanded = λ n d x whole o running. k.commanded d x whole o running;
    worked = λ n d x whole. k.worked d x whole;
    cut = λ path n d x. k.cut d x path;
    lost_cache = k.lost_cache;
    lost_store = k.lost_store;
    lost_side = λ n d x here side fault. k.lost_side d x side fault;
    lost_power = k.lost_power;
    repaired_cache = k.repaired_cache;
    repaired_store = k.repaired_store;
    lent = λ a b x y z w fault. k.lent x y z w fault;
    held = λ n d x fault. k.held d x fault;
    resumed = λ n d x fault. k.resumed d x fault;
  }

  pub deed_is : IsDeedwise → (e : Event) → Kept (deed by_plain s.pool (devices_of s) e)
  deed_is k e = event_deed_is s (λ e. Kept) (eventwise k) e
