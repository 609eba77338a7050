-- Orders that are refused, that wait, or that change nothing of what the audit knows.
use Rattle.std.proofs.Common.{arith, ◌≡◌, ◌==◌, ◌++◌, ℕ, Bool, true, false, List, [], ◌∷◌, Option, Some, None, refl, sym, ap, ◌∙◌, if◌then◌else◌}
use Rattle.ckd_types.specs.declared.paths.Side.{Side}
use Rattle.deck_plan.specs.declared.event.EventLine.{EventLine}
use Rattle.deck_plan.specs.declared.event.EventLine.TheVariants as wanted
use Rattle.device_outside.specs.Pool.{Pool, all_waiting, cache_repaired, store_repaired}
use Rattle.device_outside.specs.Told.{Calls}
use Rattle.device_defs.specs.Marks.{MarksDevice}
use Rattle.device_defs.specs.Orders.{hold_side, replace, resume}
use Rattle.report_text.specs.declared.answers.OrderAnswer.{OrderAnswer}
use Rattle.report_text.specs.declared.answers.OrderAnswer.TheVariants as answers
use Rattle.report_text.specs.declared.answers.OrderRefusal as told
use Rattle.report_text.specs.declared.event.Happened.TheVariants as did
use Rattle.report_text.specs.declared.line.ReportLine.{ReportLine}
use Rattle.report_text.specs.declared.line.ReportLine.TheVariants as lines
use Rattle.report_text.specs.declared.order.Order.{Order}
use Rattle.report_text.specs.declared.order.Order.TheVariants as orders
use Rattle.deck_audit.specs.declared.state.Outline.{Outline}
use Rattle.deck_audit.specs.Place.{in_event}
use Rattle.deck_audit.specs.Device.{AuditedDevice}
use Rattle.deck_audit.specs.History.{event_made}
use Rattle.deck_audit.specs.State.{AuditState, passed}
use Rattle.run_report.specs.Answers.{order_answer, refused_as}
use Rattle.run_report.specs.Beside.{over_lines}
use Rattle.run_report.specs.Events.{event_lines, work_lines}
use Rattle.run_report.specs.OneDevice.{lines_at}
use Rattle.run_report.proofs.OneDevice.{tells_alone}
use Rattle.run_report.proofs.Quiet.{same_tells}
use Rattle.subsystem_defs.specs.declared.end.EventEnd.{EventEnd}
use Rattle.subsystem_defs.specs.declared.end.EventEnd.TheVariants as ends
use Rattle.subsystem_defs.specs.declared.end.OrderFault.{OrderFault}
use Rattle.subsystem_defs.specs.declared.end.OrderFault.TheVariants as faults
use Rattle.subsystem_defs.specs.declared.event.Event.TheVariants as events
use Rattle.subsystem_defs.specs.Deeds as E
use Rattle.subsystem_defs.specs.Deeds.{Becomes, Ends, Repairs, device_in, on_device, order, repair}
use Rattle.subsystem_defs.specs.Happening as H
use Rattle.subsystem_defs.specs.Happening.{MarksDeed, becomes, happens, happens_by, quietly, replaced, replaced_at, replaced_by}
use Rattle.subsystem_defs.specs.Lines.{Asked, Once, Replace}
use Rattle.subsystem_defs.specs.Refusals.{replace_fault, resume_fault, suspend_fault}
use Rattle.subsystem_defs.specs.Subsystem.{Mounted, Subsystem, devices_of, mounted_in, unfailing, with_calls, with_mounted}
use Rattle.subsystem_laws.proofs.FoundDevices.{number_found}
use Rattle.audit_laws.specs.Standing.{LeadsBy, audited, stand}
use Rattle.audit_laws.proofs.own.Found.{mounted_too, put_same}
use Rattle.audit_laws.proofs.own.Leading.{EventLeads, first_judged, one_leads, quiet_lines}

-- An event that is an order: where its line may stand, and what it makes where nothing was done

pub record IsOrder (e : EventLine) (o : Order) (asked : Asked) : Type 0 where
  pub stands : (outs : List Outline) (answer : OrderAnswer) → in_event outs (lines.Order o answer) e ≡ true
  pub refused : (z : AuditState) (fault : told.OrderRefusal) → event_made z (lines.Order o (answers.Refused fault)) e ≡ Some (passed z)
  pub pending : (z : AuditState) (n : ℕ) → event_made z (lines.Order o (answers.Pending n)) e ≡ Some (passed z)
  pub lines_are : (end : EventEnd) (reads writes : ℕ) (ds ks : List MarksDevice) →
      event_lines asked end reads writes ds ks ≡ work_lines (did.Ordered o (order_answer end)) reads writes ds ks

-- or where it was done
abbrev pub IsDone : EventLine → Order → Type 0
IsDone e o = (z : AuditState) → event_made z (lines.Order o answers.Done) e ≡ Some (passed z)

module _ (s : Subsystem) (e : EventLine) (o : Order) (asked : Asked) (is : IsOrder e o asked) where
  -- where of the devices nothing else is told
  pub told_leads : (z : Subsystem) (end : EventEnd) (later : List EventLine) →
      work_lines (did.Ordered o (order_answer end)) 0 0 (devices_of s) (devices_of z) ≡ lines.Order o (order_answer end) ∷ [] →
      event_made (stand s (e ∷ later)) (lines.Order o (order_answer end)) e ≡ Some (stand z later) →
      LeadsBy (stand s (e ∷ later)) (event_lines asked end 0 0 (devices_of s) (devices_of z)) (stand z later)
  told_leads z end later told makes = search (arith, one_leads, first_judged)

  -- nothing was done
  pub refused_leads : (fault : OrderFault) → EventLeads s e asked (quietly s s (ends.Refused fault))
  refused_leads fault later =
      told_leads s (ends.Refused fault) later (quiet_lines (did.Ordered o (order_answer (ends.Refused fault))) (devices_of s))
      (is.refused (stand s (e ∷ later)) (refused_as fault))

  pub pending_leads : (n : ℕ) → EventLeads s e asked (quietly s s (ends.Pending n))
  pending_leads n later =
      told_leads s (ends.Pending n) later (quiet_lines (did.Ordered o (order_answer (ends.Pending n))) (devices_of s)) (is.pending (stand s (e ∷ later)) n)

  -- it is refused, or this is done
  pub ordered : (fault : Option OrderFault) (x : MarksDeed) → (fault ≡ None → EventLeads s e asked (happens_by s x)) →
      EventLeads s e asked (happens_by s (order fault x))
  ordered fault x go = grind (arith, refused_leads)

  -- what is down is not lost
  pub down_or : (down : Bool) (x : MarksDeed) → EventLeads s e asked (happens_by s x) →
      EventLeads s e asked (happens_by s (if down then Ends (ends.Refused faults.Down) else x))
  down_or down x go = grind (arith, refused_leads)

  module _ (done : IsDone e o) where
    -- nothing that a device knows
    pub pool_leads : (pool : Pool) → EventLeads s e asked (quietly s (record s { pool = pool }) ends.Done)
    pool_leads pool = search (arith, told_leads, quiet_lines)

    -- a device of which the audit knows the same
    pub put_leads : (n : ℕ) (m z : Mounted) → mounted_in s.mounted n ≡ Some m → z.device.history ≡ m.device.history →
        audited z.device ≡ audited m.device → EventLeads s e asked (quietly s (with_mounted s n z) ends.Done)
    put_leads n m z there history same later =
        let h = did.Ordered o answers.Done in
        let quiet = same_tells m.device z.device history in
        told_leads (with_mounted s n z) ends.Done later
        ((tells_alone s n z).tells h 0 0
        ∙ ap (λ (k : Option Mounted). lines_at h 0 0 k z.device) there
        ∙ ap (λ (l : List ReportLine). l ++ (over_lines m.device z.device ++ lines.Order o answers.Done ∷ [])) quiet.loose
        ∙ ap (λ (l : List ReportLine). l ++ lines.Order o answers.Done ∷ []) quiet.over)
        (done (stand s (e ∷ later))
        ∙ ap (λ (l : List AuditedDevice). Some (record { devices = l; events = later; due = (stand s later).due }))
        (sym (put_same s.mounted n z (λ y found. let both_are : Some m ≡ Some y = sym there ∙ found in
        let it : m ≡ y = cc in same ∙ ap (λ (k : Mounted). audited k.device) it))))

    becomes_leads : (n : ℕ) (d y : MarksDevice) → device_in (devices_of s) n ≡ Some d → y.history ≡ d.history → audited y ≡ audited d → (k : ℕ) → k ≡ n →
        EventLeads s e asked (quietly s (becomes s k (mounted_in s.mounted k) y) ends.Done)
    becomes_leads n d y at history same k number = search (arith, mounted_too, put_leads)

    -- a device becomes another of which it knows the same, unless that is refused
    turned : (n : ℕ) (x : MarksDevice) → device_in (devices_of s) n ≡ Some x → (fault : MarksDevice → Option OrderFault) (to : MarksDevice → MarksDevice) →
        (to x).store.device ≡ x.store.device → (to x).history ≡ x.history → audited (to x) ≡ audited x →
        EventLeads s e asked (happens_by s (on_device (device_in (devices_of s) n) (λ d. order (fault d) (Becomes (to d) ends.Done))))
    turned n x at fault to number history same =
        rw at (ordered (fault x) (Becomes (to x) ends.Done) (λ free. becomes_leads n x (to x) at history same (to x).store.device (number
        ∙ number_found s.mounted n x at)))

    repaired : (up : Bool) (pool later : Pool) → EventLeads s e asked (happens_by s (repair up pool later))
    repaired true pool later = refused_leads faults.Up
    repaired false pool later = by_waiting (all_waiting pool == 0) where
      by_waiting : (b : Bool) → EventLeads s e asked (happens_by s (if b then Repairs later else Ends (ends.Pending (all_waiting pool))))
      by_waiting true = pool_leads later
      by_waiting false = pending_leads (all_waiting pool)

-- The orders

repairs_cache : IsOrder wanted.RepairCache orders.RepairCache (Once events.RepairCache)
repairs_cache = record { stands = λ outs answer. refl; refused = λ z fault. refl; pending = λ z n. refl; lines_are = λ end reads writes ds ks. refl }

repairs_store : IsOrder wanted.RepairStore orders.RepairStore (Once events.RepairStore)
repairs_store = record { stands = λ outs answer. refl; refused = λ z fault. refl; pending = λ z n. refl; lines_are = λ end reads writes ds ks. refl }

suspends : (n : ℕ) → IsOrder (wanted.Suspend n) (orders.Suspend n) (Once (events.Suspend n))
suspends n = search arith

resumes : (n : ℕ) → IsOrder (wanted.Resume n) (orders.Resume n) (Once (events.Resume n))
resumes n = search arith

replaces : (n : ℕ) (side : Side) → IsOrder (wanted.Replace n side) (orders.Replace n side) (Replace n side)
replaces n side = search arith

module _ (s : Subsystem) where
  pub repair_cache_leads : EventLeads s wanted.RepairCache (Once events.RepairCache) (happens s events.RepairCache)
  unfolding H.happens E.deed
  repair_cache_leads =
      repaired s wanted.RepairCache orders.RepairCache (Once events.RepairCache) repairs_cache (λ z. refl) s.pool.cache_up s.pool (cache_repaired s.pool)

  pub repair_store_leads : EventLeads s wanted.RepairStore (Once events.RepairStore) (happens s events.RepairStore)
  unfolding H.happens E.deed
  repair_store_leads =
      repaired s wanted.RepairStore orders.RepairStore (Once events.RepairStore) repairs_store (λ z. refl) s.pool.store_up s.pool (store_repaired s.pool)

  module _ (n : ℕ) (x : MarksDevice) (at : device_in (devices_of s) n ≡ Some x) where
    pub suspend_leads : EventLeads s (wanted.Suspend n) (Once (events.Suspend n)) (happens s (events.Suspend n))
    unfolding H.happens E.deed
    suspend_leads =
        turned s (wanted.Suspend n) (orders.Suspend n) (Once (events.Suspend n)) (suspends n) (λ z. refl) n x at suspend_fault hold_side refl refl refl

    pub resume_leads : EventLeads s (wanted.Resume n) (Once (events.Resume n)) (happens s (events.Resume n))
    unfolding H.happens E.deed
    resume_leads = turned s (wanted.Resume n) (orders.Resume n) (Once (events.Resume n)) (resumes n) (λ z. refl) n x at resume_fault resume refl refl refl

    -- A new volume

    same_replaced : (m : Mounted) (side : Side) (volume : Calls) →
        audited (with_calls (record m { device = replace m.device side }) side volume).device ≡ audited m.device
    same_replaced m side volume = grind arith

    same_history : (m : Mounted) (side : Side) (volume : Calls) →
        (with_calls (record m { device = replace m.device side }) side volume).device.history ≡ m.device.history
    same_history m side volume = grind arith

    replaced_leads : (side : Side) (m : Mounted) → mounted_in s.mounted n ≡ Some m → (f : Option OrderFault) →
        EventLeads s (wanted.Replace n side) (Replace n side) (replaced_by s n side unfailing m f)
    replaced_leads side m there (Some fault) = refused_leads s (wanted.Replace n side) (orders.Replace n side) (Replace n side) (replaces n side) fault
    replaced_leads side m there None =
        put_leads s (wanted.Replace n side) (orders.Replace n side) (Replace n side) (replaces n side) (λ z. refl) n m
        (with_calls (record m { device = replace m.device side }) side unfailing) there (same_history m side unfailing) (same_replaced m side unfailing)

    pub replace_leads : (side : Side) → EventLeads s (wanted.Replace n side) (Replace n side) (replaced s n side unfailing)
    unfolding H.replaced
    replace_leads side = let m = mounted_too s.mounted n x at in rw m.1 (replaced_leads side m.0 m.1 (replace_fault m.0.device side))
