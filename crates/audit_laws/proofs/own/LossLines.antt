-- FAIL STORE, which tells nothing of the devices, and FAIL VOLUME, which tells of each track that becomes firm.
use Rattle.std.proofs.Common.{arith, ◌≡◌, ◌++◌, ℕ, Bool, true, not, List, [], ◌∷◌, map, Option, Some, refl, sym, ap, subst, ◌∙◌, if◌then◌else◌}
use Rattle.std.specs.Prelude.{IfSome, Ok, Err}
use Rattle.ckd_types.specs.declared.paths.Side.{Side}
use Rattle.deck_plan.specs.declared.event.EventLine.{EventLine}
use Rattle.deck_plan.specs.declared.event.EventLine.TheVariants as wanted
use Rattle.loss_model.specs.declared.Loss.TheVariants as losses
use Rattle.plain_defs.specs.declared.journal.Act.{Act}
use Rattle.plain_defs.specs.declared.journal.Act.TheVariants.{Harden}
use Rattle.plain_defs.specs.History.{acted}
use Rattle.plain_defs.specs.Loose.{is_loose_there}
use Rattle.plain_defs.specs.PlainState.{PlainState}
use Rattle.device_outside.specs.Interaction.{Done}
use Rattle.device_outside.specs.Pool.{Pool, store_failed}
use Rattle.device_defs.specs.Contents.{by_plain}
use Rattle.device_defs.specs.Device.{all_acted}
use Rattle.device_defs.specs.Events.{lose}
use Rattle.device_defs.specs.Marks.{MarksDevice}
use Rattle.device_laws.proofs.Had.{Had, had_done, had_then, held}
use Rattle.device_laws.proofs.counted.Counting.{counts_done, counts_then, held_moved}
use Rattle.device_laws.proofs.counted.EventCounts.{lose_counts}
use Rattle.report_text.specs.declared.answers.LooseAnswer.TheVariants as loose
use Rattle.report_text.specs.declared.answers.OrderAnswer.TheVariants as answers
use Rattle.report_text.specs.declared.event.Happened.TheVariants as did
use Rattle.report_text.specs.declared.line.ReportLine.{ReportLine}
use Rattle.report_text.specs.declared.line.ReportLine.TheVariants as lines
use Rattle.report_text.specs.declared.order.Order.TheVariants as orders
use Rattle.deck_audit.specs.declared.state.Due.TheVariants.{Next}
use Rattle.deck_audit.specs.Device as A
use Rattle.deck_audit.specs.Device.{AuditedDevice, state_of, with_device}
use Rattle.deck_audit.specs.State.{AuditState, passed}
use Rattle.deck_audit.specs.declared.status.AuditWhy.TheVariants.{Place}
use Rattle.deck_audit.specs.Verdict.{judged, or_history}
use Rattle.run_report.specs.Beside.{loose_lines, over_lines}
use Rattle.run_report.specs.Events.{event_lines, work_lines}
use Rattle.run_report.specs.OneDevice.{lines_at}
use Rattle.run_report.proofs.OneDevice.{tells_alone}
use Rattle.subsystem_defs.specs.declared.end.EventEnd.{EventEnd}
use Rattle.subsystem_defs.specs.declared.end.EventEnd.TheVariants as ends
use Rattle.subsystem_defs.specs.declared.event.Event.TheVariants as events
use Rattle.subsystem_defs.specs.Deeds as E
use Rattle.subsystem_defs.specs.Deeds.{Asks, Each, device_in, ends_by, ends_done, on_device, order}
use Rattle.subsystem_defs.specs.Happening as H
use Rattle.subsystem_defs.specs.Happening.{EventHappened, asks, happens, happens_by, held_with, mounted_behind, quietly, sweep, swept, told_end, told_to}
use Rattle.subsystem_defs.specs.Lines.{Once}
use Rattle.subsystem_defs.specs.Refusals.{fail_fault}
use Rattle.subsystem_defs.specs.Subsystem.{Mounted, Subsystem, devices_of, mounted_in, with_mounted}
use Rattle.subsystem_laws.proofs.FoundDevices.{number_found}
use Rattle.subsystem_laws.proofs.GoodMarks.{Good}
use Rattle.subsystem_laws.proofs.PlainRuns.{ArePlain, Plainly}
use Rattle.subsystem_laws.proofs.Walks.{AreSo, device_so}
use Rattle.audit_laws.specs.Standing.{LeadsBy, audited, half_by, stand}
use Rattle.audit_laws.specs.Steps.{NoLoss, act_line}
use Rattle.audit_laws.proofs.own.ActLines.{AllSilent, acts_lines, acts_over, history_of}
use Rattle.audit_laws.proofs.own.FirmMarks.{firm_of}
use Rattle.audit_laws.proofs.own.Found.{devices, found_one, mounted_too, put_at, put_same}
use Rattle.audit_laws.proofs.own.Leading.{EventLeads, leads_on, one_leads, then_some}
use Rattle.audit_laws.proofs.own.LossDevices.{IsLoss, side_acts, store_acts}
use Rattle.audit_laws.proofs.own.Orders.{IsOrder, ordered, told_leads, down_or}
use Rattle.audit_laws.proofs.own.PairLines.{silent_lines}
use Rattle.audit_laws.proofs.own.ResetDevices.{audited_by}
use Rattle.audit_laws.proofs.own.Saying.{same_number, same_order}
use Rattle.audit_laws.proofs.Devices.{found_put, put_again}
use Rattle.audit_laws.proofs.own.Work.{firm_acts_lead}

-- FAIL STORE

fails_store : IsOrder wanted.FailStore orders.FailStore (Once events.FailStore)
fails_store = record { stands = λ outs answer. refl; refused = λ z fault. refl; pending = λ z n. refl; lines_are = λ end reads writes ds ks. refl }

-- the audit knows the same of the devices
record SweptSame (ms ks : List Mounted) : Type 0 where
  audits : map audited (devices ks) ≡ map audited (devices ms)
  silent : AllSilent (map history_of (devices ms)) (map history_of (devices ks))

store_swept : (ms : List Mounted) (pool : Pool) → ArePlain ms → AreSo Good ms →
    SweptSame ms (sweep (λ x. lose by_plain x losses.Store) ms pool).mounted
unfolding H.sweep
store_swept [] pool p g = record { audits = refl; silent = tt }
store_swept (m ∷ ms) pool p g =
    let d = m.device in
    let o = held_with pool m (lose by_plain d losses.Store) in
    let is = held true (store_acts p.0.number p.0.empty d p.0.follows (firm_of d g.0)) (told_to pool m) in
    let rest = store_swept ms o.told.pool p.1 g.1 in
    let same : o.state.history ≡ d.history = is.0.history ∙ ap (λ (acts : List Act). all_acted d.history acts) is.1 in
    (search arith)

module _ (s : Subsystem) (plain : ArePlain s.mounted) (good : AreSo Good s.mounted) where
  store_leads : EventLeads s wanted.FailStore (Once events.FailStore)
      (quietly s (swept (sweep (λ x. lose by_plain x losses.Store) s.mounted (store_failed s.pool))) ends.Done)
  store_leads later = grind (arith, store_swept, told_leads, fails_store, silent_lines)

  pub fail_store_leads : EventLeads s wanted.FailStore (Once events.FailStore) (happens s events.FailStore)
  unfolding H.happens E.deed
  fail_store_leads = search (arith, down_or, fails_store, not, store_leads)

-- FAIL VOLUME

fails_volume : (n : ℕ) (side : Side) → IsOrder (wanted.FailVolume n side) (orders.FailVolume n side) (Once (events.FailVolume n side))
fails_volume n side = search arith

-- the acts, one after another
module _ (xs : List AuditedDevice) (n : ℕ) (side : Side) (later : List EventLine) (first : AuditedDevice) (has : A.device_in xs n ≡ Some first) where
  abbrev e : EventLine
  e = wanted.FailVolume n side

  abbrev at : AuditedDevice → AuditState
  at a = record { devices = with_device xs a; events = wanted.FailVolume n side ∷ later; due = Next }

  harden_judged : (a : AuditedDevice) → a.number ≡ n → (t : ℕ) → is_loose_there (state_of a) t ≡ true →
      judged (at a) (lines.Loose n (loose.Harden t)) ≡ Ok (at (record a { history = acted a.history (Harden t) }))
  harden_judged a same t is = grind (arith, same_number, then_some, found_put, put_again)

-- what came of the event
record IsSideLost (empty : PlainState) (x y : MarksDevice) (end : Option EventEnd) : Type 0 where
  loss : IsLoss empty x y
  none : NoLoss y.store.acts
  done : end ≡ Some ends.Done

module _ (s : Subsystem) (plain : ArePlain s.mounted) (n : ℕ) (x : MarksDevice) (at_n : device_in (devices_of s) n ≡ Some x) (side : Side) where
  plainly : Plainly x
  plainly = subst (λ (o : Option MarksDevice). IfSome o Plainly) at_n (device_so Plainly s.mounted n plain)

  number_is : x.store.device ≡ n
  number_is = number_found s.mounted n x at_n

  side_had : Had (ends_by ends_done (lose by_plain x (losses.Side side))) (λ y end. IsSideLost (plainly).empty x y end)
  side_had = had_then (side_acts plainly.number plainly.empty x plainly.follows side) (λ y a g. had_done (search arith))

  -- the acts of the device, and the line of the order
  acts_lead : (later : List EventLine) (m : Mounted) → m.device ≡ x → mounted_in s.mounted n ≡ Some m → (z : Mounted) (end : Option EventEnd) →
      IsSideLost plainly.empty x z.device end →
      LeadsBy (stand s (wanted.FailVolume n side ∷ later))
      (work_lines (did.Ordered (orders.FailVolume n side) answers.Done) 0 0 (devices_of s) (devices_of (with_mounted s n z)))
      (stand (with_mounted s n z) later)
  acts_lead later m it_is there z end g =
      let y = z.device in
      let a = audited x in
      let acts = y.store.acts in
      let xs = map audited (devices_of s) in
      let h = did.Ordered (orders.FailVolume n side) answers.Done in
      let line = lines.Order (orders.FailVolume n side) answers.Done in
      let b = record a { history = all_acted x.history acts } in
      let behind = at xs n side later a (found_one (devices_of s) n x at_n) b in
      let same_base : plainly.empty ≡ a.empty = plainly.base in
      let begins : (at xs n side later a (found_one (devices_of s) n x at_n) a) ≡ stand s (wanted.FailVolume n side ∷ later) = ap
      (λ (l : List AuditedDevice). record { devices = l; events = wanted.FailVolume n side ∷ later; due = (stand s later).due }) (ap
      (λ (d : MarksDevice). with_device xs (audited d)) (sym it_is) ∙ put_at s.mounted n m (ap (λ (d : MarksDevice). d.store.device) it_is ∙ number_is)
      ∙ put_same s.mounted n m (λ k found. let both_are : Some m ≡ Some k = sym there ∙ found in let it : m ≡ k = cc in ap
      (λ (i : Mounted). audited i.device) it)) in
      rw ((tells_alone s n z).tells h 0 0 ∙ ap (λ (o : Option Mounted). lines_at h 0 0 o y) there ∙ ap (λ (d : MarksDevice). loose_lines d y ++
      (over_lines d y ++ line ∷ [])) it_is ∙ ap (λ (l : List ReportLine). l ++ (over_lines x y ++ line ∷ [])) (acts_lines x y acts g.loss.history g.none ∙ ap
      (λ (k : ℕ). map (act_line k) acts) number_is) ∙ ap (λ (l : List ReportLine). map (act_line n) acts ++ (l ++ line ∷ []))
      (acts_over x y acts g.loss.history)) (leads_on (stand s (wanted.FailVolume n side ∷ later)) behind (stand (with_mounted s n z) later) (map
      (act_line n) acts) (line ∷ []) (rw (← begins) (firm_acts_lead xs (wanted.FailVolume n side) later n Next (harden_judged xs n side later a (found_one (devices_of s) n x at_n)) a number_is acts (rw
      (← same_base) plainly.follows.stands.plain) g.none (rw (← same_base) g.loss.are))) (one_leads behind (stand (with_mounted s n z) later) line (ap
      (λ (c : Bool). if c then or_history (Some (passed behind)) else Err Place) (same_order (orders.FailVolume n side)) ∙ ap (λ (u : AuditState). Ok u) (ap
      (λ (l : List AuditedDevice). record { devices = l; events = later; due = (stand s later).due }) (ap (with_device xs) (sym (audited_by x y
      (half_by x.store.half) (all_acted x.history acts) g.loss.parts g.loss.history)) ∙ put_at s.mounted n z (g.loss.parts.number ∙ number_is))))))

  abbrev its_lines : EventHappened → List ReportLine
  its_lines h = event_lines (Once (events.FailVolume n side)) h.end h.reads h.writes (devices_of s) (devices_of h.behind)

  asked_leads : (k : ℕ) → k ≡ n → EventLeads s (wanted.FailVolume n side) (Once (events.FailVolume n side))
      (asks s k (mounted_in s.mounted k) (ends_by ends_done (lose by_plain x (losses.Side side))))
  asked_leads k is later =
      let m = mounted_too s.mounted n x at_n in
      let o = held_with s.pool m.0 (ends_by ends_done (lose by_plain x (losses.Side side))) in
      let z = mounted_behind o in
      let g = held true side_had (told_to s.pool m.0) in
      let moves = held_moved {q = λ r w (y : MarksDevice) (a : Option EventEnd). (r ≡ 0) × (w ≡ 0)} true (counts_then (λ y a. Done y (Some (ends_done a)))
      (lose_counts by_plain x (losses.Side side)) (λ r w y a h. counts_done h)) (told_to s.pool m.0) refl refl in
      let from_here = stand s (wanted.FailVolume n side ∷ later) in
      rw (is, m.1, g.done, moves.0, moves.1) (acts_lead later m.0 m.2 m.1 z o.answer g)

  pub fail_volume_leads : EventLeads s (wanted.FailVolume n side) (Once (events.FailVolume n side)) (happens s (events.FailVolume n side))
  unfolding H.happens E.deed
  fail_volume_leads =
      rw at_n (ordered s (wanted.FailVolume n side) (orders.FailVolume n side) (Once (events.FailVolume n side)) (fails_volume n side) (fail_fault x side)
      (Asks x (ends_by ends_done (lose by_plain x (losses.Side side)))) (λ free. asked_leads x.store.device number_is))
