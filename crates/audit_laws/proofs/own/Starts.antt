-- START: the audit answers as the device of the run.
use Rattle.std.proofs.Common.{◌≡◌, ◌++◌, ℕ, Bool, true, false, not, List, [], ◌∷◌, map, Option, Some, None, refl, sym, ap, subst, ◌∙◌, if◌then◌else◌, arith}
use Rattle.std.specs.Prelude.{◌&&◌, IfSome, Ok}
use Rattle.std.specs.List.{list_all, list_any}
use Rattle.std.proofs.lemmas.Bool.Decides.{nat_tests}
use Rattle.std.proofs.lemmas.Bool.{and_from}
use Rattle.ckd_types.specs.declared.paths.Owner.{Owner}
use Rattle.deck_plan.specs.declared.event.EventLine.{EventLine}
use Rattle.deck_plan.specs.declared.event.EventLine.TheVariants as wanted
use Rattle.plain_defs.specs.History.{OpenEntry, is_path_of, started}
use Rattle.plain_defs.specs.Journal.{program_of}
use Rattle.plain_defs.specs.PlainState.{is_admitted}
use Rattle.device_defs.specs.declared.answers.StartFault.{StartFault}
use Rattle.device_defs.specs.declared.answers.StartFault.TheVariants as faults
use Rattle.device_defs.specs.Marks.{MarksDevice}
use Rattle.device_defs.specs.Start as S
use Rattle.device_defs.specs.Start.{
  start,
  start_fault,
  fault_by,
  running_fault,
  idle_fault,
  reserved_fault,
  started_count,
  left,
  keeps_out,
  is_shut,
  has_none_or_is_out,
}
use Rattle.device_laws.proofs.DeviceHistory.{starts_where_idle}
use Rattle.report_text.specs.declared.answers.StartAnswer.{StartAnswer}
use Rattle.report_text.specs.declared.answers.StartAnswer.TheVariants as answers
use Rattle.report_text.specs.declared.event.Happened.TheVariants as did
use Rattle.report_text.specs.declared.line.ReportLine.{ReportLine}
use Rattle.report_text.specs.declared.line.ReportLine.TheVariants as lines
use Rattle.deck_audit.specs.Device as A
use Rattle.deck_audit.specs.Device.{
  AuditedDevice,
  state_of,
  has_left,
  may_start,
  four_paths,
  held_answer,
  free_answer,
  running_answer,
  lent_answer,
  own_runs,
  start_answer,
  with_device,
}
use Rattle.deck_audit.specs.History.{after_start}
use Rattle.deck_audit.specs.Verdict.{judged}
use Rattle.run_report.specs.Answers as R
use Rattle.run_report.specs.Answers.{start_refused}
use Rattle.run_report.specs.Beside.{over_lines}
use Rattle.run_report.specs.OneDevice.{lines_at, TellsNothing}
use Rattle.run_report.specs.Events.{work_lines}
use Rattle.run_report.proofs.OneDevice.{tells_alone}
use Rattle.run_report.proofs.Quiet.{start_tells}
use Rattle.subsystem_defs.specs.declared.end.EventEnd.TheVariants as ends
use Rattle.subsystem_defs.specs.declared.event.Event.TheVariants as events
use Rattle.subsystem_defs.specs.Deeds as E
use Rattle.subsystem_defs.specs.Deeds.{Ends, device_in, on_device, starts, start_by}
use Rattle.subsystem_defs.specs.Happening as H
use Rattle.subsystem_defs.specs.Happening.{becomes, happens_by, happens, quietly}
use Rattle.subsystem_defs.specs.Lines.{Once}
use Rattle.subsystem_defs.specs.Subsystem.{Mounted, Subsystem, devices_of, mounted_in, with_mounted}
use Rattle.subsystem_laws.proofs.FoundDevices.{number_found}
use Rattle.subsystem_laws.proofs.PlainRuns.{Plainly, ArePlain}
use Rattle.subsystem_laws.proofs.Walks.{device_so}
use Rattle.audit_laws.specs.Standing.{LeadsBy, audited, stand}
use Rattle.audit_laws.proofs.own.Found.{found_one, put_at, put_same, mounted_too}
use Rattle.audit_laws.proofs.own.Leading.{EventLeads, first_judged, one_leads, quiet_lines, then_some}
use Rattle.audit_laws.proofs.own.Saying.{same_number, same_start}

-- Over plain Bools

all_not : (f g : ℕ → Bool) → ((q : ℕ) → g q ≡ not (f q)) → (l : List ℕ) → list_all g l ≡ not (list_any f l)
all_not f g h [] = refl
all_not f g h (q ∷ l) = grind (arith, all_not f g h l)

pub choice_not : {X : Type 0} (a b : Bool) (x y : X) → b ≡ not a → (if a then x else y) ≡ (if b then y else x)
choice_not a b x y e = grind arith

abbrev answer_by : Option StartFault → ℕ → StartAnswer
answer_by (Some fault) n = start_refused fault
answer_by None n = answers.Accepted n

own_same : (r : Option OpenEntry) (path : ℕ) → own_runs r path ≡ is_path_of r path
own_same r path = grind arith

module _ (x : MarksDevice) (p : Plainly x) where
  abbrev a : AuditedDevice
  a = audited x

  module _ (none : x.history.running ≡ None) where
    keeps_is : (path : ℕ) → keeps_out x path ≡ not (is_admitted (state_of a).paths path (program_of x.plans path (A.next_ordinal a path)))
    keeps_is path = grind arith

    out_is : (path : ℕ) → has_none_or_is_out x path ≡ not (may_start a path)
    out_is path = grind (arith, keeps_is, nat_tests)

    shut_is : is_shut x ≡ not (list_any (may_start a) four_paths)
    shut_is = all_not (may_start a) (has_none_or_is_out x) out_is four_paths

    module _ (path : ℕ) where
      abbrev admits : Bool
      admits = is_admitted (state_of a).paths path (program_of x.plans path (A.next_ordinal a path))

      held_by : (o : Option Owner) → x.paths.owner ≡ o → admits ≡ false →
          held_answer a o ≡ answer_by (reserved_fault x o) (S.next_ordinal x path)
      held_by (Some owner) is out =
          choice_not (list_any (may_start a) four_paths) (is_shut x) (answers.Reserved owner) (answers.Shut owner) shut_is
          ∙ by_shut (is_shut x)
        where
          by_shut : (b : Bool) → (if b then answers.Shut owner else answers.Reserved owner)
              ≡ start_refused (if b then faults.Shut owner else faults.Reserved owner)
          by_shut true = refl
          by_shut false = refl
      held_by None is out = grind arith

      free_by : (l k : Bool) → has_left a path ≡ l → admits ≡ k → (if not l then answers.Done else if l && k then answers.Accepted (A.next_ordinal a path)
          else held_answer a (state_of a).paths.owner)
          ≡ answer_by (if not l then Some faults.PlanDone else if not k then reserved_fault x x.paths.owner else None) (S.next_ordinal x path)
      free_by l k is out = grind (arith, held_by)

      free_is : free_answer a path ≡ answer_by (idle_fault x path) (S.next_ordinal x path)
      free_is = grind (arith, free_by, keeps_is, nat_tests)

  lent_is : (path : ℕ) (l : Option ℕ) → lent_answer a path l ≡ answer_by (fault_by x path l) (S.next_ordinal x path)
  lent_is path l = grind (arith, free_is)

  -- where the path itself runs nothing
  pub answer_is : (path : ℕ) → lent_answer a path x.store.lent ≡ answer_by (start_fault x path) (S.next_ordinal x path)
  unfolding S.start_fault
  answer_is path = lent_is path x.store.lent

-- The line

refused_same : (a : AuditedDevice) (path : ℕ) (fault : StartFault) → after_start a path (start_refused fault) ≡ a
refused_same a path fault = grind arith

module _ (s : Subsystem) (plain : ArePlain s.mounted) (path n : ℕ) (x : MarksDevice) (at : device_in (devices_of s) n ≡ Some x) where
  number_is : x.store.device ≡ n
  number_is = number_found s.mounted n x at

  plainly : Plainly x
  plainly = subst (λ (o : Option MarksDevice). IfSome o Plainly) at (device_so Plainly s.mounted n plain)

  -- a line with the audit's own answer
  start_judged : (later : List EventLine) (answer : StartAnswer) → start_answer (audited x) path ≡ answer → (z : Subsystem) →
      with_device (map audited (devices_of s)) (after_start (audited x) path answer) ≡ map audited (devices_of z) →
      judged (stand s (wanted.Start path n ∷ later)) (lines.Start path n answer) ≡ Ok (stand z later)
  start_judged later answer is z behind = grind (arith, first_judged, and_from, same_number, then_some, found_one, number_is, same_start)

  -- nothing is changed
  back_there : with_device (map audited (devices_of s)) (audited x) ≡ map audited (devices_of s)
  back_there =
      let m = mounted_too s.mounted n x at in
      rw (← m.2) (put_at s.mounted n m.0 (ap (λ (d : MarksDevice). d.store.device) m.2 ∙ number_is) ∙ put_same s.mounted n m.0
      (λ y found. let e : Some m.0 ≡ Some y = sym m.1 ∙ found in let same : m.0 ≡ y = cc in ap (λ (k : Mounted). audited k.device) same))

  ends_lead : (end : _) (answer : StartAnswer) → R.start_answer end ≡ answer → start_answer (audited x) path ≡ answer →
      after_start (audited x) path answer ≡ audited x →
      EventLeads s (wanted.Start path n) (Once (events.Start path n)) (quietly s s end)
  ends_lead end answer told is same later =
      subst (λ (l : List ReportLine). LeadsBy (stand s (wanted.Start path n ∷ later)) l (stand s later)) (sym (quiet_lines (did.First (lines.Start path n
      (R.start_answer end))) (devices_of s))) (rw told (one_leads (stand s (wanted.Start path n ∷ later)) (stand s later) (lines.Start path n answer)
      (start_judged later answer is s (ap (with_device (map audited (devices_of s))) same ∙ back_there))))

  -- the path runs already
  own_leads : is_path_of x.history.running path ≡ true → EventLeads s (wanted.Start path n) (Once (events.Start path n)) (quietly s s ends.Running)
  own_leads own =
      ends_lead ends.Running answers.Running refl
      (ap (λ (b : Bool). if b then answers.Running else lent_answer (audited x) path x.store.lent) (own_same x.history.running path ∙ own)) refl

  module _ (other : is_path_of x.history.running path ≡ false) where
    its_answer : (o : Option StartFault) → start_fault x path ≡ o → start_answer (audited x) path ≡ answer_by o (S.next_ordinal x path)
    its_answer o is = grind (arith, own_same, answer_is, plainly)

    fault_leads : (fault : StartFault) → start_fault x path ≡ Some fault →
        EventLeads s (wanted.Start path n) (Once (events.Start path n)) (quietly s s (ends.NotStarted fault))
    fault_leads fault is = ends_lead (ends.NotStarted fault) (start_refused fault) refl (its_answer (Some fault) is) (refused_same (audited x) path fault)

    -- It starts

    started_audited : (ordinal : ℕ) → ordinal ≡ S.next_ordinal x path → after_start (audited x) path (answers.Accepted ordinal) ≡ audited (start x path)
    unfolding S.start
    started_audited ordinal is = ap (λ (k : ℕ). record (audited x) { history = started x.history path k }) is

    start_number : (start x path).store.device ≡ n
    unfolding S.start
    start_number = number_is

    module _ (free : start_fault x path ≡ None) (m : Mounted) (there : mounted_in s.mounted n ≡ Some m) (it_is : m.device ≡ x) where
      abbrev y : MarksDevice
      y = start x path

      abbrev new : Mounted
      new = record m { device = start x path }

      nothing_told : TellsNothing m.device (start x path)
      nothing_told = rw it_is (start_tells x path (starts_where_idle x path free))

      its_lines : work_lines (did.First (lines.Start path n (answers.Accepted (S.next_ordinal x path)))) 0 0 (devices_of s) (devices_of (with_mounted s n new))
          ≡ lines.Start path n (answers.Accepted (S.next_ordinal x path)) ∷ []
      its_lines =
          let h = did.First (lines.Start path n (answers.Accepted (S.next_ordinal x path))) in
          (tells_alone s n new).tells h 0 0
          ∙ ap (λ (o : Option Mounted). lines_at h 0 0 o (start x path)) there
          ∙ ap (λ (l : List ReportLine). lines.Start path n (answers.Accepted (S.next_ordinal x path)) ∷ (l ++ (over_lines m.device (start x path) ++ [])))
          nothing_told.loose
          ∙ ap (λ (l : List ReportLine). lines.Start path n (answers.Accepted (S.next_ordinal x path)) ∷ (l ++ [])) nothing_told.over

      starts_lead : EventLeads s (wanted.Start path n) (Once (events.Start path n))
          (quietly s (with_mounted s n new) (ends.Started (S.next_ordinal x path)))
      starts_lead later =
          subst (λ (l : List ReportLine). LeadsBy (stand s (wanted.Start path n ∷ later)) l (stand (with_mounted s n new) later)) (sym its_lines)
          (one_leads (stand s (wanted.Start path n ∷ later)) (stand (with_mounted s n new) later)
          (lines.Start path n (answers.Accepted (S.next_ordinal x path)))
          (start_judged later (answers.Accepted (S.next_ordinal x path)) (its_answer None free) (with_mounted s n new)
          (ap (with_device (map audited (devices_of s))) (started_audited (S.next_ordinal x path) refl)
          ∙ put_at s.mounted n new start_number)))

-- The event

module _ (s : Subsystem) (plain : ArePlain s.mounted) (path n : ℕ) where
  becomes_lead : (x : MarksDevice) → device_in (devices_of s) n ≡ Some x → is_path_of x.history.running path ≡ false → start_fault x path ≡ None →
      (k : ℕ) → k ≡ n →
      EventLeads s (wanted.Start path n) (Once (events.Start path n))
      (quietly s (becomes s k (mounted_in s.mounted k) (start x path)) (ends.Started (S.next_ordinal x path)))
  becomes_lead x at other free k is = let m = mounted_too s.mounted n x at in rw (is, m.1) (starts_lead s plain path n x at other free m.0 m.1 m.2)

  by_fault : (x : MarksDevice) → device_in (devices_of s) n ≡ Some x → is_path_of x.history.running path ≡ false → (o : Option StartFault) →
      start_fault x path ≡ o → EventLeads s (wanted.Start path n) (Once (events.Start path n)) (happens_by s (start_by x path o))
  by_fault x at other (Some fault) is = fault_leads s plain path n x at other fault is
  by_fault x at other None is = becomes_lead x at other is (start x path).store.device (start_number s plain path n x at other)

  by_own : (x : MarksDevice) → device_in (devices_of s) n ≡ Some x → (b : Bool) → is_path_of x.history.running path ≡ b →
      EventLeads s (wanted.Start path n) (Once (events.Start path n))
      (happens_by s (if b then Ends ends.Running else start_by x path (start_fault x path)))
  by_own x at true own = own_leads s plain path n x at own
  by_own x at false other = by_fault x at other (start_fault x path) refl

  pub start_leads : (x : MarksDevice) → device_in (devices_of s) n ≡ Some x →
      EventLeads s (wanted.Start path n) (Once (events.Start path n)) (happens s (events.Start path n))
  unfolding H.happens E.deed
  start_leads x at = rw at (by_own x at (is_path_of x.history.running path) refl)
