-- A line that one device judges makes of an auditor what it makes of the audited state.
use Rattle.std.proofs.Common.{◌≡◌, ◌≤◌, ◌+◌, ℕ, zero, suc, List, [], ◌∷◌, length, drop, Option, Some, None, Bool, true, false, cond, refl, arith, sym, ap}
use Rattle.std.proofs.Common.{subst, ◌∙◌}
use Rattle.std.specs.Prelude.{◌⊎◌, ⊤, map, nat_lt, slice_get, slice_set}
use Rattle.std.proofs.Common.{rules}
use Rattle.std.proofs.Math.ListN.{drop_of_length-le}
use Rattle.std.proofs.lemmas.List.{drop-drop, map-set}
use Rattle.std.proofs.lemmas.Bool.Decides.{nat_tests}
use Rattle.ckd_types.specs.declared.channel.CommandEnd.{CommandEnd}
use Rattle.ckd_types.specs.Sense.{equipment_sense, data_check_sense}
use Rattle.deck_plan.specs.declared.event.EventLine.{EventLine}
use Rattle.deck_plan.specs.Plans.{PlansByPath}
use Rattle.report_text.specs.declared.line.ReportLine.{ReportLine}
use Rattle.report_text.specs.declared.line.ReportLine.TheVariants as lines
use Rattle.report_audit.specs.Auditor.{AreKept, ArePowered, Fits, IsAuditOf, IsFor, IsJudgedAt, Makes, NoneRuns, OneKept, gone_on, is_quiet}
use Rattle.report_audit.specs.Auditor.{kept_outline, next_place, place_from}
use Rattle.report_audit.specs.declared.auditor.Auditor.{Auditor}
use Rattle.deck_audit.specs.declared.kept.Kept.{Kept}
use Rattle.deck_audit.specs.declared.kept.Then.{Then}
use Rattle.deck_audit.specs.declared.kept.Then.TheVariants.{Passed, Wait}
use Rattle.deck_audit.specs.declared.replayed.Running.{Running}
use Rattle.deck_audit.specs.declared.state.Did.{Did}
use Rattle.deck_audit.specs.declared.state.Did.TheVariants.{Ended, CheckEnded, Halved}
use Rattle.deck_audit.specs.declared.state.Due.{Due}
use Rattle.deck_audit.specs.declared.state.Due.TheVariants.{Next, Behind}
use Rattle.deck_audit.specs.declared.state.Outline.{Outline}
use Rattle.deck_audit.specs.declared.task.Task.{Task}
use Rattle.deck_audit.specs.declared.task.Task.TheVariants as tasks
use Rattle.deck_audit.specs.Device.{AuditedDevice, device_in, with_device}
use Rattle.deck_audit.specs.History.{has_sense, place_of}
use Rattle.deck_audit.specs.Judging.{check_of, end_due_by, sense_due_by}
use Rattle.deck_audit.specs.Keeping.{Goes, IsDue, Judges, due_of, goes_on}
use Rattle.deck_audit.specs.Kept.{act_then, cut_then_by, then_if, wait_if, work_then}
use Rattle.deck_audit.specs.Place.{IsDueOf}
use Rattle.deck_audit.specs.Replayed.{ReplayedState}
use Rattle.deck_audit.specs.Same.{says}
use Rattle.deck_audit.specs.State.{AuditState, then_of, worker_number}
use Rattle.deck_audit.specs.Task.{next_then, task_kept, task_made, task_then}
use Rattle.report_audit.proofs.Auditors.{At, all_of_one, at, none_at, none_before, one_of_all, quiet_of, same_length}
use Rattle.deck_audit.proofs.JudgedTasks.{task_judged}

-- What is due behind a line of a device

abbrev IsWait : (Due → Type 0) → Option Then → Type 0
IsWait P None = ⊤
IsWait P (Some Passed) = ⊤
IsWait P (Some (Wait due)) = P due

wait_when : (P : Due → Type 0) (b : Bool) (next : Then) → IsWait P (Some next) → IsWait P (then_if b next)
wait_when P b next is = grind arith

-- a due that counts no devices, of a worker if of any
record Plain (w : Bool) (due : Due) : Type 0 where
  quiet : (is_quiet due ≡ true) ⊎ (w ≡ true)
  told : (n : ℕ) → IsDueOf n due
  powered : (devices : List AuditedDevice) → ArePowered due devices

module _ (plans : PlansByPath) (r : ReplayedState) (line : ReportLine) (e : CommandEnd) where
  end_wait : (running : Option Running) → IsWait (λ due. Plain true due) (wait_if (end_due_by plans r line e running))
  end_wait running = grind arith

  sense_by : (o : Running) (b c d : Bool) → IsWait (λ due. Plain true due) (wait_if (cond b (Some (Behind true (Ended e)))
      (cond c (Some (Behind true (CheckEnded (check_of plans o e equipment_sense))))
      (cond d (Some (Behind true (CheckEnded (check_of plans o e data_check_sense)))) None))))
  sense_by o b c d = grind arith

  sense_wait : (running : Option Running) → IsWait (λ due. Plain true due) (wait_if (sense_due_by plans line e running))
  sense_wait (Some o) = sense_by o (has_sense line e.sense) (says (lines.Sense equipment_sense) line) (says (lines.Sense data_check_sense) line)
  sense_wait None = tt

over_wait : (b : Bool) → IsWait (λ due. Plain true due) (Some (cond b Passed (Wait Next)))
over_wait b = grind arith

cut_wait : (P : Due → Type 0) (k : Kept) (n : ℕ) (due : Due) (running : Option Running) → P due → IsWait P (cut_then_by k n due running)
cut_wait P k n due running is = grind (arith, wait_when)

work_wait : (plans : PlansByPath) (k : Kept) (line : ReportLine) → IsWait (λ due. Plain true due) (work_then plans k line)
work_wait plans k line = grind (arith, end_wait)

act_wait : (k : Kept) (line : ReportLine) (did : Did) → IsWait (λ due. Plain true due) (act_then k line did)
act_wait k line did = grind (arith, wait_when)

record IsDueBehind (s : AuditState) (d : ℕ) (devices : List AuditedDevice) (due : Due) : Type 0 where
  quiet : (is_quiet due ≡ true) ⊎ (worker_number s ≡ Some d)
  told : IsDueOf (length devices) due
  powered : ArePowered due devices

module _ (s : AuditState) (d : ℕ) (devices : List AuditedDevice) where
  of_worker : worker_number s ≡ Some d → (next : Option Then) → IsWait (λ due. Plain true due) next
      → IsWait (λ due. IsDueBehind s d devices due) next
  of_worker worker next is = grind arith

  module _ (plans : PlansByPath) (k : Kept) (i : ℕ) (line : ReportLine) (place : place_of s.devices d ≡ i) (short : suc i ≤ length devices)
      (cuts : NoneRuns (place_of s.devices d) s.devices → NoneRuns (place_of s.devices d) devices) where
    task_wait : (task : Task) → Fits s d task → (task ≡ tasks.PowerLoss → devices ≡ s.devices)
        → IsWait (λ due. IsDueBehind s d devices due) (task_then plans k i line task)
    task_wait (tasks.Start path) fits lost = wait_when (λ due. IsDueBehind s d devices due) _ Passed tt
    task_wait tasks.Work fits lost = of_worker fits.1 (work_then plans k line) (work_wait plans k line)
    task_wait (tasks.Sense e) fits lost = of_worker fits.1 _ (sense_wait plans k.device line e k.device.running)
    task_wait (tasks.Act did) fits lost = of_worker fits.2 (act_then k line did) (act_wait k line did)
    task_wait (tasks.Settle event did) fits lost = grind (arith, of_worker, over_wait)
    task_wait (tasks.Over event wanted) fits lost = of_worker fits.1 _
        (wait_when (λ due. Plain true due) (says wanted line) (next_then event k Halved) (over_wait _))
    task_wait (tasks.Cut n) fits lost = grind (arith, cut_wait)
    task_wait (tasks.Reset path) fits lost = tt
    task_wait (tasks.Harden t) fits lost = grind (arith, wait_when)
    task_wait tasks.Loss fits lost = grind (arith, wait_when)
    task_wait (tasks.Lend of) fits lost = tt
    task_wait (tasks.PowerCut n) fits lost = grind (arith, cut_wait)
    task_wait tasks.PowerLoss fits lost = grind (arith, wait_when, lost)

-- An auditor behind the line

pub behind_event : (events : List EventLine) (n : ℕ) → drop 1 (drop n events) ≡ drop (next_place n (length events)) events
behind_event events n = by_test (nat_lt n (length events)) refl where
  by_test : (b : Bool) → nat_lt n (length events) ≡ b → drop 1 (drop n events) ≡ drop (cond b (n + 1) n) events
  by_test true is = drop-drop 1 n events
  by_test false is = let past : length events ≤ n = search (nat_tests, rules) in
      ap (λ (l : List EventLine). drop 1 l) (drop_of_length-le events past) ∙ sym (drop_of_length-le events past)

some_same : {T : Type 0} (x y : T) → Some x ≡ Some y → x ≡ y
some_same x y is = cc

abbrev devices_made : Option AuditState → List AuditedDevice
devices_made (Some s) = s.devices
devices_made None = []

set_read : (l : List Kept) (i : ℕ) (k b : Kept) → slice_get l i ≡ Some b → slice_get (slice_set l i k) i ≡ Some k
set_read [] i k b is = absurd (cc)
set_read (x ∷ l) zero k b is = refl
set_read (x ∷ l) (suc i) k b is = set_read l i k b is

module _ (z : Auditor) (s : AuditState) (d : ℕ) (task : Task) (f : IsFor z s) (fits : Fits s d task) where
  pub has_one : OneKept z.deck.programs s.due d z.devices.items s.devices
  has_one = grind (arith, one_of_all, some_same)

  pub is_absent : place_from 0 z.devices.items d ≡ None → (line : ReportLine) → then_of (device_in s.devices d) (task_made s line task) ≡ None
  is_absent none line = grind (arith, none_at, has_one)

  module _ (line : ReportLine) (i : ℕ) (place : place_from 0 z.devices.items d ≡ Some i) (new : List Kept) (next : Option Then)
      (j : IsJudgedAt z.deck.programs z.devices.items new i d line task next) where
    here : At z.deck.programs d s.due 0 i z.devices.items s.devices
    here = at z.deck.programs d s.due 0 z.devices.items s.devices has_one i place

    same_place : here.j ≡ i
    same_place = let p = here.place in omega (arith, p)

    abbrev a : AuditedDevice
    a = here.found.a

    at_place : i ≡ place_of s.devices here.found.a.number
    at_place = sym same_place ∙ sym here.found.place_is ∙ ap (λ (n : ℕ). place_of s.devices n) (sym here.found.number_is)

    all_judged : Judges s here.found.a (task_made s line task here.found.a) (task_then here.found.a.plans here.found.k i line task)
        (task_kept here.found.a.plans here.found.k line task)
    all_judged = grind (arith, task_judged, here, at_place, quiet_of)

    same_next : next ≡ task_then here.found.a.plans here.found.k i line task
    same_next = grind (arith, here, some_same, same_place)

    module _ (x : Then) (next_is : next ≡ Some x) where
      g : Goes s here.found.a (task_made s line task here.found.a) x (task_kept here.found.a.plans here.found.k line task)
      g = grind (arith, here, same_next, all_judged)

      abbrev kept : Kept
      kept = task_kept here.found.a.plans here.found.k line task

      new_here : new ≡ slice_set z.devices.items here.j kept
      new_here = grind (arith, here, some_same, same_place)

      number_is : g.after.number ≡ d
      number_is = g.number_is ∙ here.found.number_is

      lost : task ≡ tasks.PowerLoss → with_device s.devices g.after ≡ s.devices
      lost is = grind (arith, g, here)

      module _ (y : Auditor) (deck_is : y.deck ≡ z.deck) (items_are : y.devices.items ≡ new) (passed_is : y.passed ≡ z.passed)
          (outlines_so : y.outlines.items ≡ map kept_outline y.devices.items) where
        events_on : s.events ≡ drop y.passed y.deck.events
        events_on = grind arith

        one_now : (due : Due) → IsDue due kept g.after → OneKept y.deck.programs due d y.devices.items (with_device s.devices g.after)
        one_now due so = grind (arith, g, new_here, here, number_is)

        kept_by : (due : Due) → IsDue due kept g.after → (b : Bool) → is_quiet due ≡ b → (is_quiet due ≡ true) ⊎ (worker_number s ≡ Some d)
            → AreKept y.deck.programs due (worker_number s) y.devices.items (with_device s.devices g.after) b
        kept_by due so b quiet or = grind (arith, all_of_one, g, one_now due so)

        audit_by : (n : Then) → IsDue (due_of n) kept g.after → IsWait (λ due. IsDueBehind s d (with_device s.devices g.after) due) (Some n)
            → IsAuditOf (gone_on y n) (goes_on s g.after n)
        audit_by Passed so wait = record {
          for = record {
            events_are = ap (λ (e : List EventLine). drop 1 e) events_on ∙ behind_event y.deck.events y.passed;
            devices_are = all_of_one y.deck.programs Next refl d y.devices.items (with_device s.devices g.after) (one_now Next so);
            told = tt;
            powered = tt;
            outlines_so = outlines_so;
          };
          due_is = refl;
        }
        audit_by (Wait due) so wait = grind (arith, events_on, kept_by)

        pub goes : Makes true (gone_on y x) (then_of (device_in s.devices d) (task_made s line task))
        goes = grind (arith, g, here, audit_by, same_next, task_wait, same_place, same_length, none_before, number_is, lost)

    pub new_outlines : (before after : List Outline) → before ≡ map kept_outline z.devices.items
        → ((k : Kept) → slice_get new i ≡ Some k → after ≡ slice_set before i (kept_outline k)) → after ≡ map kept_outline new
    new_outlines before after is set = grind (arith, set_read, map-set)

    pub fails : next ≡ None → then_of (device_in s.devices d) (task_made s line task) ≡ None
    fails is = grind (arith, here, same_next, all_judged)

    -- the auditor with these devices and outlines goes on
    pub goes_with : (x : Then) → next ≡ Some x → (y w : Auditor) → w ≡ gone_on y x → y.deck ≡ z.deck → y.passed ≡ z.passed → y.devices.items ≡ new
        → (before after : List Outline) → before ≡ z.outlines.items
        → ((k : Kept) → slice_get new i ≡ Some k → after ≡ slice_set before i (kept_outline k)) → y.outlines.items ≡ after
        → Makes true w (then_of (device_in s.devices d) (task_made s line task))
    goes_with x is y w w_is deck_is passed_is items before after same set outlines =
        subst (λ (v : Auditor). Makes true v (then_of (device_in s.devices d) (task_made s line task))) (sym w_is)
        (goes x is y deck_is items passed_is (outlines ∙ new_outlines before after (same ∙ f.outlines_so) set
        ∙ ap (λ (l : List Kept). map kept_outline l) (sym items)))
