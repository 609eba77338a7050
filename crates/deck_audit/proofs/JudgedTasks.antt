-- Whatever a line is to a device, the device that is kept judges it as the history does.
use Rattle.std.proofs.Common.{◌≡◌, ◌≤◌, ◌+◌, ℕ, Option, Some, None, Bool, true, false, cond, refl, sym, ap, subst, ◌∙◌}
use Rattle.std.specs.Prelude.{◌==◌, ◌&&◌}
use Rattle.ckd_types.specs.declared.channel.CommandEnd.{CommandEnd}
use Rattle.ckd_types.specs.declared.sense.Sense.{Sense}
use Rattle.ckd_types.specs.Sense.{equipment_sense, data_check_sense}
use Rattle.deck_plan.specs.declared.event.EventLine.{EventLine}
use Rattle.deck_plan.specs.declared.event.EventLine.TheVariants as events
use Rattle.plain_defs.specs.History.{History, OpenEntry, is_path_of, reset_in_history, reset_in}
use Rattle.plain_defs.specs.Legal.{is_used}
use Rattle.report_text.specs.declared.line.ReportLine.{ReportLine}
use Rattle.report_text.specs.declared.line.ReportLine.TheVariants as lines
use Rattle.deck_audit.specs.declared.kept.Kept.{Kept}
use Rattle.deck_audit.specs.declared.kept.Then.TheVariants.{Passed, Wait}
use Rattle.deck_audit.specs.declared.state.Did.{Did}
use Rattle.deck_audit.specs.declared.state.Did.TheVariants.{Ended, CheckEnded, Halved, Worked}
use Rattle.deck_audit.specs.declared.state.Due.{Due}
use Rattle.deck_audit.specs.declared.state.Due.TheVariants.{Behind, Next, Powers}
use Rattle.deck_audit.specs.declared.task.Task.{Task}
use Rattle.deck_audit.specs.declared.task.Task.TheVariants as tasks
use Rattle.deck_audit.specs.Device as device
use Rattle.deck_audit.specs.Device.{AuditedDevice, check_end, has_loose, own_runs, words_of_open}
use Rattle.deck_audit.specs.Follows.{Follows, KeepsPaths}
use Rattle.deck_audit.specs.History as history
use Rattle.deck_audit.specs.History.{changed, check_made, has_sense, sense_made}
use Rattle.deck_audit.specs.Judging.{due_in, sense_due}
use Rattle.deck_audit.specs.Keeping.{EndsSo, Goes, IsDue, IsKept, IsQuiet, Judges}
use Rattle.deck_audit.specs.Kept.{is_idle, power_kept, power_then, settled_kept, settled_over, tells_loss, then_if, wait_if}
use Rattle.deck_audit.specs.Replay as replay
use Rattle.deck_audit.specs.Replayed.{ReplayedState}
use Rattle.deck_audit.specs.Same.{says}
use Rattle.deck_audit.specs.State.{AuditState, behind_work, is_event_over, over_by, passed, settled_by, then_of, worked}
use Rattle.deck_audit.specs.Place.{first_event}
use Rattle.deck_audit.specs.Task.{IsInRange, IsReady, is_over_with, next_then, settle_then_by, task_kept, task_made, task_then}
use Rattle.deck_audit.proofs.Judges.{Idle, Runs, by_program, judges_if}
use Rattle.deck_audit.proofs.JudgedActs.{act_judged, harden_judged, loss_judged, same_tells}
use Rattle.deck_audit.proofs.JudgedCuts.{cut_judged, power_judged}
use Rattle.deck_audit.proofs.JudgedEnds.{Settles, same_idle, settles}
use Rattle.deck_audit.proofs.JudgedStarts.{start_judged}
use Rattle.deck_audit.proofs.JudgedWork.{work_judged}
use Rattle.deck_audit.proofs.JudgingLaw.{sense_judged}
use Rattle.deck_audit.proofs.KeptPaths.{keeps_same, reset_keeps, used_kept, wait_keeps}
use Rattle.deck_audit.proofs.ReplayedEnds.{ends_as, runs_as}
use Rattle.deck_audit.proofs.ReplayedResets.{loan_is_followed, reset_follows, wait_follows}

-- An event that is over with a piece of work

same_over : (event : Option EventLine) (idle : Bool) (a : AuditedDevice) (did : Did) → idle ≡ device.is_idle a
    → is_over_with event idle did ≡ is_event_over event a did
same_over (Some (events.Run d)) idle a did is = is
same_over (Some (events.Settle d)) idle a (Worked last) is = refl
same_over (Some (events.Settle d)) idle a did is = refl
same_over event idle a did is = refl

module _ (s : AuditState) (a : AuditedDevice) (k : Kept) (b : AuditedDevice) (did : Did) (kept : IsKept k b) (quiet : IsQuiet k)
    (number_is : b.number ≡ a.number) (plans_are : b.plans ≡ a.plans) where
  by_over : (over : Bool) → Goes s a (Some (cond over (passed (changed s b)) (record (changed s b) { due = Next })))
      (cond over Passed (Wait Next)) k
  by_over true = record { after = b; made_is = refl; kept = kept; due = quiet; number_is = number_is; plans_are = plans_are }
  by_over false = record { after = b; made_is = refl; kept = kept; due = quiet; number_is = number_is; plans_are = plans_are }

  next_goes : (event : Option EventLine) → event ≡ first_event s.events
      → Goes s a (Some (behind_work (changed s b) b did)) (next_then event k did) k
  next_goes event is =
      rw (same_over event (is_idle k.device) b did (same_idle k b kept), is) (by_over (is_event_over (first_event s.events) b did))

worked_number : (a : AuditedDevice) (did : Did) → (worked a did).number ≡ a.number
worked_number a (Ended e) = refl
worked_number a (CheckEnded e) = refl
worked_number a Halved = refl
worked_number a (Worked last) = refl

worked_plans : (a : AuditedDevice) (did : Did) → (worked a did).plans ≡ a.plans
worked_plans a (Ended e) = refl
worked_plans a (CheckEnded e) = refl
worked_plans a Halved = refl
worked_plans a (Worked last) = refl

-- A piece of work is taken as done

module _ (s : AuditState) (k : Kept) (a : AuditedDevice) (did : Did) (event : Option EventLine) (st : Settles k a did)
    (event_is : event ≡ first_event s.events) where
  settle_by : (over : Option ReportLine) → Goes s a (Some (settled_by s a did over)) (settle_then_by event k did over) (settled_kept k did)
  settle_by (Some line) = record {
    after = worked a did;
    made_is = refl;
    kept = st.kept;
    due = st.quiet;
    number_is = worked_number a did;
    plans_are = worked_plans a did;
  }
  settle_by None = next_goes s a (settled_kept k did) (worked a did) did st.kept st.quiet (worked_number a did) (worked_plans a did)
      event event_is

  settle_judged : Goes s a (Some (settled_by s a did (over_by a did a.history.running)))
      (settle_then_by event k did (settled_over k did)) (settled_kept k did)
  settle_judged = rw st.over_is (settle_by (over_by a did a.history.running))

-- SENSE

module _ (s : AuditState) (k : Kept) (a : AuditedDevice) (line : ReportLine) (e : CommandEnd) (i : IsKept k a)
    (unchanged : changed s a ≡ s) (so : EndsSo e k a) where
  sense_goes : (due : Due) → IsDue due k a → Goes s a (Some (record s { due = due })) (Wait due) k
  sense_goes due here = record {
    after = a;
    made_is = ap (λ (t : AuditState). Some (record t { due = due })) (sym unchanged);
    kept = i;
    due = here;
    number_is = refl;
    plans_are = refl;
  }

  abbrev check_by : Sense → Due
  check_by sense = Behind true (CheckEnded (check_end (words_of_open a so.0.entry) e.index sense))

  by_tests : (b c d : Bool) → Judges s a (cond b (Some (record s { due = Behind true (Ended e) }))
      (cond c (Some (record s { due = check_by equipment_sense })) (cond d (Some (record s { due = check_by data_check_sense })) None)))
      (wait_if (due_in (cond b (Some (record s { due = Behind true (Ended e) }))
      (cond c (Some (record s { due = check_by equipment_sense })) (cond d (Some (record s { due = check_by data_check_sense })) None))))) k
  by_tests true c d = sense_goes (Behind true (Ended e)) so
  by_tests false true d = sense_goes (check_by equipment_sense) (equipment_sense, refl, so.0)
  by_tests false false true = sense_goes (check_by data_check_sense) (data_check_sense, refl, so.0)
  by_tests false false false = refl

  abbrev made_here : Option OpenEntry → Option AuditState
  made_here x = cond (has_sense line e.sense) (Some (record s { due = Behind true (Ended e) })) (then_of x (check_made s line a e))

  sense_is_judged : Judges s a (sense_made s line e a) (wait_if (sense_due a.plans k.device line e)) k
  sense_is_judged =
      let ends = ends_as k.device a so.0.entry so.0.run so.0.pending i.follows so.0.run_is so.0.pending_is so.0.entry_is in
      rw (sense_judged s k.device a so.0.entry so.0.run ends.runs.path_is ends.runs.ordinal_is i.follows.number_is so.0.run_is line e so.0.entry_is)
      (subst (λ (x : Option OpenEntry). Judges s a (made_here x) (wait_if (due_in (made_here x))) k) (sym so.0.entry_is)
      (by_tests (has_sense line e.sense) (says (lines.Sense equipment_sense) line) (says (lines.Sense data_check_sense) line)))

-- A RESET that cuts no program

same_if : {S T : Type 0} (f : S → T) (b : Bool) (x y : S) → f x ≡ f y → f (cond b x y) ≡ f y
same_if f true x y is = is
same_if f false x y is = refl

module _ (s : AuditState) (k : Kept) (a : AuditedDevice) (path : ℕ) (i : IsKept k a) (quiet : IsQuiet k) (least : 1 ≤ path) (most : path ≤ 4)
    (unlike : own_runs a.history.running path ≡ false) where
  reset_goes : (x : ReplayedState) → replay.reset k.device path ≡ x → Follows x (record a { history = reset_in_history a.history path 0 })
      → KeepsPaths x (reset_in_history a.history path 0) → x.pending ≡ k.device.pending → (reset_in_history a.history path 0).running ≡ a.history.running
      → Goes s a (Some (passed (changed s (record a { history = reset_in_history a.history path 0 })))) Passed
      (record k { device = replay.reset k.device path })
  reset_goes x is follows keeps pending running = rw is (record {
    after = record a { history = reset_in_history a.history path 0 };
    made_is = refl;
    kept = record { follows = follows; keeps = keeps; counts = rw running i.counts };
    due = pending ∙ quiet;
    number_is = refl;
    plans_are = refl;
  })

  used_is : (running : Option OpenEntry) → a.history.running ≡ running → is_path_of running path ≡ false
      → replay.is_used_on k.device path ≡ is_used path false a.history.items
  used_is running is other = rw (is, other) at (used_kept k.device a i.keeps path least most)

  idle_reset : Idle k.device a → Goes s a (Some (passed (changed s (record a { history = reset_in_history a.history path 0 })))) Passed
      (record k { device = replay.reset k.device path })
  idle_reset idle =
      let used = used_is None idle.entry_is refl in
      let is : replay.reset k.device path ≡ replay.reset_used k.device path = rw idle.run_is refl in
      reset_goes (replay.reset_used k.device path) is (rw is at (reset_follows k.device a i.follows idle.entry_is path 0 used))
      (reset_keeps k.device a.history i.keeps idle.entry_is path 0 least most used)
      (same_if (λ (x : ReplayedState). x.pending) (replay.is_used_on k.device path) _ _ refl)
      (ap (λ (x : Option OpenEntry). (reset_in a.history path 0 x).running) idle.entry_is
      ∙ same_if (λ (x : History). x.running) (is_used path false a.history.items) _ _ refl)

  runs_reset : Runs k.device a → Goes s a (Some (passed (changed s (record a { history = reset_in_history a.history path 0 })))) Passed
      (record k { device = replay.reset k.device path })
  runs_reset r =
      let other : (r.entry.path == path) ≡ false = rw r.entry_is at unlike in
      let path_is = (runs_as k.device a r.entry r.run i.follows r.run_is quiet r.entry_is).path_is in
      let used = used_is (Some r.entry) r.entry_is other in
      let is : replay.reset k.device path ≡ replay.wait_used k.device path = rw (r.run_is, path_is, other) refl in
      reset_goes (replay.wait_used k.device path) is
      (wait_follows k.device a i.follows r.entry path 0 r.entry_is other used)
      (wait_keeps k.device a.history r.entry i.keeps r.entry_is path least most other 0 used)
      (same_if (λ (x : ReplayedState). x.pending) (replay.is_used_on k.device path) _ _ refl)
      (ap (λ (x : Option OpenEntry). (reset_in a.history path 0 x).running) r.entry_is
      ∙ rw other (same_if (λ (x : History). x.running) (is_used path false a.history.items) _ _ refl))

  reset_judged : Goes s a (Some (passed (changed s (record a { history = reset_in_history a.history path 0 })))) Passed
      (record k { device = replay.reset k.device path })
  reset_judged = by_program k.device a i.follows idle_reset runs_reset

-- Every task

module _ (s : AuditState) (k : Kept) (a : AuditedDevice) (at : ℕ) (line : ReportLine) (i : IsKept k a) (unchanged : changed s a ≡ s)
    (place : at ≡ history.place_of s.devices a.number) where
  over_goes : (event : Option EventLine) → event ≡ first_event s.events → IsQuiet k
      → Goes s a (Some (behind_work s a Halved)) (next_then event k Halved) k
  over_goes event is quiet = subst (λ (t : AuditState). Goes s a (Some (behind_work t a Halved)) (next_then event k Halved) k) unchanged
      (next_goes s a k a Halved i quiet refl refl event is)

  lent_goes : (of : ℕ) → IsQuiet k → Goes s a (Some (passed (changed s (record a { lent = Some of })))) Passed
      (record k { device = replay.lent_to k.device of })
  lent_goes of quiet = record {
    after = record a { lent = Some of };
    made_is = refl;
    kept = record {
      follows = loan_is_followed k.device a i.follows of;
      keeps = keeps_same k.device (replay.lent_to k.device of) a.history refl refl refl refl i.keeps;
      counts = i.counts;
    };
    due = quiet;
    number_is = refl;
    plans_are = refl;
  }

  pub task_judged : (task : Task) → IsInRange task → IsReady s k a task
      → Judges s a (task_made s line task a) (task_then a.plans k at line task) (task_kept a.plans k line task)
  task_judged (tasks.Start path) range quiet = start_judged s k a path line i quiet range.0 range.1
  task_judged tasks.Work range quiet = work_judged s k a i quiet unchanged line
  task_judged (tasks.Sense e) range so = sense_is_judged s k a line e i unchanged so
  task_judged (tasks.Act did) range so = act_judged s k a i line did so
  task_judged (tasks.Settle event did) range ready = settle_judged s k a did event (settles k a i did ready.0) ready.1
  task_judged (tasks.Over event wanted) range ready = judges_if s a (behind_work s a Halved) (next_then event k Halved) k
      (says wanted line) (says wanted line) refl (λ is. over_goes event ready.1 ready.0)
  task_judged (tasks.Cut n) range quiet = cut_judged s k a i quiet n range
  task_judged (tasks.Reset path) range ready = reset_judged s k a path i ready.0 range.0 range.1 ready.1
  task_judged (tasks.Harden t) range quiet = harden_judged s k a i t quiet
  task_judged tasks.Loss range quiet = loss_judged s k a i quiet line
  task_judged (tasks.Lend of) range quiet = lent_goes of quiet
  task_judged (tasks.PowerCut n) range quiet =
      subst (λ (m : ℕ). Judges s a (then_of a.history.running (history.power_cut s a n)) (power_then k n (Powers m)) (power_kept k n))
      (sym place) (power_judged s k a i quiet n range)
  task_judged tasks.PowerLoss range quiet =
      subst (λ (m : ℕ). Judges s a (history.power_loss s line a) (then_if (tells_loss k.device line) (Wait (Powers (m + 1)))) k) (sym place)
      (judges_if s a (record s { due = Powers (history.place_of s.devices a.number + 1) })
      (Wait (Powers (history.place_of s.devices a.number + 1))) k (has_loose a && says (history.loss_line a) line) (tells_loss k.device line)
      (same_tells s k a i quiet line)
      (λ is. record {
        after = a;
        made_is = ap (λ (t : AuditState). Some (record t { due = Powers (history.place_of s.devices a.number + 1) })) (sym unchanged);
        kept = i;
        due = quiet;
        number_is = refl;
        plans_are = refl;
      }))
