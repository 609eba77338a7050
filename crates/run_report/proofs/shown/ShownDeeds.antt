-- What each event tells of the device that it asks, and of all others.
use Rattle.std.proofs.Common.{◌≡◌, ◌==◌, ℕ, Bool, true, false, List, [], ◌∷◌, Option, Some, None, is_some, refl, sym, ap, subst, ◌∙◌, if◌then◌else◌}
use Rattle.std.specs.Prelude.{◌&&◌, IfSome, option_map}
use Rattle.loss_model.specs.declared.Loss.{Loss}
use Rattle.ckd_types.specs.declared.channel.CommandEnd.{CommandEnd}
use Rattle.plain_defs.specs.declared.journal.Item.{Item}
use Rattle.run_report.specs.Beside.{over_of}
use Rattle.plain_defs.specs.History.{OpenEntry, History, started, is_path_of}
use Rattle.device_outside.specs.Pool.{Pool}
use Rattle.device_defs.specs.declared.answers.Did.{Did}
use Rattle.device_defs.specs.declared.answers.SecondEnd.{SecondEnd}
use Rattle.device_defs.specs.declared.answers.SecondEnd.TheVariants as seconds
use Rattle.device_defs.specs.declared.answers.StartFault.{StartFault}
use Rattle.device_defs.specs.declared.answers.StartFault.TheVariants as faults
use Rattle.device_defs.specs.declared.answers.Stepped.{Stepped}
use Rattle.device_defs.specs.declared.answers.Stepped.TheVariants as steps
use Rattle.device_defs.specs.Command.{command}
use Rattle.device_defs.specs.Contents.{by_plain}
use Rattle.device_defs.specs.Cutting.{reset, power, counts_one_by}
use Rattle.device_defs.specs.Events.{lose, background}
use Rattle.device_defs.specs.Marks.{MarksDevice}
use Rattle.device_defs.specs.Start as S
use Rattle.device_defs.specs.Start.{start, start_fault, next_ordinal}
use Rattle.device_defs.specs.Store.{HalfWrite}
use Rattle.device_laws.proofs.DeviceCuts.{reset_tells, power_tells}
use Rattle.device_laws.proofs.DeviceHistory.{starts_where_idle}
use Rattle.device_laws.proofs.Had.{had_done, had_then, held}
use Rattle.device_laws.proofs.HistoryTold.{StepTold, SecondTold, HasActed, HasEnded, command_told, second_event_told, background_told, loss_told}
use Rattle.device_laws.proofs.PlainCommand.{command_follows}
use Rattle.device_laws.proofs.PlainCuts.{reset_follows}
use Rattle.device_laws.proofs.PlainEvents.{had_always, had_both}
use Rattle.device_laws.proofs.PlainLosses.{loss_follows, background_follows}
use Rattle.device_laws.proofs.PlainPower.{power_follows}
use Rattle.device_laws.proofs.PlainSeconds.{second_follows}
use Rattle.report_text.specs.declared.answers.StartAnswer.TheVariants as answers
use Rattle.report_text.specs.declared.event.Happened.{Happened}
use Rattle.report_text.specs.declared.event.Happened.TheVariants as did
use Rattle.report_text.specs.declared.line.ReportLine.{ReportLine}
use Rattle.report_text.specs.declared.line.ReportLine.TheVariants as lines
use Rattle.report_text.specs.Events.{first_lines, program_over_lines}
use Rattle.run_report.specs.declared.told.RunningProgram.{RunningProgram}
use Rattle.run_report.specs.Answers.{start_answer, start_refused}
use Rattle.run_report.specs.Events.{work_told, end_told, half_told, running_program}
use Rattle.report_text.specs.Counting.{is_accepted}
use Rattle.run_report.specs.Shown.{shown_from}
use Rattle.run_report.proofs.HistoryShown.{start_shows}
use Rattle.run_report.proofs.OneDevice.{none_behind}
use Rattle.run_report.proofs.shown.Histories.{
  HistoryShows,
  shows_by,
  same_shows,
  ended_is_shown,
  idle_ended,
  acted_is_shown,
  reset_shows,
  power_is_shown,
}
use Rattle.run_report.proofs.shown.Lines.{IsOther, accepted_not, other_shows, ended_shown, started_shown}
use Rattle.run_report.proofs.shown.Places.{devices}
use Rattle.run_report.proofs.shown.ShownEvents.{says, Silent, Shows, kept, Answered, ShowsDeed}
use Rattle.subsystem_defs.specs.declared.end.EventEnd.{EventEnd}
use Rattle.subsystem_defs.specs.declared.end.EventEnd.TheVariants as ends
use Rattle.subsystem_defs.specs.Decks.{Firsts}
use Rattle.subsystem_defs.specs.Deeds.{
  Ends,
  Asks,
  Each,
  device_in,
  ends_done,
  end_of,
  starts,
  start_by,
  step,
  back,
  seconds as seconded,
  may_end_by,
  ends_by,
}
use Rattle.subsystem_defs.specs.Happening.{told_to, told_end}
use Rattle.subsystem_defs.specs.Subsystem.{Mounted, Subsystem, number_of, devices_of, mounted_in}
use Rattle.subsystem_laws.proofs.FoundDevices.{number_found, same_found}
use Rattle.subsystem_laws.proofs.PlainRuns.{PlainlyFrom, ArePlainOn}
use Rattle.subsystem_laws.proofs.Walks.{device_so}

none_if : (b : Bool) (m : Mounted) (ms : List Mounted) (i : ℕ) (x : MarksDevice) → (number_of m == i) ≡ b →
    (if b then Some m.device else device_in (devices ms) i) ≡ Some x → (if b then Some m else mounted_in ms i) ≡ None →
    (device_in (devices ms) i ≡ Some x → mounted_in ms i ≡ None → ⊥) → ⊥
none_if true m ms i x is at none more = absurd (let some : Some m ≡ None = none in cc)
none_if false m ms i x is at none more = more at none

-- a device that is found is mounted
mounted_too : (ms : List Mounted) (i : ℕ) (x : MarksDevice) → device_in (devices ms) i ≡ Some x → mounted_in ms i ≡ None → ⊥
mounted_too [] i x at none = absurd (let far : None ≡ Some x = at in cc)
mounted_too (m ∷ ms) i x at none = none_if (number_of m == i) m ms i x refl at none (mounted_too ms i x)

module _ (n : ℕ) (firsts : Firsts) (s : Subsystem) (plain : ArePlainOn firsts s.mounted) where
  module _ (k : ℕ) (x : MarksDevice) (at : device_in (devices_of s) k ≡ Some x) where
    number_is : x.store.device ≡ k
    number_is = number_found s.mounted k x at

    plainly : PlainlyFrom firsts x
    plainly = subst (λ (o : Option MarksDevice). IfSome o (PlainlyFrom firsts)) at (device_so (PlainlyFrom firsts) s.mounted k plain)

    it_is : (m : Mounted) → mounted_in s.mounted x.store.device ≡ Some m → m.device ≡ x
    it_is m found = same_found s.mounted k x m at (ap (mounted_in s.mounted) (sym number_is) ∙ found)

    -- what is told of it where that shows what came to its history
    answered : (told : EventEnd → Happened) (m : Mounted) → mounted_in s.mounted x.store.device ≡ Some m → (y : MarksDevice) (end : EventEnd) →
        y.store.device ≡ x.store.device →
        (k ≡ n → (own : Bool) → HistoryShows n x.history y.history (says n (told end) own)) → ((k == n) ≡ false → IsOther n (told end)) →
        Answered n s told x m y end
    answered told m found y end number own other = record {
      number = number;
      own = λ same. subst (λ (d : MarksDevice). Shows n (told end) d y) (sym (it_is m found)) (own (sym number_is ∙ same));
      other = λ far. other_shows n (told end) (other (ap (λ (i : ℕ). i == n) (sym number_is) ∙ far));
    }

    -- Events that tell nothing of it first

    module _ (told : EventEnd → Happened) (silent : (end : EventEnd) → Silent n (told end)) where
      quiet : (m : Mounted) → mounted_in s.mounted x.store.device ≡ Some m → (y : MarksDevice) (end : EventEnd) → y.store.device ≡ x.store.device →
          HistoryShows n x.history y.history [] → Answered n s told x m y end
      quiet m found y end number shows = record {
        number = number;
        own = λ same. subst (λ (d : MarksDevice). Shows n (told end) d y) (sym (it_is m found)) (kept n (told end) (silent end) x y shows);
        other = λ far. silent end;
      }

      pub quiet_becomes : (y : MarksDevice) → y.store.device ≡ x.store.device → y.history ≡ x.history →
          (mounted_in s.mounted y.store.device ≡ None → Silent n (told ends.Done))
          × ((m : Mounted) → mounted_in s.mounted y.store.device ≡ Some m → Answered n s told y m y ends.Done)
      quiet_becomes y number same = (
        λ _. silent ends.Done,
        λ m found. record {
          number = refl;
          own = λ e. subst (λ (d : MarksDevice). Shows n (told ends.Done) d y) (sym (it_is m (ap (mounted_in s.mounted) (sym number) ∙ found)))
              (kept n (told ends.Done) (silent ends.Done) x y (same_shows n x.history y.history same));
          other = λ far. silent ends.Done;
        },
      )

      pub quiet_reset : (path : ℕ) → ShowsDeed n s told (Asks x (ends_by ends_done (reset by_plain x path)))
      quiet_reset path = (
        silent ends.Idle,
        λ m found. had_then (had_both (reset_follows plainly.number plainly.empty x plainly.follows path) (had_always (reset_tells by_plain x path)))
            (λ y a g. had_done (quiet m found y ends.Done (g.0.number ∙ sym plainly.follows.number)
            (subst (λ (h : History). HistoryShows n x.history h []) (sym g.1.history) (reset_shows n x.history path (counts_one_by x.store.half))))),
      )

      pub quiet_loss : (loss : Loss) → ShowsDeed n s told (Asks x (ends_by ends_done (lose by_plain x loss)))
      quiet_loss loss = (
        silent ends.Idle,
        λ m found. had_then (had_both (loss_follows plainly.number plainly.empty x plainly.follows loss) (had_always (loss_told by_plain x loss)))
            (λ y a g. had_done (quiet m found y ends.Done (g.0.number ∙ sym plainly.follows.number) (acted_is_shown n x.history y.history g.1))),
      )

    -- A start

    refused : (fault : StartFault) → is_accepted (start_refused fault) ≡ false
    refused (faults.Secondary of) = refl
    refused (faults.Busy holder) = refl
    refused faults.PlanDone = refl
    refused (faults.Shut owner) = refl
    refused (faults.Reserved owner) = refl

    not_shown : (b c : Bool) (l : ReportLine) → c ≡ false → (if b && c then l ∷ [] else []) ≡ []
    not_shown true c l is = ap (λ (e : Bool). if e then l ∷ [] else []) is
    not_shown false c l is = refl

    started_history : (path : ℕ) → (start x path).history ≡ started x.history path (next_ordinal x path)
    unfolding S.start
    started_history path = refl

    started_number : (path : ℕ) → (start x path).store.device ≡ x.store.device
    unfolding S.start
    started_number path = refl

    start_is_shown : (path : ℕ) → x.history.running ≡ None →
        HistoryShows n x.history (start x path).history (lines.Start path n (answers.Accepted (next_ordinal x path)) ∷ [])
    start_is_shown path none =
        subst (λ (h : History). HistoryShows n x.history h (lines.Start path n (answers.Accepted (next_ordinal x path)) ∷ [])) (sym (started_history path))
        (shows_by n x.history (started x.history path (next_ordinal x path)) (lines.Start path n (answers.Accepted (next_ordinal x path)) ∷ []) []
        (start_shows n x.history path (next_ordinal x path) none) (ap (λ (l : List Item). program_over_lines (over_of n l)) (none_behind x.history.items)))

    start_by_shows : (path : ℕ) (o : Option StartFault) → start_fault x path ≡ o →
        ShowsDeed n s (λ end. did.First (lines.Start path k (start_answer end))) (start_by {R = Bool} x path o)
    start_by_shows path (Some fault) is =
        λ own. not_shown (k == n) (is_accepted (start_refused fault)) (lines.Start path k (start_refused fault)) (refused fault)
    start_by_shows path None is =
        let told = λ (end : EventEnd). did.First (lines.Start path k (start_answer end)) in
        let number = started_number path in (
          λ none. absurd (mounted_too s.mounted k x at (ap (mounted_in s.mounted) (sym (number ∙ number_is)) ∙ none)),
          λ m found. record {
            number = refl;
            own = λ same. subst (λ (d : MarksDevice). Shows n (told (ends.Started (next_ordinal x path))) d (start x path))
                (sym (it_is m (ap (mounted_in s.mounted) (sym number) ∙ found)))
                (λ own. subst (HistoryShows n x.history (start x path).history)
                (sym (ap (λ (i : ℕ). shown_from n own (first_lines (did.First (lines.Start path i (answers.Accepted (next_ordinal x path))))))
                (sym (number ∙ number_is) ∙ same)
                ∙ started_shown n path (next_ordinal x path) own (answers.Accepted (next_ordinal x path)) refl))
                (start_is_shown path (starts_where_idle x path is)));
            other = λ far own. accepted_not n (k == n) true (lines.Start path k (answers.Accepted (next_ordinal x path)))
                (ap (λ (i : ℕ). i == n) (sym (number ∙ number_is)) ∙ far);
          },
        )

    pub start_shown : (path : ℕ) → ShowsDeed n s (λ end. did.First (lines.Start path k (start_answer end))) (starts {R = Bool} path x)
    start_shown path = by_own (is_path_of x.history.running path) where
      by_own : (b : Bool) → ShowsDeed n s (λ end. did.First (lines.Start path k (start_answer end))) (if b then Ends ends.Running
          else start_by {R = Bool} x path (start_fault x path))
      by_own true = λ own. not_shown (k == n) false (lines.Start path k answers.Running) refl
      by_own false = start_by_shows path (start_fault x path) refl

    -- Work

    module _ (idle : Happened) (silent : Silent n idle) (idle_other : IsOther n idle) where
      abbrev told : EventEnd → Happened
      told end = work_told k (option_map running_program x.history.running) idle end

      own_end : (h y : History) (r : Option OpenEntry) → h.running ≡ r → k ≡ n → (e : CommandEnd) → HasEnded h e y → (own : Bool) →
          HistoryShows n h y (says n (end_told k (option_map running_program r) e) own)
      own_end h y (Some o) is same e t own =
          subst (HistoryShows n h y)
          (sym (ap (λ (i : ℕ). shown_from n own (first_lines (did.Ended o.path i o.ordinal e))) same ∙ ended_shown n o.path o.ordinal e own))
          (ended_is_shown n h o is e y t)
      own_end h y None is same e t own = idle_ended n h is e y t

      own_half : (h y : History) (r : Option OpenEntry) (t : ℕ) → HasActed h y → (own : Bool) →
          HistoryShows n h y (says n (half_told k (option_map running_program r) t) own)
      own_half h y (Some o) t a own = acted_is_shown n h y a
      own_half h y None t a own = acted_is_shown n h y a

      own_step : (y : History) → k ≡ n → (a : Option Stepped) → StepTold x.history y a → (own : Bool) →
          HistoryShows n x.history y (says n (told (told_end (end_of ends.Stepped a))) own)
      own_step y same (Some (steps.Ended e)) t own = own_end x.history y x.history.running refl same e t own
      own_step y same (Some (steps.Half q)) t own = own_half x.history y x.history.running q t own
      own_step y same None t own = subst (HistoryShows n x.history y) (sym (silent own)) (acted_is_shown n x.history y t)

      own_second : (y : History) → k ≡ n → (a : SecondEnd) → SecondTold x.history y a → (own : Bool) →
          HistoryShows n x.history y (says n (told (ends.Second a)) own)
      own_second y same (seconds.Ended e) t own = own_end x.history y x.history.running refl same e t own
      own_second y same (seconds.Finished q) t own = acted_is_shown n x.history y t
      own_second y same (seconds.Unwritten q) t own = acted_is_shown n x.history y t

      own_back : (y : History) (a : Option Did) → HasActed x.history y → (own : Bool) →
          HistoryShows n x.history y (says n (told (told_end (end_of ends.Back a))) own)
      own_back y (Some a) t own = acted_is_shown n x.history y t
      own_back y None t own = subst (HistoryShows n x.history y) (sym (silent own)) (acted_is_shown n x.history y t)

      other_end : (r : Option RunningProgram) (e : CommandEnd) → (k == n) ≡ false → IsOther n (end_told k r e)
      other_end (Some r) e far = far
      other_end None e far = λ own. refl

      other_half : (r : Option RunningProgram) (t : ℕ) → IsOther n (half_told k r t)
      other_half (Some r) t = λ own. refl
      other_half None t = λ own. refl

      other_step : (r : Option RunningProgram) (a : Option Stepped) → (k == n) ≡ false → IsOther n (work_told k r idle (told_end (end_of ends.Stepped a)))
      other_step r (Some (steps.Ended e)) far = other_end r e far
      other_step r (Some (steps.Half q)) far = other_half r q
      other_step r None far = idle_other

      other_second : (r : Option RunningProgram) (a : SecondEnd) → (k == n) ≡ false → IsOther n (work_told k r idle (ends.Second a))
      other_second r (seconds.Ended e) far = other_end r e far
      other_second r (seconds.Finished q) far = λ own. refl
      other_second r (seconds.Unwritten q) far = λ own. refl

      other_back : (r : Option RunningProgram) (a : Option Did) → IsOther n (work_told k r idle (told_end (end_of ends.Back a)))
      other_back r (Some a) = λ own. refl
      other_back r None = idle_other

      seconds_shown : (h : HalfWrite (Unit {0})) → x.store.half ≡ Some h → ShowsDeed n s told (seconded by_plain x)
      seconds_shown h is = (
        silent,
        λ m found. had_then (had_both (second_follows plainly.number plainly.empty x plainly.follows h is) (had_always (second_event_told by_plain x)))
            (λ y a g. had_done (answered told m found y (ends.Second a) (g.0.number ∙ sym plainly.follows.number) (λ same. own_second y.history same a g.1)
            (λ far. other_second (option_map running_program x.history.running) a far))),
      )

      run_shown : (r : Option OpenEntry) → x.history.running ≡ r → x.store.half ≡ None →
          ShowsDeed n s told (if is_some r then Asks x (may_end_by ends.Stepped (command by_plain x)) else Ends ends.Idle)
      run_shown None none whole = silent
      run_shown (Some o) running whole = (
        silent,
        λ m found. had_then (had_both (command_follows plainly.number plainly.empty x plainly.follows o running whole) (had_always (command_told by_plain x)))
            (λ y a g. had_done (answered told m found y (told_end (end_of ends.Stepped a)) (g.0.number ∙ sym plainly.follows.number)
            (λ same. own_step y.history same a g.1) (λ far. other_step (option_map running_program x.history.running) a far))),
      )

      step_by : (h : Option (HalfWrite (Unit {0}))) → x.store.half ≡ h → ShowsDeed n s told (if is_some h then seconded by_plain x
          else if is_some x.history.running then Asks x (may_end_by ends.Stepped (command by_plain x)) else Ends ends.Idle)
      step_by (Some h) is = seconds_shown h is
      step_by None is = run_shown x.history.running refl is

      pub step_shown : ShowsDeed n s told (step by_plain x)
      step_shown = step_by x.store.half refl

      back_by : (h : Option (HalfWrite (Unit {0}))) → x.store.half ≡ h → ShowsDeed n s told (if is_some h then seconded by_plain x
          else Asks x (may_end_by ends.Back (background by_plain x)))
      back_by (Some h) is = seconds_shown h is
      back_by None is = (
        silent,
        λ m found. had_then (had_both (background_follows plainly.number plainly.empty x plainly.follows is) (had_always (background_told by_plain x)))
            (λ y a g. had_done (answered told m found y (told_end (end_of ends.Back a)) (g.0.number ∙ sym plainly.follows.number)
            (λ same. own_back y.history a g.1) (λ far. other_back (option_map running_program x.history.running) a))),
      )

      pub back_shown : ShowsDeed n s told (back by_plain x)
      back_shown = back_by x.store.half refl

  -- Losses of all devices

  module _ (told : EventEnd → Happened) (silent : (end : EventEnd) → Silent n (told end)) where
    pub all_lose : (pool : Pool) (loss : Loss) → ShowsDeed n s told (Each pool (λ x. lose by_plain x loss))
    all_lose pool loss = (
      silent ends.Done,
      λ m first p other.
          let g = held true (had_both (loss_follows p.number p.empty m.device p.follows loss) (had_always (loss_told by_plain m.device loss))) (told_to other m)
          in (g.0.number ∙ sym p.follows.number, λ same. acted_is_shown n m.device.history _ g.1),
    )

    pub all_power : (pool : Pool) → ShowsDeed n s told (Each pool (power by_plain))
    all_power pool = (
      silent ends.Done,
      λ m first p other.
          let g = held true (had_both (power_follows p.number p.empty m.device p.follows) (had_always (power_tells by_plain m.device))) (told_to other m)
          in (
            g.0.number ∙ sym p.follows.number,
            λ same. subst (λ (h : History). HistoryShows n m.device.history h []) (sym g.1.history)
                (power_is_shown n m.device.history (counts_one_by m.device.store.half)),
          ),
    )
