-- An event of a run that is a piece of work leads the audit on.
use Rattle.std.proofs.Common.{suc, arith, ◌≡◌, ◌==◌, ℕ, Bool, true, false, not, List, [], ◌∷◌, map, Option, Some, None, refl, sym, ap, subst, ◌∙◌, if◌then◌else◌}
use Rattle.std.specs.Prelude.{◌||◌, ◌&&◌, is_some, option_map}
use Rattle.std.proofs.lemmas.Bool.{eq-eqb}
use Rattle.deck_plan.specs.declared.event.EventLine.{EventLine}
use Rattle.deck_plan.specs.declared.event.EventLine.TheVariants as wanted
use Rattle.plain_defs.specs.History.{OpenEntry}
use Rattle.device_outside.specs.Told.{RunOutcome}
use Rattle.device_defs.specs.Command.{command}
use Rattle.device_defs.specs.Events.{background, second}
use Rattle.device_defs.specs.Contents.{by_plain}
use Rattle.device_defs.specs.Marks.{MarksDevice}
use Rattle.device_defs.specs.Store as store
use Rattle.device_laws.proofs.Changes as C
use Rattle.device_laws.proofs.Had.{Had, held}
use Rattle.report_text.specs.declared.answers.BackAnswer.TheVariants as back
use Rattle.report_text.specs.declared.event.Happened.{Happened}
use Rattle.report_text.specs.declared.event.Happened.TheVariants as did
use Rattle.report_text.specs.declared.line.ReportLine.{ReportLine}
use Rattle.report_text.specs.declared.line.ReportLine.TheVariants as lines
use Rattle.deck_audit.specs.declared.state.HalfWrite.TheVariants as half
use Rattle.deck_audit.specs.declared.state.Outline.{Outline}
use Rattle.deck_audit.specs.Same.{says}
use Rattle.deck_audit.specs.Place.{holds, in_event, may_step, outline_in}
use Rattle.deck_audit.specs.Device.{AuditedDevice, is_closed, is_idle, outline_of, runs}
use Rattle.deck_audit.specs.History.{work_made}
use Rattle.deck_audit.specs.State.{AuditState, passed}
use Rattle.run_report.specs.Events.{event_lines, running_by, running_in, running_program, work_lines, work_told}
use Rattle.run_report.specs.OneDevice.{device_lines, lines_at}
use Rattle.run_report.proofs.OneDevice.{tells_alone}
use Rattle.subsystem_defs.specs.declared.end.EventEnd.{EventEnd}
use Rattle.subsystem_defs.specs.declared.end.EventEnd.TheVariants as ends
use Rattle.subsystem_defs.specs.declared.event.Event.TheVariants as events
use Rattle.subsystem_defs.specs.Deeds as E
use Rattle.subsystem_defs.specs.Deeds.{Asks, Ends, back as back_deed, device_in, may_end_by, on_device, seconds, step}
use Rattle.subsystem_defs.specs.Happening as H
use Rattle.subsystem_defs.specs.Happening.{EventHappened as Happening, Talk, asks, happens, happens_by, held_with, mounted_behind, quietly, told_end, told_to}
use Rattle.subsystem_defs.specs.Lines.{Asked, Once, Run, Settle, is_busy, is_settled}
use Rattle.subsystem_defs.specs.Subsystem.{Mounted, Subsystem, devices_of, mounted_in, number_of, put_in, with_mounted}
use Rattle.subsystem_laws.proofs.GoodMarks.{Good, by_lent}
use Rattle.subsystem_laws.proofs.PlainRuns.{Plainly}
use Rattle.audit_laws.specs.Standing.{LeadsBy, audited, half_by, stand}
use Rattle.audit_laws.specs.Steps.{LeadsTowards, is_there}
use Rattle.audit_laws.proofs.own.Found.{found_one, mounted_too, outline_one, put_at}
use Rattle.audit_laws.proofs.own.Leading.{quiet_lines}
use Rattle.audit_laws.proofs.own.Pieces.{IsStepwise, ComesTo, IsBack, backs_lead, command_leads, second_leads}
use Rattle.audit_laws.proofs.own.Saying.{same_number}
use Rattle.audit_laws.proofs.own.StepsLeft.{Enough}
use Rattle.audit_laws.proofs.own.WorkEnds.{IsWork, MayEnd, first_judged, left_by, of_back, of_run, of_settle, of_step, run_ends, step_ends}

-- The pieces of work: whose line asks, what it asks for, and what is told where there is nothing to do

pub data Piece (n : ℕ) : EventLine → Asked → Happened → Type 0 where
  step_piece : Piece n (wanted.Step n) (Once (events.Step n)) (did.First (lines.StepIdle n))
  run_piece : Piece n (wanted.Run n) (Run n) (did.First (lines.RunIdle n))
  back_piece : Piece n (wanted.Back n) (Once (events.Back n)) (did.First (lines.Back n back.Nothing))
  settle_piece : Piece n (wanted.Settle n) (Settle n) (did.First (lines.Back n back.Nothing))

pub piece_works : {n : ℕ} {w : EventLine} {asked : Asked} {idle : Happened} → Piece n w asked idle → IsWork n w
piece_works step_piece = of_step
piece_works run_piece = of_run
piece_works back_piece = of_back
piece_works settle_piece = of_settle

piece_lines : {n : ℕ} {w : EventLine} {asked : Asked} {idle : Happened} → Piece n w asked idle → (end : EventEnd) (reads writes : ℕ)
    (before behind : List MarksDevice) →
    event_lines asked end reads writes before behind ≡ work_lines (work_told n (running_in before n) idle end) reads writes before behind
piece_lines step_piece end reads writes before behind = refl
piece_lines run_piece end reads writes before behind = refl
piece_lines back_piece end reads writes before behind = refl
piece_lines settle_piece end reads writes before behind = refl

-- from where the audit stands before it to where it stands behind it, as its device then is
pub record PieceGoes (s : Subsystem) (n : ℕ) (w : EventLine) (asked : Asked) (h : Happening) : Type 0 where
  pub its : AuditedDevice
  pub there : (m : Mounted) × (mounted_in h.behind.mounted n ≡ Some m)
  pub busy : is_busy (mounted_in h.behind.mounted n) ≡ not (is_idle its)
  pub goes : (later : List EventLine) →
      LeadsTowards (stand s (w ∷ later)) (event_lines asked h.end h.reads h.writes (devices_of s) (devices_of h.behind))
      (stand h.behind (left_by w its (is_settled h.end) later))
  pub enough : (x : MarksDevice) → device_in (devices_of s) n ≡ Some x → IsStepwise w → (k : ℕ) →
      Enough (suc k) x.history.running (half_by x.store.half) → Enough k there.0.device.history.running (half_by there.0.device.store.half)

-- A device that is busy

busy_by : (h : Option (store.HalfWrite (Unit {0}))) (r : Option OpenEntry) → (is_some h || is_some r) ≡ not (not (runs r) && is_closed (half_by h))
busy_by h r = grind arith

put_if : (b : Bool) (k z : Mounted) (ms : List Mounted) (n : ℕ) (m : Mounted) → (number_of k == n) ≡ b → number_of z ≡ n →
    (if b then Some k else mounted_in ms n) ≡ Some m → (mounted_in ms n ≡ Some m → mounted_in (put_in ms n z) n ≡ Some z) →
    mounted_in (if b then z ∷ ms else k ∷ put_in ms n z) n ≡ Some z
put_if b k z ms n m test number at more = grind (arith, eq-eqb)

pub put_found : (ms : List Mounted) (n : ℕ) (m z : Mounted) → mounted_in ms n ≡ Some m → number_of z ≡ n → mounted_in (put_in ms n z) n ≡ Some z
put_found [] n m z at number = absurd (cc)
put_found (k ∷ ms) n m z at number = put_if (number_of k == n) k z ms n m refl number at (λ there. put_found ms n m z there number)

module _ (s : Subsystem) (x : MarksDevice) (at : device_in (devices_of s) x.store.device ≡ Some x) where
  abbrev n : ℕ
  n = x.store.device

  -- The event of one device

  module _ (w : EventLine) (asked : Asked) (idle : Happened) (p : Piece x.store.device w asked idle) where
    abbrev lines_to : EventEnd → ℕ → ℕ → Mounted → List ReportLine
    lines_to end reads writes z = event_lines asked end reads writes (devices_of s) (devices_of (with_mounted s x.store.device z))

    abbrev its_lines : EventEnd → ℕ → ℕ → MarksDevice → List ReportLine
    its_lines end reads writes y = device_lines (work_told x.store.device (option_map running_program x.history.running) idle end) reads writes x y

    module _ (talk : Talk (Option EventEnd)) (h : Had talk (λ y end. ComesTo x y end w idle)) where
      with_mounted_goes : (m : Mounted) → mounted_in s.mounted x.store.device ≡ Some m → m.device ≡ x →
          PieceGoes s x.store.device w asked (asks s x.store.device (Some m) talk)
      with_mounted_goes m there is =
          let o = held_with s.pool m talk in
          let z = mounted_behind o in
          let y = o.state in
          let c = held true h (told_to s.pool m) in
          record {
            its = audited y;
            there = (z, put_found s.mounted n m z there c.number);
            busy = ap is_busy (put_found s.mounted n m z there c.number) ∙ busy_by y.store.half y.history.running;
            goes = λ later. leads later o z c;
            enough = λ v found stepwise k. (let both : Some x ≡ Some v = sym at ∙ found in let it : x ≡ v = cc in
                rw (← it)
                (c.enough stepwise k));
          } where
            lines_same : (end : EventEnd) (reads writes : ℕ) (z : Mounted) →
                event_lines asked end reads writes (devices_of s) (devices_of (with_mounted s x.store.device z))
                ≡ device_lines (work_told x.store.device (option_map running_program x.history.running) idle end) reads writes x z.device
            lines_same end reads writes z =
                piece_lines p end reads writes (devices_of s) (devices_of (with_mounted s n z))
                ∙ ap (λ (d : Option MarksDevice). work_lines (work_told n (running_by d) idle end) reads writes (devices_of s) (devices_of (with_mounted s n z))) at
                ∙ (tells_alone s n z).tells (work_told n (option_map running_program x.history.running) idle end) reads writes
                ∙ ap (λ (k : Option Mounted). lines_at (work_told n (option_map running_program x.history.running) idle end) reads writes k z.device) there
                ∙ ap (λ (d : MarksDevice). device_lines (work_told n (option_map running_program x.history.running) idle end) reads writes d z.device) is

            leads : (later : List EventLine) (o : RunOutcome MarksDevice (Option EventEnd)) (z : Mounted) →
                ComesTo x z.device o.answer w idle →
                LeadsTowards (stand s (w ∷ later)) (event_lines asked (told_end o.answer) o.told.reads o.told.writes (devices_of s)
                (devices_of (with_mounted s x.store.device z)))
                (stand (with_mounted s x.store.device z) (left_by w (audited z.device) (is_settled (told_end o.answer)) later))
            leads later o z c =
                rw c.is
                (rw (lines_same c.its o.told.reads o.told.writes z)
                (rw (← (put_at s.mounted n z c.number))
                (c.so (map audited (devices_of s)) later (found_one (devices_of s) n x at) o.told.reads o.told.writes)))

      pub asks_goes : PieceGoes s x.store.device w asked (asks s x.store.device (mounted_in s.mounted x.store.device) talk)
      asks_goes = grind (arith, mounted_too, with_mounted_goes)

  -- Nothing to do

  idle_fits : (line : ReportLine) → says line line ≡ true → x.store.half ≡ None → x.history.running ≡ None →
      may_step (outline_of (audited x)) line line (audited x).half ≡ true
  idle_fits line same whole none = grind arith

  -- a line that says so leads on
  idle_leads : (w : EventLine) (line : ReportLine) → IsWork x.store.device w → says line line ≡ true →
      in_event (map outline_of (map audited (devices_of s))) line w
      ≡ holds (outline_in (map outline_of (map audited (devices_of s))) x.store.device) (λ b. may_step b line line b.half) →
      ((z : AuditState) → work_made z line (audited x) ≡ Some (passed z)) → x.store.half ≡ None → x.history.running ≡ None →
      (later : List EventLine) → LeadsBy (stand s (w ∷ later)) (work_lines (did.First line) 0 0 (devices_of s) (devices_of s)) (stand s later)
  idle_leads w line k same stands made whole none later =
      let one = outline_one (devices_of s) n x at in
      let fits = stands ∙ ap (λ (o : Option Outline). holds o (λ b. may_step b line line b.half)) one ∙ idle_fits line same whole none in
      subst (λ (l : List ReportLine). LeadsBy (stand s (w ∷ later)) l (stand s later)) (sym (quiet_lines (did.First line) (devices_of s)))
      (grind (arith, first_judged (map audited (devices_of s)) later (audited x) (found_one (devices_of s) n x at) w k line fits, found_one (devices_of s) n x at))

  idle_busy : x.store.half ≡ None → x.history.running ≡ None → is_busy (mounted_in s.mounted x.store.device) ≡ false
  idle_busy whole none = grind (arith, mounted_too)

  idle_is : x.store.half ≡ None → x.history.running ≡ None → is_idle (audited x) ≡ true
  idle_is whole none = grind arith

  step_idle_goes : x.store.half ≡ None → x.history.running ≡ None →
      PieceGoes s x.store.device (wanted.Step x.store.device) (Once (events.Step x.store.device)) (quietly s s ends.Idle)
  step_idle_goes whole none = record {
    its = audited x;
    there = let m = mounted_too s.mounted n x at in (m.0, m.1);
    busy = idle_busy whole none ∙ sym (ap not (idle_is whole none));
    goes = λ later. (
      stand s later,
      idle_leads (wanted.Step n) (lines.StepIdle n) of_step (same_number n) refl (λ z. refl) whole none later,
      is_there refl,
    );
    enough = λ v found stepwise k is. (let m = mounted_too s.mounted n x at in
        let same : m.0.device ≡ x = m.2 in rw (same, none, whole) tt);
  }

  -- RUN is over then at once
  pub run_idle_leads : x.store.half ≡ None → x.history.running ≡ None → (later : List EventLine) →
      LeadsBy (stand s (wanted.Run x.store.device ∷ later))
      (event_lines (Run x.store.device) ends.Idle 0 0 (devices_of s) (devices_of s)) (stand s later)
  run_idle_leads whole none later = idle_leads (wanted.Run n) (lines.RunIdle n) of_run (same_number n) refl (λ z. refl) whole none later

  -- STEP

  module _ (q : Plainly x) where
    seconds_go : (w : EventLine) (asked : Asked) (idle : Happened) → Piece x.store.device w asked idle → (h : store.HalfWrite (Unit {0})) →
        x.store.half ≡ Some h → PieceGoes s x.store.device w asked (happens_by s (seconds by_plain x))
    seconds_go w asked idle p h there =
        asks_goes w asked idle p (E.ends_by ends.Second (second by_plain x))
        (second_leads q.number q.empty x q.follows q.base h there w idle (piece_works p))

    command_goes : (w : EventLine) (asked : Asked) (idle : Happened) → Piece x.store.device w asked idle → MayEnd x.store.device w half.Closed →
        (o : OpenEntry) → x.history.running ≡ Some o → x.store.half ≡ None →
        PieceGoes s x.store.device w asked (happens_by s (Asks x (may_end_by ends.Stepped (command by_plain x))))
    command_goes w asked idle p k o running whole =
        asks_goes w asked idle p (may_end_by ends.Stepped (command by_plain x))
        (command_leads q.number q.empty x q.follows q.base o running whole w idle k)

    -- where the device is busy
    step_by : (w : EventLine) (asked : Asked) (idle : Happened) → Piece x.store.device w asked idle → MayEnd x.store.device w half.Closed →
        (x.store.half ≡ None → x.history.running ≡ None → PieceGoes s x.store.device w asked (quietly s s ends.Idle)) →
        (h : Option (store.HalfWrite (Unit {0}))) → x.store.half ≡ h → (r : Option OpenEntry) → x.history.running ≡ r →
        PieceGoes s x.store.device w asked (happens_by s (if is_some h then seconds by_plain x
        else if is_some r then Asks x (may_end_by ends.Stepped (command by_plain x)) else Ends ends.Idle))
    step_by w asked idle p k none (Some h) there r running = seconds_go w asked idle p h there
    step_by w asked idle p k none None whole (Some o) running = command_goes w asked idle p k o running whole
    step_by w asked idle p k none None whole None stands = none whole stands

    pub step_goes : (w : EventLine) (asked : Asked) (idle : Happened) → Piece x.store.device w asked idle → MayEnd x.store.device w half.Closed →
        (x.store.half ≡ None → x.history.running ≡ None → PieceGoes s x.store.device w asked (quietly s s ends.Idle)) →
        PieceGoes s x.store.device w asked (happens s (events.Step x.store.device))
    unfolding H.happens E.deed
    step_goes w asked idle p k none =
        rw at
        (step_by w asked idle p k none x.store.half refl x.history.running refl)

    pub step_line_goes : PieceGoes s x.store.device (wanted.Step x.store.device) (Once (events.Step x.store.device)) (happens s (events.Step x.store.device))
    step_line_goes = step_goes (wanted.Step n) (Once (events.Step n)) (did.First (lines.StepIdle n)) step_piece step_ends step_idle_goes

    -- of RUN, while the device is busy
    pub run_step_goes : is_busy (mounted_in s.mounted x.store.device) ≡ true →
        PieceGoes s x.store.device (wanted.Run x.store.device) (Run x.store.device) (happens s (events.Step x.store.device))
    run_step_goes busy =
        step_goes (wanted.Run n) (Run n) (did.First (lines.RunIdle n)) run_piece run_ends
        (λ whole none. absurd (let both : true ≡ false = sym busy ∙ idle_busy whole none in cc))

    -- BACK, and each piece of SETTLE

    module _ (g : Good x) where
      single : is_some x.store.lent ≡ false → x.store.paired ≡ false → x.store.b.up ≡ false
      unfolding C.rest_of
      single free = (g.well free).here.alone

      alone : x.store.paired ≡ false → x.store.b.up ≡ false
      alone = by_lent x single (λ lent single_is. (g.gone lent).store.other)

      back_by : (w : EventLine) (asked : Asked) (idle : Happened) → Piece x.store.device w asked idle → IsBack x.store.device w →
          (h : Option (store.HalfWrite (Unit {0}))) → x.store.half ≡ h →
          PieceGoes s x.store.device w asked (happens_by s (if is_some h then seconds by_plain x else Asks x (may_end_by ends.Back (background by_plain x))))
      back_by w asked idle p k (Some h) there = seconds_go w asked idle p h there
      back_by w asked idle p k None none =
          asks_goes w asked idle p (may_end_by ends.Back (background by_plain x)) (backs_lead q.number q.empty x q.follows q.base none alone w idle k)

      pub back_goes : (w : EventLine) (asked : Asked) (idle : Happened) → Piece x.store.device w asked idle → IsBack x.store.device w →
          PieceGoes s x.store.device w asked (happens s (events.Back x.store.device))
      unfolding H.happens E.deed
      back_goes w asked idle p k =
          rw at
          (back_by w asked idle p k x.store.half refl)
