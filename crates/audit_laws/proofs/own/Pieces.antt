-- The lines of a piece of work on a device of a run lead the audit from that device before it to that device behind it.
use Rattle.std.proofs.Common.{suc, ◌≡◌, ◌<◌, ◌==◌, ℕ, Bool, true, false, List, ◌∷◌, length, Option, Some, None, refl, sym, ap, subst, ◌∙◌, arith}
use Rattle.std.specs.Prelude.{◌&&◌, option_map, IsSome}
use Rattle.std.proofs.lemmas.Bool.{and_from}
use Rattle.ckd_types.specs.declared.channel.CommandEnd.{CommandEnd}
use Rattle.ckd_types.specs.Sense.{equipment_sense}
use Rattle.ckd_chain.specs.State.{ChainState}
use Rattle.deck_plan.specs.declared.event.EventLine.{EventLine}
use Rattle.deck_plan.specs.declared.event.EventLine.TheVariants as wanted
use Rattle.plain_defs.specs.declared.journal.Act.{Act}
use Rattle.plain_defs.specs.History.{History, IsPlain, OpenEntry}
use Rattle.plain_defs.specs.Journal.{replay}
use Rattle.plain_defs.specs.PlainState.{PlainState}
use Rattle.device_defs.specs.declared.answers.Did.{Did as BackDid}
use Rattle.device_defs.specs.declared.answers.SecondEnd.{SecondEnd}
use Rattle.device_defs.specs.declared.answers.SecondEnd.TheVariants as seconds
use Rattle.device_defs.specs.declared.answers.Stepped.{Stepped}
use Rattle.device_defs.specs.declared.answers.Stepped.TheVariants as stepped
use Rattle.device_defs.specs.Command.{command}
use Rattle.device_defs.specs.Contents.{by_plain}
use Rattle.device_defs.specs.Device.{all_acted}
use Rattle.device_defs.specs.Events.{background, second}
use Rattle.device_defs.specs.Marks.{MarksDevice}
use Rattle.device_defs.specs.Store as store
use Rattle.device_defs.specs.Store.{Origin, OfBackground, OfCommand, OfCut}
use Rattle.device_laws.proofs.Had.{Had, had_done, had_then, had_weaker}
use Rattle.device_laws.proofs.HistoryTold.{HasActed, HasEnded, SecondTold, StepTold, acted_so, background_told, checked_so, command_told, ended_so, second_event_told}
use Rattle.device_laws.proofs.LooseLosses.{background_has, command_has, second_has}
use Rattle.device_laws.proofs.PlainCommand.{command_follows}
use Rattle.device_laws.proofs.PlainEvents.{had_always, had_both}
use Rattle.device_laws.proofs.PlainLosses.{background_follows}
use Rattle.device_laws.proofs.PlainSeconds.{second_follows}
use Rattle.device_laws.proofs.PlainTurns.{Follows, IsMid, IsMidOf, some_none}
use Rattle.device_laws.proofs.PlainStores.{core_of}
use Rattle.device_laws.specs.Unharmed.{all_losses}
use Rattle.report_text.specs.declared.answers.BackAnswer.{BackAnswer}
use Rattle.report_text.specs.declared.answers.BackAnswer.TheVariants as back
use Rattle.report_text.specs.declared.answers.HowOver.TheVariants as how
use Rattle.report_text.specs.declared.event.Happened.{Happened}
use Rattle.report_text.specs.declared.event.Happened.TheVariants as did
use Rattle.report_text.specs.declared.line.ReportLine.{ReportLine}
use Rattle.report_text.specs.declared.line.ReportLine.TheVariants as lines
use Rattle.deck_audit.specs.declared.state.Due.TheVariants.{Next}
use Rattle.deck_audit.specs.declared.state.HalfWrite.{HalfWrite}
use Rattle.deck_audit.specs.declared.state.HalfWrite.TheVariants as half
use Rattle.deck_audit.specs.Place.{is_back_line, is_second_line}
use Rattle.deck_audit.specs.Device.{AuditedDevice, device_in, part_of_open, plain_end, words_of_open}
use Rattle.deck_audit.specs.History.{back_half, is_last}
use Rattle.run_report.specs.declared.told.RunningProgram.{RunningProgram}
use Rattle.run_report.specs.Answers.{back_answer}
use Rattle.run_report.specs.Events.{running_program, work_told}
use Rattle.run_report.specs.OneDevice.{device_lines}
use Rattle.run_report.proofs.ActsCome.{all_acts, checked_acts, ended_acts}
use Rattle.subsystem_defs.specs.declared.end.EventEnd.{EventEnd}
use Rattle.subsystem_defs.specs.declared.end.EventEnd.TheVariants as ends
use Rattle.subsystem_defs.specs.Beside.{acts_in}
use Rattle.subsystem_defs.specs.Deeds.{end_of, ends_by, may_end_by}
use Rattle.subsystem_defs.specs.Lines.{is_settled, stops}
use Rattle.audit_laws.specs.Standing.{audited, half_by, half_of}
use Rattle.audit_laws.specs.Steps.{LeadsTowards, NoLoss, over_if, over_told}
use Rattle.audit_laws.proofs.own.BackParts.{BackLeft, back_left}
use Rattle.audit_laws.proofs.own.CameOut.{acts_so, checks_so, ends_plain, ends_so}
use Rattle.audit_laws.proofs.own.Enough.{end_is_other, part_fixed}
use Rattle.audit_laws.proofs.own.Lossless.{none_lost}
use Rattle.audit_laws.proofs.own.PieceLines.{acted_tells, checked_tells, ended_tells, lines_are}
use Rattle.audit_laws.proofs.own.ResetDevices.{HasParts, audited_by}
use Rattle.audit_laws.proofs.own.Saying.{same_number}
use Rattle.audit_laws.proofs.own.StepsLeft.{Enough, acted_enough, acted_more, ended_enough, ended_more, enough_second, enough_whole, halved_enough}
use Rattle.audit_laws.proofs.own.StepParts.{IsLeft, IsSecond, command_left, second_left}
use Rattle.audit_laws.proofs.own.WorkEnds.{IsWork, MayEnd, MayTell, back_seconds, back_tells, behind_piece, checks_lead, ends_lead, halves_lead, of_back, of_run, of_settle, of_step, run_seconds, seconds_by, settle_seconds, settle_tells, step_seconds, tells_lead}

-- from an event line these lines lead towards where a piece of work is done
abbrev pub Does : EventLine → List AuditedDevice → List EventLine → List ReportLine → AuditedDevice → Bool → Type 0
Does w xs later lines b last = LeadsTowards (record { devices = xs; events = w ∷ later; due = Next }) lines (behind_piece xs w later b last)

-- whichever event line has it, with what is told where there is nothing to do
abbrev pub PieceSo : MarksDevice → MarksDevice → EventEnd → EventLine → Happened → Type 0
PieceSo x y end w idle =
    (xs : List AuditedDevice) (later : List EventLine) → device_in xs x.store.device ≡ Some (audited x) → (reads writes : ℕ) →
    Does w xs later (device_lines (work_told x.store.device (option_map running_program x.history.running) idle end) reads writes x y) (audited y) (is_settled end)

-- a line that goes command by command
abbrev pub IsStepwise : EventLine → Type 0
IsStepwise (wanted.Step d) = Unit {0}
IsStepwise (wanted.Run d) = Unit {0}
IsStepwise w = ⊥

-- the device behind it
pub record ComesTo (x y : MarksDevice) (end : Option EventEnd) (w : EventLine) (idle : Happened) : Type 0 where
  pub its : EventEnd
  pub is : end ≡ Some its
  pub number : y.store.device ≡ x.store.device
  pub so : PieceSo x y its w idle
  pub enough : IsStepwise w → (k : ℕ) → Enough (suc k) x.history.running (half_by x.store.half) → Enough k y.history.running (half_by y.store.half)

module _ (num : ℕ) (empty : PlainState) (x y : MarksDevice) (f : Follows num empty x)
    (base : empty ≡ (audited x).empty) (g : Follows num empty y) where
  abbrev pub a : AuditedDevice
  a = audited x

  pub plainly : IsPlain x.plans (audited x).empty x.history
  plainly = subst (λ (e : PlainState). IsPlain x.plans e x.history) base f.stands.plain

  pub plain_behind : (h : HalfWrite) → HasParts x y h → IsPlain x.plans (audited x).empty y.history
  plain_behind h p = grind arith

  -- it has tracks
  some_by : (o : OpenEntry) (before : Option ChainState) → x.history.running ≡ Some o → f.before ≡ before →
      0 < (replay x.plans (audited x).empty x.history.items).cylinders
  some_by o before running is = grind (arith, part_fixed)

  few : (o : OpenEntry) → x.history.running ≡ Some o → (e : CommandEnd) → plain_end (audited x) o ≡ Some e → e.sense ≡ Some equipment_sense → ⊥
  few o running e plain =
      let s = replay x.plans (audited x).empty x.history.items in
      end_is_other s.cylinders (some_by o f.before running refl) s refl o.path (words_of_open a o) o.acts (length o.ends) (part_of_open a o).next e plain

  -- A command that ended

  module _ (o : OpenEntry) (running : x.history.running ≡ Some o) (kept : all_losses y.history ≡ all_losses x.history)
      (w : EventLine) (h : HalfWrite) (k : MayEnd x.store.device w h) (is : (audited x).half ≡ h) (p : HasParts x y half.Closed)
      (xs : List AuditedDevice) (later : List EventLine) (has : device_in xs x.store.device ≡ Some (audited x)) (reads writes : ℕ) where
    ended_by : (e : CommandEnd) (now : History) → HasEnded x.history e now → y.history ≡ now →
        Does w xs later (device_lines (did.Ended o.path x.store.device o.ordinal e) reads writes x y) (audited y) false
    ended_by e now (ended_so acts) same =
        let none = none_lost x.history y.history acts (ap acts_in same ∙ ended_acts (all_acted x.history acts) e ∙ all_acts acts x.history) kept in
        let so = ends_so a plainly o running e acts none (subst (λ (l : History). IsPlain x.plans a.empty l) same (plain_behind half.Closed p)) in
        subst (λ (l : List ReportLine). Does w xs later l (audited y) false) (sym (lines_are x y acts (over_if e.over (over_told a o how.Full))
        (did.Ended o.path x.store.device o.ordinal e) reads writes (ended_tells x y acts none o running e same))) (rw
        (audited_by x y half.Closed now p same) (ends_lead xs later a has o running w h k is plainly reads writes e acts so (few o running e
        (ends_plain a o e acts so))))
    ended_by e now (checked_so acts) same =
        let none = none_lost x.history y.history acts (ap acts_in same ∙ checked_acts (all_acted x.history acts) e ∙ all_acts acts x.history) kept in
        let so = checks_so a plainly acts o running e (subst (λ (l : History). IsPlain x.plans a.empty l) same (plain_behind half.Closed p)) in
        subst (λ (l : List ReportLine). Does w xs later l (audited y) false) (sym (lines_are x y acts (Some (over_told a o how.Checked))
        (did.Ended o.path x.store.device o.ordinal e) reads writes (checked_tells x y acts none o running e same))) (rw
        (audited_by x y half.Closed now p same) (checks_lead xs later a has o running w h k is plainly reads writes e acts none so
        (few o running so.plain so.is_plain)))

    -- as the event tells it
    ends_told : (idle : Happened) (end : EventEnd) (e : CommandEnd) →
        work_told x.store.device (Some (running_program o)) idle end ≡ did.Ended o.path x.store.device o.ordinal e → HasEnded x.history e y.history →
        Does w xs later (device_lines (work_told x.store.device (option_map running_program x.history.running) idle end) reads writes x y) (audited y) false
    ends_told idle end e shows told =
        rw (ap (λ (r : Option OpenEntry). work_told x.store.device (option_map running_program r) idle end) running ∙ shows) (ended_by e y.history told refl)

  -- Acts alone

  acts_lossless : (kept : all_losses y.history ≡ all_losses x.history) (acts : List Act) → y.history ≡ all_acted x.history acts → NoLoss acts
  acts_lossless kept acts same = none_lost x.history y.history acts (ap acts_in same ∙ all_acts acts x.history) kept

  halved_by : (o : OpenEntry) → x.history.running ≡ Some o → all_losses y.history ≡ all_losses x.history → (w : EventLine) →
      MayEnd x.store.device w half.Closed → (audited x).half ≡ half.Closed → HasParts x y half.OfCommand → (xs : List AuditedDevice) (later : List EventLine) →
      device_in xs x.store.device ≡ Some (audited x) → (reads writes : ℕ) (track : ℕ) (now : History) → HasActed x.history now → y.history ≡ now →
      Does w xs later (device_lines (did.First (lines.Half o.path x.store.device track)) reads writes x y) (audited y) false
  halved_by o running kept w k is p xs later has reads writes track now (acted_so acts) same =
      let none = acts_lossless kept acts same in
      subst (λ (l : List ReportLine). Does w xs later l (audited y) false) (sym (lines_are x y acts None
      (did.First (lines.Half o.path x.store.device track)) reads writes (acted_tells x y acts none same))) (rw (audited_by x y half.OfCommand now p same)
      (halves_lead xs later a has o running w k is plainly track acts none (acts_so a plainly acts (subst (λ (l : History). IsPlain x.plans a.empty l) same
      (plain_behind half.OfCommand p))) reads writes))

  pub told_by : all_losses y.history ≡ all_losses x.history → (w : EventLine) (answer : BackAnswer) (h : HalfWrite)
      (xs : List AuditedDevice) (later : List EventLine) (has : device_in xs x.store.device ≡ Some (audited x)) →
      MayTell xs later (audited x) has w answer h → (audited x).half ≡ h →
      HasParts x y (back_half (audited x) answer) → (reads writes : ℕ) (now : History) → HasActed x.history now → y.history ≡ now →
      Does w xs later (device_lines (did.First (lines.Back x.store.device answer)) reads writes x y) (audited y) (is_last answer)
  told_by kept w answer h xs later has k is p reads writes now (acted_so acts) same =
      let none = acts_lossless kept acts same in
      let last = is_last answer in
      let behind = back_half a answer in
      subst (λ (l : List ReportLine). Does w xs later l (audited y) last) (sym (lines_are x y acts None (did.First (lines.Back x.store.device answer)) reads writes
      (acted_tells x y acts none same))) (rw (audited_by x y behind now p same) (tells_lead xs later a has w answer h k is plainly acts none
      (acts_so a plainly acts (subst (λ (l : History). IsPlain x.plans a.empty l) same (plain_behind behind p))) reads writes))

-- A command

pub record CommandSo (num : ℕ) (empty : PlainState) (x y : MarksDevice) (answer : Option Stepped) : Type 0 where
  pub follows : Follows num empty y
  pub left : IsLeft x y answer
  pub told : StepTold x.history y.history answer
  pub kept : all_losses y.history ≡ all_losses x.history

module _ (num : ℕ) (empty : PlainState) (x : MarksDevice) (f : Follows num empty x) (base : empty ≡ (audited x).empty) where
  -- STEP and RUN, where no half write is open and a program runs
  pub command_so : (o : OpenEntry) → x.history.running ≡ Some o → x.store.half ≡ None →
      Had (command by_plain x) (λ y answer. CommandSo num empty x y answer)
  command_so o running whole =
      had_weaker
      (had_both (had_both (command_follows num empty x f o running whole) (command_left num empty x f o running whole))
      (had_both (had_always (command_told by_plain x)) (had_always (command_has by_plain (all_losses x.history) x refl))))
      (λ y answer g. record { follows = g.0.0; left = g.0.1; told = g.1.0; kept = g.1.1 })

  closed_half : x.store.half ≡ None → (audited x).half ≡ half.Closed
  closed_half whole = ap half_by whole

  command_comes : (o : OpenEntry) → x.history.running ≡ Some o → x.store.half ≡ None → (w : EventLine) (idle : Happened) → MayEnd x.store.device w half.Closed →
      (y : MarksDevice) (answer : Option Stepped) → CommandSo num empty x y answer → ComesTo x y (end_of ends.Stepped answer) w idle
  command_comes o running whole w idle k y (Some (stepped.Ended e)) c = record {
    its = ends.Stepped (stepped.Ended e);
    is = refl;
    number = c.left.number;
    so = λ xs later has reads writes.
        ends_told num empty x y f base c.follows o running c.kept w half.Closed k (closed_half whole) c.left xs later has reads writes idle (ends.Stepped (stepped.Ended e)) e refl
        c.told;
    enough = λ _ n is. (let most = enough_whole (suc n) _ _ o running (closed_half whole) is in
        ended_enough n o y (ended_more x.history e o running c.told) c.left.half_is (omega (arith, most)));
  }
  command_comes o running whole w idle k y (Some (stepped.Half t)) c = record {
    its = ends.Stepped (stepped.Half t);
    is = refl;
    number = c.left.number;
    so = λ xs later has reads writes.
        subst (λ (r : Option OpenEntry). Does w xs later
        (device_lines (work_told x.store.device (option_map running_program r) idle (ends.Stepped (stepped.Half t))) reads writes x y) (audited y) false) (sym running)
        (halved_by num empty x y f base c.follows o running c.kept w k (closed_half whole) c.left xs later has reads writes t y.history c.told refl);
    enough = λ _ n is.
        halved_enough n o y (acted_more x.history o running c.told) c.left.half_is (enough_whole (suc n) _ _ o running (closed_half whole) is);
  }
  command_comes o running whole w idle k y None c = absurd c.left

  pub command_leads : (o : OpenEntry) → x.history.running ≡ Some o → x.store.half ≡ None → (w : EventLine) (idle : Happened) →
      MayEnd x.store.device w half.Closed → Had (may_end_by ends.Stepped (command by_plain x)) (λ y end. ComesTo x y end w idle)
  command_leads o running whole w idle k = had_then (command_so o running whole) (λ y answer c. had_done (command_comes o running whole w idle k y answer c))

-- The second part of a write

pub record SecondSo (num : ℕ) (empty : PlainState) (x y : MarksDevice) (origin : Origin) (answer : SecondEnd) : Type 0 where
  pub follows : Follows num empty y
  pub left : IsSecond x y origin answer
  pub told : SecondTold x.history y.history answer
  pub kept : all_losses y.history ≡ all_losses x.history

pub ends_by_command : {n : ℕ} {w : EventLine} → IsWork n w → MayEnd n w half.OfCommand
ends_by_command of_step = step_seconds
ends_by_command of_run = run_seconds
ends_by_command of_back = back_seconds
ends_by_command of_settle = settle_seconds

module _ (num : ℕ) (empty : PlainState) (x : MarksDevice) (f : Follows num empty x) (base : empty ≡ (audited x).empty) where
  pub second_so : (h : store.HalfWrite (Unit {0})) → x.store.half ≡ Some h → Had (second by_plain x) (λ y answer. SecondSo num empty x y h.origin answer)
  second_so h there =
      had_weaker
      (had_both (had_both (second_follows num empty x f h there) (second_left num empty x f h there))
      (had_both (had_always (second_event_told by_plain x)) (had_always (second_has by_plain (all_losses x.history) x refl))))
      (λ y answer g. record { follows = g.0.0; left = g.0.1; told = g.1.0; kept = g.1.1 })

  -- the command's own end, of a program that runs
  ended_comes : (h : store.HalfWrite (Unit {0})) → x.store.half ≡ Some h → (bypass : Bool) (edit : _) → h.origin ≡ OfCommand bypass edit →
      (w : EventLine) (idle : Happened) → IsWork x.store.device w → (r : Option OpenEntry) → x.history.running ≡ r → IsSome r →
      (y : MarksDevice) (e : CommandEnd) → SecondSo num empty x y (OfCommand bypass edit) (seconds.Ended e) →
      ComesTo x y (Some (ends.Second (seconds.Ended e))) w idle
  ended_comes h there bypass edit origin w idle k (Some o) running some y e c = record {
    its = ends.Second (seconds.Ended e);
    is = refl;
    number = c.left.parts.number;
    so = λ xs later has reads writes.
        ends_told num empty x y f base c.follows o running c.kept w half.OfCommand (ends_by_command k) (ap half_by there ∙ ap half_of origin) c.left.parts xs later
        has reads writes idle (ends.Second (seconds.Ended e)) e refl c.told;
    enough = λ _ n is.
        ended_enough n o y (ended_more x.history e o running c.told) c.left.parts.half_is
        (enough_second (suc n) _ _ o running (ap half_by there ∙ ap half_of origin) is);
  }
  ended_comes h there bypass edit origin w idle k None running some y e c = absurd (some_none None some refl)

  -- of the background
  told_comes : (h : store.HalfWrite (Unit {0})) → x.store.half ≡ Some h → half_of h.origin ≡ half.OfBackground →
      (w : EventLine) (idle : Happened) → IsWork x.store.device w → (y : MarksDevice) (answer : SecondEnd) (shown : BackAnswer) →
      ((r : Option RunningProgram) → work_told x.store.device r idle (ends.Second answer) ≡ did.First (lines.Back x.store.device shown)) →
      is_second_line x.store.device (lines.Back x.store.device shown) ≡ true →
      is_last shown ≡ false → back_half (audited x) shown ≡ half.Closed →
      Follows num empty y → HasParts x y half.Closed → HasActed x.history y.history → all_losses y.history ≡ all_losses x.history →
      ComesTo x y (Some (ends.Second answer)) w idle
  told_comes h there origin w idle k y answer shown told second_is not_last closed g p acted kept = record {
    its = ends.Second answer;
    is = refl;
    number = p.number;
    so = λ xs later has reads writes.
        rw (told (option_map running_program x.history.running))
        (rw (← not_last)
        (told_by num empty x y f base g kept w shown half.OfBackground xs later has (seconds_by k second_is) (ap half_by there ∙ origin)
        (subst (HasParts x y) (sym closed) p) reads writes y.history acted refl));
    enough = λ _ n is.
        acted_enough n x y acted p.half_is x.history.running refl (subst (Enough (suc n) x.history.running) (ap half_by there ∙ origin) is);
  }

  second_line : (t : ℕ) → ((x.store.device == x.store.device) && true) ≡ true
  second_line t = and_from (x.store.device == x.store.device) true (same_number x.store.device) refl

  second_comes : (h : store.HalfWrite (Unit {0})) → x.store.half ≡ Some h → (origin : Origin) → h.origin ≡ origin →
      (w : EventLine) (idle : Happened) → IsWork x.store.device w → (y : MarksDevice) (answer : SecondEnd) →
      SecondSo num empty x y origin answer → ComesTo x y (Some (ends.Second answer)) w idle
  second_comes h there (OfCommand bypass edit) is w idle k y (seconds.Ended e) c =
      let mid = subst (λ (o : Origin). IsMidOf (core_of x.store) h.track o x.history.running f.before x.chain) is
      (subst (λ (m : Option (store.HalfWrite (Unit {0}))). IsMid (core_of x.store) m x.history.running f.before x.chain) there f.mid) in
      ended_comes h there bypass edit is w idle k x.history.running refl mid.runs y e c
  second_comes h there (OfCommand bypass edit) is w idle k y (seconds.Finished t) c = absurd c.left.told
  second_comes h there (OfCommand bypass edit) is w idle k y (seconds.Unwritten t) c = absurd c.left.told
  second_comes h there (OfCut bypass) is w idle k y (seconds.Ended e) c = absurd c.left.told
  second_comes h there (OfCut bypass) is w idle k y (seconds.Finished t) c =
      told_comes h there (ap half_of is) w idle k y (seconds.Finished t) (back.Finished t) (λ r. refl) (second_line t) refl refl c.follows c.left.parts c.told
      c.kept
  second_comes h there (OfCut bypass) is w idle k y (seconds.Unwritten t) c =
      told_comes h there (ap half_of is) w idle k y (seconds.Unwritten t) (back.Unwritten t) (λ r. refl) (second_line t) refl refl c.follows c.left.parts c.told
      c.kept
  second_comes h there OfBackground is w idle k y (seconds.Ended e) c = absurd c.left.told
  second_comes h there OfBackground is w idle k y (seconds.Finished t) c =
      told_comes h there (ap half_of is) w idle k y (seconds.Finished t) (back.Finished t) (λ r. refl) (second_line t) refl refl c.follows c.left.parts c.told
      c.kept
  second_comes h there OfBackground is w idle k y (seconds.Unwritten t) c =
      told_comes h there (ap half_of is) w idle k y (seconds.Unwritten t) (back.Unwritten t) (λ r. refl) (second_line t) refl refl c.follows c.left.parts c.told
      c.kept

  pub second_leads : (h : store.HalfWrite (Unit {0})) → x.store.half ≡ Some h → (w : EventLine) (idle : Happened) → IsWork x.store.device w →
      Had (ends_by ends.Second (second by_plain x)) (λ y end. ComesTo x y end w idle)
  second_leads h there w idle k = search (arith, had_then, second_so, had_done, second_comes)

-- Work in the background

-- the lines that ask for it
pub data IsBack (n : ℕ) : EventLine → Type 0 where
  by_back : IsBack n (wanted.Back n)
  by_settle : IsBack n (wanted.Settle n)

not_stepwise : {n : ℕ} {w : EventLine} → IsBack n w → IsStepwise w → ⊥
not_stepwise by_back is = is
not_stepwise by_settle is = is

may_tell : (xs : List AuditedDevice) (later : List EventLine) (a : AuditedDevice) (has : device_in xs a.number ≡ Some a) (w : EventLine) (answer : BackAnswer) →
    IsBack a.number w → is_back_line a.number (lines.Back a.number answer) ≡ true → MayTell xs later a has w answer half.Closed
may_tell xs later a has w answer by_back so = back_tells so
may_tell xs later a has w answer by_settle so = settle_tells so

back_line : (n : ℕ) (d : BackDid) → is_back_line n (lines.Back n (back_answer d)) ≡ true
back_line n d = grind (arith, and_from, same_number)

last_is : (d : BackDid) → is_last (back_answer d) ≡ stops d
last_is d = grind arith

record BackSo (num : ℕ) (empty : PlainState) (x y : MarksDevice) (answer : Option BackDid) : Type 0 where
  follows : Follows num empty y
  left : BackLeft x y answer
  told : HasActed x.history y.history
  kept : all_losses y.history ≡ all_losses x.history

module _ (num : ℕ) (empty : PlainState) (x : MarksDevice) (f : Follows num empty x) (base : empty ≡ (audited x).empty) (none : x.store.half ≡ None)
    (alone : x.store.paired ≡ false → x.store.b.up ≡ false) where
  back_so : Had (background by_plain x) (λ y answer. BackSo num empty x y answer)
  back_so =
      had_weaker
      (had_both (had_both (background_follows num empty x f none) (back_left num empty x f none alone))
      (had_both (had_always (background_told by_plain x)) (had_always (background_has by_plain (all_losses x.history) x refl))))
      (λ y answer g. record { follows = g.0.0; left = g.0.1; told = g.1.0; kept = g.1.1 })

  back_comes : (w : EventLine) (idle : Happened) → IsBack x.store.device w → (y : MarksDevice) (answer : Option BackDid) → BackSo num empty x y answer →
      ComesTo x y (end_of ends.Back answer) w idle
  back_comes w idle k y (Some d) c = record {
    its = ends.Back d;
    is = refl;
    number = c.left.number;
    so = λ xs later has reads writes.
        rw (← (last_is d))
        (told_by num empty x y f base c.follows c.kept w (back_answer d) half.Closed xs later has
        (may_tell xs later (audited x) has w (back_answer d) k (back_line x.store.device d)) (ap half_by none) c.left reads writes y.history c.told refl);
    enough = λ stepwise. absurd (not_stepwise k stepwise);
  }
  back_comes w idle k y None c = absurd c.left

  pub backs_lead : (w : EventLine) (idle : Happened) → IsBack x.store.device w →
      Had (may_end_by ends.Back (background by_plain x)) (λ y end. ComesTo x y end w idle)
  backs_lead w idle k = had_then back_so (λ y answer c. had_done (back_comes w idle k y answer c))
