-- Each line that is judged well keeps every device's past one that a plain device could have.
use Rattle.std.proofs.Common.{arith, ◌≡◌, ◌≤◌, ℕ, [], ◌∷◌, List, map, length, Option, Some, None, Result}
use Rattle.std.proofs.Common.{Ok, Bool, true, false, not, cond, refl, sym, subst, inl, inr}
use Rattle.std.specs.Prelude.{◌⊎◌, ◌&&◌, ◌==◌, ◌+◌, ⊤}
use Rattle.std.specs.List.{list_any}
use Rattle.std.proofs.lemmas.Bool.{and_parts, or_parts}
use Rattle.ckd_types.specs.declared.channel.CommandEnd.{CommandEnd}
use Rattle.ckd_types.specs.declared.sense.Sense.{Sense}
use Rattle.ckd_types.specs.Sense.{equipment_sense, data_check_sense}
use Rattle.deck_plan.specs.declared.event.EventLine.{EventLine}
use Rattle.deck_plan.specs.declared.event.EventLine.TheVariants as events
use Rattle.deck_text.specs.declared.line.DeviceLine.{DeviceLine}
use Rattle.deck_text.specs.declared.line.PlannedProgram.{PlannedProgram}
use Rattle.plain_defs.specs.declared.journal.Act.{Act}
use Rattle.plain_defs.specs.History.{OpenEntry, acted, reset_in_history}
use Rattle.report_text.specs.declared.answers.HowOver.TheVariants as how
use Rattle.report_text.specs.declared.answers.LooseAnswer.TheVariants as loose
use Rattle.report_text.specs.declared.answers.OrderAnswer.TheVariants as order_answers
use Rattle.report_text.specs.declared.answers.StartAnswer.{StartAnswer}
use Rattle.report_text.specs.declared.line.ReportLine.{ReportLine}
use Rattle.report_text.specs.declared.line.ReportLine.TheVariants as lines
use Rattle.deck_audit.specs.declared.state.Did.{Did}
use Rattle.deck_audit.specs.declared.state.Did.TheVariants.{Ended, CheckEnded}
use Rattle.deck_audit.specs.declared.state.Due.{Due}
use Rattle.deck_audit.specs.declared.state.Due.TheVariants.{Next, DataOf, SenseOf, Behind, OverOf, Losses, ResetOf, Powers, Totals, Frames, Nothing}
use Rattle.deck_audit.specs.declared.state.HalfWrite.{HalfWrite}
use Rattle.deck_audit.specs.declared.state.HalfWrite.TheVariants.{Closed}
use Rattle.deck_audit.specs.Place.{first_event, holds, is_io, is_of_work, worker_of}
use Rattle.deck_audit.specs.Same.{says}
use Rattle.deck_audit.specs.Device.{AuditedDevice, check_end, device_in, has_loose, is_next_legal}
use Rattle.deck_audit.specs.Device.{start_answer, with_device, words_of_open}
use Rattle.deck_audit.specs.History.{act_made, act_of_work, after_start, behind_end, behind_made, changed, check_made, cut_by, cut_half}
use Rattle.deck_audit.specs.History.{done_order, due_made, end_made, event_made, given_back, harden_made, has_sense, is_legal}
use Rattle.deck_audit.specs.History.{loosen_made, loss_line, made_in, order_made}
use Rattle.deck_audit.specs.History.{power_loss, power_made, reset_made, runs_lent, sense_made, start_made, totals_made}
use Rattle.deck_audit.specs.History.{without_power, work_made}
use Rattle.deck_audit.specs.State.{AuditState, over_by, passed, settled}
use Rattle.deck_audit.specs.State.{settled_by, settled_in, then_of, worked, worker, worker_number}
use Rattle.report_reading.specs.declared.fault.LineFault.{LineFault}
use Rattle.report_reading.specs.Reading.{line_of}
use Rattle.deck_audit.specs.Verdict.{judged_by}
use Rattle.audit_laws.specs.FirstFault.{LeadsTo}
use Rattle.audit_laws.proofs.Devices.{Becomes, But, Each, but_of_each, but_put, but_told, each_mapped, each_put, each_so, still_of}
use Rattle.audit_laws.proofs.Sound.{Darkening, Sound, cut_dark, cut_more_dark, cut_more_sound, darkened_sound, given_sound}
use Rattle.audit_laws.proofs.Sound.{hardened_sound, lost_sound, reset_sound, runs_on, started_sound}
use Rattle.audit_laws.proofs.Works.{DidSo, Ends, check_is, did_hardened, loosened_sound, worked_sound}

-- What an answer says

pub then_some : {S T : Type 0} (x : Option S) (go : S → Option T) (t : T) → then_of x go ≡ Some t → (y : S) × (x ≡ Some y) × (go y ≡ Some t)
then_some x go t is = grind arith

pub same_some : {T : Type 0} (x y : T) → Some x ≡ Some y → x ≡ y
same_some x y is = cc

pub if_some : {T : Type 0} (b : Bool) (x t : T) → cond b (Some x) None ≡ Some t → (b ≡ true) × (x ≡ t)
if_some b x t is = grind (arith, same_some)

-- no act comes behind the last one

pub no_act : (worker : Option ℕ) (line : ReportLine) → (is_of_work false worker line && not (is_io line)) ≡ true → ⊥
no_act worker line is = grind arith

-- The paths of the events

abbrev pub IsOnPath : EventLine → Type 0
IsOnPath (events.Start path d) = (1 ≤ path) × (path ≤ 4)
IsOnPath event = ⊤

abbrev pub AreOnPaths : List EventLine → Type 0
AreOnPaths [] = ⊤
AreOnPaths (event ∷ events) = IsOnPath event × AreOnPaths events

on_path : (es : List EventLine) (event : EventLine) → AreOnPaths es → first_event es ≡ Some event → IsOnPath event
on_path es event on is = grind (arith, same_some)

module _ (programs : List PlannedProgram) (of : List DeviceLine) where
  -- What is so of the devices where this is due

  abbrev pub AtWork : (AuditedDevice → Type 0) → List EventLine → List AuditedDevice → Type 0
  AtWork G events ds = (d : ℕ) × (then_of (first_event events) worker_of ≡ Some d) × But programs Sound G d of ds

  abbrev pub AreSo : Due → List EventLine → List AuditedDevice → Type 0
  AreSo (DataOf e) events ds = AtWork (DidSo true (Ended e)) events ds
  AreSo (SenseOf e) events ds = AtWork (DidSo true (Ended e)) events ds
  AreSo (Behind more did) events ds = AtWork (DidSo more did) events ds
  AreSo (Powers k) events ds = Each programs Darkening of ds
  AreSo due events ds = Each programs Sound of ds

  pub record IsSoundState (s : AuditState) : Type 0 where
    pub devices : AreSo s.due s.events s.devices
    pub paths : AreOnPaths s.events

  -- what a line makes is sound, if it makes something
  abbrev Sounds : Option AuditState → Type 0
  Sounds (Some t) = IsSoundState t
  Sounds None = ⊤

  if_so : (b : Bool) (x y : Option AuditState) → (b ≡ true → Sounds x) → (b ≡ false → Sounds y) → Sounds (cond b x y)
  if_so b x y then_so else_so = grind (arith, then_so)

  then_so : {S : Type 0} (x : Option S) (go : S → Option AuditState) → ((y : S) → x ≡ Some y → Sounds (go y)) → Sounds (then_of x go)
  then_so x go so = grind arith

  module _ (s : AuditState) (paths : AreOnPaths s.events) where
    passed_sound : (ds : List AuditedDevice) → Each programs Sound of ds → IsSoundState (passed (record s { devices = ds }))
    passed_sound ds each = grind arith

    module _ (each : Each programs Sound of s.devices) where
      put_sound : (d : ℕ) (a b : AuditedDevice) → device_in s.devices d ≡ Some a → Becomes a b → (Sound a → Sound b) →
          Each programs Sound of (with_device s.devices b)
      put_sound d a b found same go = each_put programs Sound d of s.devices each a b found same go

      -- START

      start_sound : (line : ReportLine) (path d : ℕ) (a : AuditedDevice) → 1 ≤ path → path ≤ 4 → device_in s.devices d ≡ Some a
          → Sounds (start_made s line path a)
      start_sound line path d a least most found =
          if_so (says (lines.Start path a.number (start_answer a path)) line) (Some (passed (changed s (after_start a path (start_answer a path))))) None
          (λ shows. passed_sound (with_device s.devices (after_start a path (start_answer a path)))
          (put_sound d a (after_start a path (start_answer a path)) found (stays (start_answer a path)) (λ sound. started_sound a sound path least most)))
          (λ other. tt)
        where
          stays : (answer : StartAnswer) → Becomes a (after_start a path answer)
          stays answer = grind arith

      -- Acts

      acted_sound : (act : Act) (d : ℕ) (a : AuditedDevice) → device_in s.devices d ≡ Some a
          → (Sound a → Sound (record a { history = acted a.history act }))
          → Each programs Sound of (with_device s.devices (record a { history = acted a.history act }))
      acted_sound act d a found go = put_sound d a (record a { history = acted a.history act }) found (search arith) go

      harden_sound : (d : ℕ) (track : ℕ) (a : AuditedDevice) → device_in s.devices d ≡ Some a → Sounds (harden_made s a track Next)
      harden_sound d track a found = grind (arith, if_so, acted_sound, hardened_sound)

      -- Orders

      given_each : (d : ℕ) (ls : List DeviceLine) (ds : List AuditedDevice) → list_any (runs_lent d) ds ≡ false → Each programs Sound ls ds →
          Each programs Sound ls (map (given_back d) ds)
      given_each d [] [] none all = tt
      given_each d (l ∷ ls) (a ∷ ds) none all =
          let nones = or_parts (runs_lent d a) (list_any (runs_lent d) ds) none in
          let is = given_sound a all.1 d nones.0 in
          (still_of programs l a (given_back d a) is.0 all.0, is.1, given_each d ls ds nones.1 all.2)
      given_each d ls ds none all = absurd all

      same_sound : IsSoundState (passed s)
      same_sound = passed_sound s.devices each

      done_sound : (event : EventLine) → Sounds (done_order s event)
      done_sound (events.Pair a d) = search (arith, if_so, same_sound, then_so, passed_sound, put_sound)
      done_sound (events.Unpair a) = if_so (list_any (runs_lent a) s.devices) None (Some (passed (record s { devices = map (given_back a) s.devices })))
          (λ runs. tt) (λ none. passed_sound (map (given_back a) s.devices) (given_each a of s.devices none each))
      done_sound event = same_sound

      order_sound : (line : ReportLine) (event : EventLine) → Sounds (order_made s line event)
      order_sound (lines.Order order order_answers.Done) event = done_sound event
      order_sound (lines.Loose d (loose.Harden track)) event = grind (arith, then_so, harden_sound)
      order_sound (lines.Loose d (loose.Lost count id)) event = grind (arith, then_so, if_so, acted_sound, lost_sound, and_parts)
      order_sound line event = same_sound

      -- RESET

      cut_sound : (d : ℕ) (a : AuditedDevice) (o : OpenEntry) (k : ℕ) → device_in s.devices d ≡ Some a → a.history.running ≡ Some o
          → Sounds (cut_by s a o k)
      cut_sound d a o k found running = if_so (k == length o.ends) (Some (cut 0))
          (cond ((k == length o.ends + 1) && is_next_legal a a.history.running) (Some (cut 1)) None)
          (λ here. record { devices = put_sound d a (after 0) found (search arith) (λ sound. reset_sound a sound o.path); paths = paths })
          (λ other. if_so ((k == length o.ends + 1) && is_next_legal a a.history.running) (Some (cut 1)) None
          (λ more. record {
            devices = put_sound d a (after 1) found (search arith)
                (λ sound. cut_more_sound a sound o running o.path (and_parts (k == length o.ends + 1) (is_next_legal a a.history.running) more).1);
            paths = paths;
          }) (λ neither. tt)) where
            after : ℕ → AuditedDevice
            after more = record a { history = reset_in_history a.history o.path more; half = cut_half a.half }

            cut : ℕ → AuditState
            cut more = record (changed s (after more)) { due = ResetOf }

      reset_line_sound : (line : ReportLine) (path d : ℕ) (a : AuditedDevice) → device_in s.devices d ≡ Some a → Sounds (reset_made s line path a)
      reset_line_sound (lines.Over p e n (how.Cut k)) path d a found =
          then_so a.history.running (λ o. cut_by s a o k) (λ o running. cut_sound d a o k found running)
      reset_line_sound line path d a found = search (arith, passed_sound, put_sound, reset_sound)

      -- The work of a device

      module _ (d : ℕ) (works : then_of (first_event s.events) worker_of ≡ Some d) (a : AuditedDevice)
          (found : device_in s.devices d ≡ Some a) where
        at_work : (G : AuditedDevice → Type 0) (half : HalfWrite) → (Sound a → G (record a { half = half }))
            → AtWork G s.events (with_device s.devices (record a { half = half }))
        at_work G half go = grind (arith, but_put, but_of_each programs Sound d of s.devices each)

        end_due_sound : (e : CommandEnd) (sent : List ℕ) → (Sound a → Ends e (record a { half = Closed }))
            → AreSo (behind_end e sent) s.events (with_device s.devices (record a { half = Closed }))
        end_due_sound e sent go = grind (arith, at_work)

        end_sound : (line : ReportLine) (running : Option OpenEntry) → a.history.running ≡ running → Sounds (end_made s line a running)
        end_sound line x1 running = grind (arith, if_so, at_work, end_due_sound, same_some)

        work_sound : (line : ReportLine) → Sounds (work_made s line a)
        work_sound line = grind (arith, end_sound, at_work, same_sound)

    -- POWER

    module _ (each : Each programs Darkening of s.devices) where
      power_sound : (line : ReportLine) → Sounds (power_made s line)
      power_sound (lines.Over p d n (how.Cut k)) = grind (arith, then_so, if_so, cut_dark, runs_on, cut_more_dark, and_parts, each_put)
      power_sound (lines.Loose d answer) = then_so (device_in s.devices d) (power_loss s (lines.Loose d answer))
          (λ a found. if_so (has_loose a && says (loss_line a) (lines.Loose d answer)) _ _ (λ tells. record { devices = each; paths = paths }) (λ other. tt))
      power_sound line = passed_sound (map without_power s.devices)
          (each_mapped programs Darkening Sound without_power (λ a dark. (search arith, darkened_sound a dark)) of s.devices each)

    -- The first line of an event

    module _ (each : Each programs Sound of s.devices) where
      event_sound : (line : ReportLine) (event : EventLine) → first_event s.events ≡ Some event → Sounds (event_made s line event)
      event_sound line event first = grind (arith, then_so, on_path, start_sound, work_sound, reset_line_sound, power_sound, each_so, order_sound)

      -- Behind a piece of work that is over

      behind_tests : (b : Bool) → IsSoundState (cond b (passed s) (record s { due = Next }))
      behind_tests b = grind (arith, passed_sound)

      totals_sound : (line : ReportLine) (k : ℕ) → IsSoundState s → IsSoundState (totals_made s line k)
      totals_sound line k sound = grind arith

  -- SENSE, and the acts behind a piece of work

  module _ (s : AuditState) (paths : AreOnPaths s.events) (d : ℕ) (works : worker_number s ≡ Some d) where
    found_of : (a : AuditedDevice) → worker s ≡ Some a → device_in s.devices d ≡ Some a
    found_of a is = rw works at is

    module _ (e : CommandEnd) (but : But programs Sound (DidSo true (Ended e)) d of s.devices) where
      check_to : (a : AuditedDevice) (o : OpenEntry) → device_in s.devices d ≡ Some a → a.history.running ≡ Some o → (sense : Sense)
          → (◌≡◌ {A = Option Sense} (Some sense) (Some equipment_sense)) ⊎ (◌≡◌ {A = Option Sense} (Some sense) (Some data_check_sense))
          → IsSoundState (record s { due = Behind true (CheckEnded (check_end (words_of_open a o) e.index sense)) })
      check_to a o found running sense is = grind (arith, but_told, same_some, check_is)

      sense_sound : (line : ReportLine) → Sounds (then_of (worker s) (sense_made s line e))
      sense_sound line = then_so (worker s) (sense_made s line e) (λ a works_so. if_so (has_sense line e.sense) _ _
          (λ shows. record { devices = (d, works, but); paths = paths })
          (λ other. then_so a.history.running (check_made s line a e) (λ o running. if_so (says (lines.Sense equipment_sense) line) _ _
          (λ equipment. check_to a o (found_of a works_so) running equipment_sense (inl refl))
          (λ other. if_so (says (lines.Sense data_check_sense) line) _ _
          (λ checked. check_to a o (found_of a works_so) running data_check_sense (inr refl)) (λ neither. tt)))))

    -- Acts

    module _ (a : AuditedDevice) (found : device_in s.devices d ≡ Some a) where
      act_to : (before after : Did) (more : Bool) (act : Act) → But programs Sound (DidSo true before) d of s.devices
          → (DidSo true before a → DidSo more after (record a { history = acted a.history act }))
          → IsSoundState (act_made s a act (Behind more after))
      act_to before after more act but go = grind (arith, but_put, after)

      loose_sound : (did : Did) → But programs Sound (DidSo true did) d of s.devices → (track : ℕ) → Sounds (loosen_made s a track did)
      loose_sound (Ended e) but track = search (arith, if_so, act_to, loosened_sound)
      loose_sound did but track = tt

      act_by : (did : Did) → But programs Sound (DidSo true did) d of s.devices → (line : ReportLine) → Sounds (act_of_work s line did a)
      act_by did but (lines.Loose x (loose.Harden track)) = search (arith, if_so, act_to, did_hardened)
      act_by did but (lines.Loose x (loose.Loosen track)) = loose_sound did but track
      act_by did but line = tt

    act_sound : (more : Bool) (did : Did) → But programs Sound (DidSo more did) d of s.devices → (line : ReportLine)
        → (is_of_work more (worker_number s) line && not (is_io line)) ≡ true → Sounds (then_of (worker s) (act_of_work s line did))
    act_sound more did but line may = grind (arith, then_so, act_by, found_of, no_act)

    -- The work is taken as done

    module _ (more : Bool) (did : Did) (but : But programs Sound (DidSo more did) d of s.devices) (a : AuditedDevice)
        (found : device_in s.devices d ≡ Some a) (legal : is_legal did a ≡ true) where
      worked_each : Each programs Sound of (with_device s.devices (worked a did))
      worked_each = but.put a (worked a did) found (stays did) (worked_sound a more did (but.here a found) legal) where
        stays : (did : Did) → Becomes a (worked a did)
        stays did = grind arith

      settled_to : (over : Option ReportLine) → IsSoundState (settled_by s a did over)
      settled_to over = grind (arith, worked_each, behind_tests)

    pub settled_sound : (more : Bool) (did : Did) → But programs Sound (DidSo more did) d of s.devices → holds (worker s) (is_legal did) ≡ true
        → IsSoundState (settled s did)
    settled_sound more did but legal = by_worker (worker s) refl legal where
      by_worker : (w : Option AuditedDevice) → worker s ≡ w → holds w (is_legal did) ≡ true → IsSoundState (settled_in s did w)
      by_worker None here legal = absurd (cc)
      by_worker (Some a) here legal = settled_to more did but a (found_of a here) legal (over_by a did a.history.running)

  -- Every line

  due_sound : (s : AuditState) (line : ReportLine) (due : Due) → IsSoundState s → AreSo due s.events s.devices → Sounds (due_made s line due)
  due_sound s line Next sound so = grind (arith, event_sound, totals_sound)
  due_sound s line (DataOf e) sound so = if_so (says (lines.Data e.sent) line) _ _ (λ shows. record { devices = so; paths = sound.paths }) (λ other. tt)
  due_sound s line (SenseOf e) sound so = sense_sound s sound.paths so.0 so.1 e so.2 line
  due_sound s line (Behind more did) sound so = tt
  due_sound s line (OverOf wanted) sound so = grind (arith, then_so, if_so, behind_tests)
  due_sound s line (Losses d) sound so = then_so (first_event s.events) (order_made s line) (λ event first. order_sound s sound.paths so line event)
  due_sound s line ResetOf sound so = same_sound s sound.paths so
  due_sound s line (Powers k) sound so = power_sound s sound.paths so line
  due_sound s line (Totals k) sound so = totals_sound s sound.paths so line k sound
  due_sound s line Frames sound so = totals_sound s sound.paths so line 0 sound
  due_sound s line Nothing sound so = tt

  module _ (s : AuditState) (line : ReportLine) (sound : IsSoundState s) where
    behind_sound : (more : Bool) (did : Did) → AtWork (DidSo more did) s.events s.devices → Sounds (behind_made s line more did)
    behind_sound more did so = if_so (is_of_work more (worker_number s) line && not (is_io line)) _ _
        (λ may. act_sound s sound.paths so.0 so.1 more did so.2 line may)
        (λ other. by_legal (holds (worker s) (is_legal did)) refl) where
          by_legal : (b : Bool) → holds (worker s) (is_legal did) ≡ b
              → Sounds (cond (not b) None (cond (is_io line) (Some (settled s did)) (due_made (settled s did) line (settled s did).due)))
          by_legal true legal =
              let done : IsSoundState (settled s did) = settled_sound s sound.paths so.0 so.1 more did so.2 legal in
              if_so (is_io line) _ _ (λ io. done) (λ other. due_sound (settled s did) line (settled s did).due done done.devices)
          by_legal false legal = tt

    made_by : (due : Due) → AreSo due s.events s.devices → Sounds (made_in s line due)
    made_by (Behind more did) so = behind_sound more did so
    made_by due so = due_sound s line due sound so

  -- Lines one after another

  pub judged_sound : (s t : AuditState) (r : Result ReportLine LineFault) → IsSoundState s → judged_by s r ≡ Ok t → IsSoundState t
  judged_sound s t r sound is = grind (arith, made_by)

  pub leads_sound : (s t : AuditState) (texts : List (List ℕ)) → IsSoundState s → LeadsTo s texts t → IsSoundState t
  leads_sound s t [] sound leads = subst (λ (u : AuditState). IsSoundState u) (sym leads) sound
  leads_sound s t (text ∷ texts) sound leads = grind (arith, leads_sound leads.0 t texts (judged_sound s leads.0 (line_of text) sound leads.1) leads.2, judged_sound)
