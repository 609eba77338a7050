-- Lines that tell of plain devices tell what the audit makes of them: so where it finds a fault of history they tell of none.
use Rattle.std.proofs.Common.{arith, ◌≡◌, ℕ, [], ◌∷◌, List, Option, Some, None, Result, Ok, Err, Bool, true, false, not, cond}
use Rattle.std.proofs.Common.{refl, sym, ap, subst, ◌∙◌, inl, inr}
use Rattle.std.specs.Prelude.{◌&&◌}
use Rattle.ckd_types.specs.declared.channel.CommandEnd.{CommandEnd}
use Rattle.deck_plan.specs.declared.event.EventLine.{EventLine}
use Rattle.deck_plan.specs.declared.event.EventLine.TheVariants as events
use Rattle.deck_text.specs.declared.line.DeviceLine.{DeviceLine}
use Rattle.deck_text.specs.declared.line.PlannedProgram.{PlannedProgram}
use Rattle.report_text.specs.declared.answers.HowOver.TheVariants as how
use Rattle.report_text.specs.declared.answers.LooseAnswer.TheVariants as loose
use Rattle.report_text.specs.declared.line.ReportLine.{ReportLine}
use Rattle.report_text.specs.declared.line.ReportLine.TheVariants as lines
use Rattle.report_reading.specs.declared.fault.LineFault.{LineFault}
use Rattle.report_reading.specs.Reading.{line_of}
use Rattle.deck_audit.specs.declared.state.Did.{Did}
use Rattle.deck_audit.specs.declared.state.Did.TheVariants.{Ended}
use Rattle.deck_audit.specs.declared.state.Due.{Due}
use Rattle.deck_audit.specs.declared.state.Due.TheVariants.{Next, SenseOf, Behind, Losses, Powers}
use Rattle.deck_audit.specs.Place.{first_event, holds, is_io, is_of_work, worker_of}
use Rattle.deck_audit.specs.Device.{AuditedDevice, device_in, with_device}
use Rattle.deck_audit.specs.History.{act_of_work, due_made, event_made, is_legal, loss_made, made, made_in, next_made, order_made, power_cut}
use Rattle.deck_audit.specs.History.{power_made, reset_made, sense_made, start_made, work_made}
use Rattle.deck_audit.specs.State.{AuditState, over_by, passed, settled, settled_by, settled_in, then_of, worked}
use Rattle.deck_audit.specs.State.{worker, worker_number}
use Rattle.deck_audit.specs.declared.status.AuditWhy.TheVariants.{History}
use Rattle.deck_audit.specs.Verdict.{judged, judged_by}
use Rattle.audit_laws.specs.FirstFault.{LeadsTo}
use Rattle.audit_laws.specs.Shown.{BehindShows, CanAllBePlain, CanBePlain, DueShows, EventShows, NextShows, OrderShows, PlainPast, PowerShows, Shows, ShowsIn}
use Rattle.audit_laws.specs.Shown.{TellsOfPlain, TextShows, WorkShows}
use Rattle.audit_laws.proofs.Devices.{But, Each, each_found, put_found}
use Rattle.audit_laws.proofs.Lines.{AreSo, AtWork, IsSoundState, judged_sound, no_act, settled_sound}
use Rattle.audit_laws.proofs.ShownLines.{Beside, Follows, end_shown, follows, start_shown}
use Rattle.audit_laws.proofs.ShownPasts.{legal_so}
use Rattle.audit_laws.proofs.ShownWork.{act_shown, order_firm, order_lost, power_shown, reset_line_shown, sense_shown}
use Rattle.audit_laws.proofs.Sound.{Sound}
use Rattle.audit_laws.proofs.Works.{DidSo, Ends}

found_then : {S T : Type 0} (x : Option S) (go : S → Option T) (y : S) → x ≡ Some y → then_of x go ≡ go y
found_then x go y is = ap (λ (z : Option _). then_of z go) is

-- The device that a line is of, where a plain device is asked of

abbrev pub line_device : ReportLine → ℕ
line_device (lines.Over p d n ended) = d
line_device (lines.Loose d answer) = d
line_device line = 0

abbrev pub event_device : ReportLine → EventLine → ℕ
event_device line (events.Start path d) = d
event_device line (events.Step d) = d
event_device line (events.Run d) = d
event_device line (events.Back d) = d
event_device line (events.Settle d) = d
event_device line (events.Reset path d) = d
event_device line event = line_device line

abbrev pub next_device : ReportLine → List EventLine → ℕ
next_device line (event ∷ es) = event_device line event
next_device line [] = 0

abbrev pub or_zero : Option ℕ → ℕ
or_zero (Some d) = d
or_zero None = 0

abbrev pub due_device : AuditState → ReportLine → Due → ℕ
due_device s line Next = next_device line s.events
due_device s line (SenseOf e) = or_zero (worker_number s)
due_device s line (Losses d) = line_device line
due_device s line (Powers k) = line_device line
due_device s line due = 0

abbrev pub behind_device : AuditState → ReportLine → Did → Bool → Bool → ℕ
behind_device s line did true io = or_zero (worker_number s)
behind_device s line did false true = or_zero (worker_number s)
behind_device s line did false false = due_device (settled s did) line (settled s did).due

abbrev pub device_in_due : AuditState → ReportLine → Due → ℕ
device_in_due s line (Behind more did) = behind_device s line did (is_of_work more (worker_number s) line && not (is_io line)) (is_io line)
device_in_due s line due = due_device s line due

abbrev pub device_of : AuditState → ReportLine → ℕ
device_of s line = device_in_due s line s.due

abbrev pub result_device : AuditState → Result ReportLine LineFault → ℕ
result_device s (Ok line) = device_of s line
result_device s (Err fault) = 0

module _ (programs : List PlannedProgram) (of : List DeviceLine) where
  module _ (s u : AuditState) where
    -- Where nothing is half told

    module _ (each : Each programs Sound of s.devices) where
      plain_of : (d : ℕ) (a : AuditedDevice) → device_in s.devices d ≡ Some a → Sound a
      plain_of d a found = each_found programs Sound d of s.devices each a found

      work_shown : (line : ReportLine) (d : ℕ) → CanBePlain u d → (event : EventLine) → first_event s.events ≡ Some event → worker_of event ≡ Some d
          → (a : AuditedDevice) → device_in s.devices d ≡ Some a → WorkShows s line a u → Follows (work_made s line a) u
      work_shown (lines.End l) d can event first works a found shows =
          end_shown s u d can a found (plain_of d a found).plain (ap (λ (e : Option EventLine). then_of e worker_of) first ∙ works) (lines.End l)
          shows.0 shows.1 shows.2.0 shows.2.1
      work_shown line d can event first works a found shows = follows _ u shows

      order_shown : (line : ReportLine) (event : EventLine) → CanBePlain u (line_device line) → OrderShows s line event u → order_made s line event ≡ Some u
      order_shown (lines.Loose d (loose.Harden track)) event can shows = grind (arith, found_then, order_firm, plain_of)
      order_shown (lines.Loose d (loose.Lost count id)) event can shows =
          found_then (device_in s.devices d) (loss_made s (lines.Loose d (loose.Lost count id))) shows.0 shows.1
          ∙ order_lost s u d can shows.0 shows.1 (plain_of d shows.0 shows.1).plain (lines.Loose d (loose.Lost count id)) shows.2.0 shows.2.1
      order_shown line event can shows = shows

    -- A loss of power

    power_line_shown : (line : ReportLine) → CanBePlain u (line_device line) → PowerShows s line u → power_made s line ≡ Some u
    power_line_shown (lines.Over p d n (how.Cut k)) can shows = grind (arith, found_then, found_then shows.0.history.running (power_cut s shows.0 k) shows.2.0 shows.2.1, power_shown s u d can shows.0 shows.1 shows.2.0 shows.2.1 k shows.2.2)
    power_line_shown line can shows = shows

    -- The first line of an event

    module _ (each : Each programs Sound of s.devices) where
      works_shown : (line : ReportLine) (d : ℕ) → CanBePlain u d → (event : EventLine) → first_event s.events ≡ Some event → worker_of event ≡ Some d
          → (a : AuditedDevice) → device_in s.devices d ≡ Some a → WorkShows s line a u
          → Follows (then_of (device_in s.devices d) (work_made s line)) u
      works_shown line d can event first works a found shows = grind (arith, found_then, found, work_shown)

      event_shown : (line : ReportLine) (event : EventLine) → CanBePlain u (event_device line event) → first_event s.events ≡ Some event → EventShows s line event u
          → Follows (event_made s line event) u
      event_shown line (events.Start path d) can first shows = grind (arith, follows _ u (found_then (device_in s.devices d) (start_made s line path) shows.0 shows.1 ∙ start_shown s u d can shows.0 shows.1 line path shows.2), found_then (device_in s.devices d) (start_made s line path) shows.0 shows.1, start_shown s u d can shows.0 shows.1 line path shows.2)
      event_shown line (events.Step d) can first shows = works_shown line d can (events.Step d) first refl shows.0 shows.1 shows.2
      event_shown line (events.Run d) can first shows = works_shown line d can (events.Run d) first refl shows.0 shows.1 shows.2
      event_shown line (events.Back d) can first shows = works_shown line d can (events.Back d) first refl shows.0 shows.1 shows.2
      event_shown line (events.Settle d) can first shows = works_shown line d can (events.Settle d) first refl shows.0 shows.1 shows.2
      event_shown line (events.Reset path d) can first shows =
          follows _ u (found_then (device_in s.devices d) (reset_made s line path) shows.0 shows.1
          ∙ reset_line_shown s u d can shows.0 shows.1 line path shows.2)
      event_shown line events.Power can first shows = follows _ u (power_line_shown line can shows)
      event_shown line event can first shows = follows _ u (order_shown each line event can shows)

      next_shown : (line : ReportLine) (es : List EventLine) → CanBePlain u (next_device line es) → first_event s.events ≡ first_event es → NextShows s line es u
          → Follows (next_made s line es) u
      next_shown line es can first shows = grind (arith, event_shown, follows)

  -- Where a line of a device's work is due

  module _ (s : AuditState) (d : ℕ) (works : worker_number s ≡ Some d) where
    at_work : (a : AuditedDevice) → worker s ≡ Some a → device_in s.devices d ≡ Some a
    at_work a is = sym (ap (λ (n : Option ℕ). then_of n (device_in s.devices)) works) ∙ is

    worker_so : (G : AuditedDevice → Type 0) → But programs Sound G d of s.devices → (a : AuditedDevice) → worker s ≡ Some a → G a
    worker_so G but a is = but.here a (at_work a is)

  sense_line_shown : (s u : AuditState) (line : ReportLine) (p e : CommandEnd) → AtWork programs of (DidSo true (Ended p)) s.events s.devices
      → CanBePlain u (or_zero (worker_number s)) → DueShows (record s { due = SenseOf e }) line (SenseOf e) u → then_of (worker s) (sense_made s line p) ≡ Some u
  sense_line_shown s u line p e so can shows =
      found_then (worker s) (sense_made s line p) shows.0 shows.1
      ∙ sense_shown s u line p e so.0 shows.0 (at_work s so.0 so.1 shows.0 shows.1) shows.1 (worker_so s so.0 so.1 (Ends p) so.2 shows.0 shows.1) shows.2
      (subst (λ (d : ℕ). CanBePlain u d) (ap or_zero so.1) can)

  due_shown_made : (s u : AuditState) (line : ReportLine) (due : Due) → AreSo programs of due s.events s.devices
      → CanBePlain u (due_device s line due) → DueShows s line due u → Follows (due_made s line due) u
  due_shown_made s u line due so can shows = grind (arith, next_shown, follows, sense_line_shown, found_then, order_shown, power_line_shown)

  -- Behind a piece of work

  module _ (s u : AuditState) (line : ReportLine) (more : Bool) (did : Did) (sound : IsSoundState programs of s)
      (so : AtWork programs of (DidSo more did) s.events s.devices) where
    -- the work is done as on the plain device
    worked_plain : (a : AuditedDevice) → worker s ≡ Some a → CanBePlain (settled s did) so.0 → PlainPast (worked a did)
    worked_plain a works can_settled = by_over (over_by a did a.history.running) refl where
      number : (did : Did) → (worked a did).number ≡ a.number
      number did = grind arith

      found : device_in (with_device s.devices (worked a did)) so.0 ≡ Some (worked a did)
      found = put_found s.devices so.0 a (worked a did) (at_work s so.0 so.1 a works) (number did)

      settled_is : settled s did ≡ settled_by s a did (over_by a did a.history.running)
      settled_is = ap (λ (w : Option AuditedDevice). settled_in s did w) works

      by_event : (b : Bool) → CanBePlain (cond b (passed (record s { devices = with_device s.devices (worked a did) }))
          (record s { devices = with_device s.devices (worked a did); due = Next })) so.0 → PlainPast (worked a did)
      by_event true c = c (worked a did) found
      by_event false c = c (worked a did) found

      by_over : (over : Option ReportLine) → over_by a did a.history.running ≡ over → PlainPast (worked a did)
      by_over over is = grind (arith, settled_is, found, by_event)

    legal_by : (a : AuditedDevice) (did : Did) → PlainPast (worked a did) → is_legal did a ≡ true
    legal_by a did plain = grind (arith, legal_so)

    legal : (a : AuditedDevice) → worker s ≡ Some a → CanBePlain (settled s did) so.0 → holds (worker s) (is_legal did) ≡ true
    legal a works can_settled = grind (arith, legal_by, worked_plain)

    at_worker : CanBePlain u (or_zero (worker_number s)) → CanBePlain u so.0
    at_worker can = subst (λ (d : ℕ). CanBePlain u d) (ap or_zero so.1) can

    behind_by : (act io : Bool) → (is_of_work more (worker_number s) line && not (is_io line)) ≡ act → is_io line ≡ io
        → CanBePlain u (behind_device s line did act io) → BehindShows s line did act io u
        → Follows (cond act (then_of (worker s) (act_of_work s line did)) (cond (not (holds (worker s) (is_legal did))) None
        (cond io (Some (settled s did)) (due_made (settled s did) line (settled s did).due)))) u
    behind_by true io may reads can shows = grind (arith, follows, found_then, act_shown, at_work, worker_so, no_act, at_worker)
    behind_by false true may reads can shows = grind (arith, legal, at_worker, follows)
    behind_by false false may reads can shows = grind (arith, settled_sound programs of s sound.paths so.0 so.1 more did so.2 (legal shows.0 shows.1 (shows.2.0 so.0)), legal shows.0 shows.1 (shows.2.0 so.0), legal, due_shown_made)

  -- Every line

  shown_in : (s u : AuditState) (line : ReportLine) (due : Due) → IsSoundState programs of s → AreSo programs of due s.events s.devices
      → CanBePlain u (device_in_due s line due) → ShowsIn s line due u → Follows (made_in s line due) u
  shown_in s u line (Behind more did) sound so can shows = grind (arith, behind_by)
  shown_in s u line due sound so can shows = due_shown_made s u line due so can shows

  pub shown_made : (s w u : AuditState) (line : ReportLine) → IsSoundState programs of s → Beside s w → CanBePlain u (device_of s line) → Shows w line u
      → Follows (made s line) u
  shown_made s w u line sound (inl is) can shows = grind (arith, shown_in)
  shown_made s w u line sound (inr waits) can shows =
      let so = subst (λ (due : Due). AreSo programs of due s.events s.devices) waits.due sound.devices in
      follows _ u (ap (λ (due : Due). made_in s line due) waits.due
      ∙ sense_line_shown s u line waits.own waits.told so (subst (λ (d : ℕ). CanBePlain u d) (ap (device_in_due s line) waits.due) can) (subst (λ (x : AuditState). Shows x line u) waits.is shows))

  -- A line's text

  judged_so : (s w u : AuditState) (line : ReportLine) → IsSoundState programs of s → Beside s w → CanBePlain u (device_of s line) → Shows w line u
      → (judged s line ≡ Err History → ⊥) × ((t : AuditState) → judged s line ≡ Ok t → Beside t u)
  judged_so s w u line sound beside can shows = grind (arith, shown_made s w u line sound beside can shows)

  good_text : (s w t u : AuditState) (r : Result ReportLine LineFault) → IsSoundState programs of s → Beside s w → CanAllBePlain u → TextShows w r u
      → judged_by s r ≡ Ok t → Beside t u
  good_text s w t u (Err fault) sound beside can shows is = absurd shows
  good_text s w t u (Ok line) sound beside can shows is = (judged_so s w u line sound beside (can (device_of s line)) shows).1 t is

  -- Lines without a fault tell of nothing but what the audit makes of them
  pub good_texts : (texts : List (List ℕ)) (s w t u : AuditState) → IsSoundState programs of s → Beside s w → LeadsTo s texts t
      → TellsOfPlain w texts u → Beside t u
  good_texts [] s w t u sound beside leads tells =
      subst (λ (x : AuditState). Beside t x) (sym tells) (subst (λ (x : AuditState). Beside x w) (sym leads) beside)
  good_texts (text ∷ texts) s w t u sound beside leads tells = grind (arith, good_texts texts leads.0 tells.0 t u (judged_sound programs of s leads.0 (line_of text) sound leads.1) (good_text s w leads.0 tells.0 (line_of text) sound beside tells.2 tells.1 leads.1) leads.2 tells.3, judged_sound, good_text)

  -- one with a fault of history shows no plain device's past
  pub bad_text : (s w u : AuditState) (r : Result ReportLine LineFault) → IsSoundState programs of s → Beside s w → judged_by s r ≡ Err History
      → CanBePlain u (result_device s r) → TextShows w r u → ⊥
  bad_text s w u (Err fault) sound beside fault_is can shows = shows
  bad_text s w u (Ok line) sound beside fault_is can shows = (judged_so s w u line sound beside can shows).0 fault_is
