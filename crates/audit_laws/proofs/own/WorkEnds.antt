-- The lines of one piece of work, whichever event line has it.
use Rattle.std.proofs.Common.{arith, ◌≡◌, ◌==◌, ℕ, Bool, true, false, List, ◌∷◌, Option, Some, None, refl, ap, ◌∙◌, if◌then◌else◌}
use Rattle.std.specs.Prelude.{◌&&◌}
use Rattle.std.proofs.lemmas.Bool.{or_left, or_right, and_from}
use Rattle.ckd_types.specs.declared.channel.CommandEnd.{CommandEnd}
use Rattle.ckd_types.specs.Sense.{equipment_sense}
use Rattle.deck_plan.specs.declared.event.EventLine.{EventLine}
use Rattle.deck_plan.specs.declared.event.EventLine.TheVariants as events
use Rattle.plain_defs.specs.declared.journal.Act.{Act}
use Rattle.plain_defs.specs.History.{IsPlain, OpenEntry, checked, ended}
use Rattle.plain_defs.specs.Legal.{AreActs}
use Rattle.device_defs.specs.Device.{all_acted}
use Rattle.report_text.specs.declared.answers.BackAnswer.{BackAnswer}
use Rattle.report_text.specs.declared.answers.HowOver.TheVariants as how
use Rattle.report_text.specs.declared.line.ReportLine.{ReportLine}
use Rattle.report_text.specs.declared.line.ReportLine.TheVariants as lines
use Rattle.report_text.specs.Ends.{end_line}
use Rattle.deck_audit.specs.declared.state.Did.{Did}
use Rattle.deck_audit.specs.declared.state.Did.TheVariants.{CheckEnded, Ended, Halved, Worked}
use Rattle.deck_audit.specs.declared.state.Due.TheVariants.{Next}
use Rattle.deck_audit.specs.declared.state.HalfWrite.{HalfWrite}
use Rattle.deck_audit.specs.declared.state.HalfWrite.TheVariants as half
use Rattle.deck_audit.specs.declared.state.Outline.{Outline}
use Rattle.deck_audit.specs.Place.{holds, in_event, is_back_line, is_second_line, may_back, may_step, outline_in, second_of, worker_of}
use Rattle.deck_audit.specs.Device.{AuditedDevice, device_in, is_idle, open_program, outline_of, state_of, with_device}
use Rattle.deck_audit.specs.History.{back_half, event_made, is_last, work_made}
use Rattle.deck_audit.specs.State.{AuditState, outlines, worked}
use Rattle.deck_audit.specs.Verdict.{judged, or_history}
use Rattle.audit_laws.specs.Steps.{LeadsTowards, NoLoss, acted_to, over_if, over_told, piece_lines, step_lines}
use Rattle.audit_laws.proofs.own.Backs.{over_halved, over_worked, work_leads}
use Rattle.audit_laws.proofs.own.CameOut.{ChecksSo, EndsSo}
use Rattle.audit_laws.proofs.own.Commands.{check_leads, command_leads}
use Rattle.audit_laws.proofs.own.Found.{outlined}
use Rattle.audit_laws.proofs.own.Leading.{then_some}
use Rattle.audit_laws.proofs.own.Saying.{same_number}
use Rattle.audit_laws.proofs.own.Work.{behind_event, end_of}

-- The event lines whose pieces of work are of the device of a number

pub data IsWork (n : ℕ) : EventLine → Type 0 where
  of_step : IsWork n (events.Step n)
  of_run : IsWork n (events.Run n)
  of_back : IsWork n (events.Back n)
  of_settle : IsWork n (events.Settle n)

pub works : {n : ℕ} {w : EventLine} → IsWork n w → worker_of w ≡ Some n
works k = grind arith

-- what is left of the events behind a piece: the line goes on, or is over
abbrev pub left_by : EventLine → AuditedDevice → Bool → List EventLine → List EventLine
left_by (events.Run d) a last later = if is_idle a then later else events.Run d ∷ later
left_by (events.Settle d) a last later = if last then later else events.Settle d ∷ later
left_by w a last later = later

abbrev pub last_of : Did → Bool
last_of (Worked last) = last
last_of did = false

-- where the audit then stands
abbrev pub behind_piece : List AuditedDevice → EventLine → List EventLine → AuditedDevice → Bool → AuditState
behind_piece xs w later b last = record { devices = with_device xs b; events = left_by w b last later; due = Next }

by_test : (l : List AuditedDevice) (w : EventLine) (later : List EventLine) (b : Bool) → ◌≡◌ {A = AuditState} (if b then
    record { devices = l; events = later; due = Next }
    else record { devices = l; events = w ∷ later; due = Next }) (record { devices = l; events = if b then later else w ∷ later; due = Next })
by_test l w later b = grind arith

module _ (xs : List AuditedDevice) (later : List EventLine) (n : ℕ) (first : AuditedDevice) (has : device_in xs n ≡ Some first) where
  settle_is : (b : AuditedDevice) (did : Did) → behind_event xs (events.Settle n) later b did
      ≡ behind_piece xs (events.Settle n) later b (last_of did)
  settle_is b did = grind (arith, by_test)

  pub piece_is : (w : EventLine) (k : IsWork n w) (b : AuditedDevice) (did : Did) → behind_event xs w later b did
      ≡ behind_piece xs w later b (last_of did)
  piece_is w of_step b did = refl
  piece_is w of_back b did = refl
  piece_is w of_run b did = by_test (with_device xs b) (events.Run n) later (is_idle b)
  piece_is w of_settle b did = settle_is b did

-- Which lines stand first

-- the command's end: no half write is open, of STEP and RUN, or that of the command, of all four
pub data MayEnd (n : ℕ) : EventLine → HalfWrite → Type 0 where
  step_ends : MayEnd n (events.Step n) half.Closed
  run_ends : MayEnd n (events.Run n) half.Closed
  step_seconds : MayEnd n (events.Step n) half.OfCommand
  run_seconds : MayEnd n (events.Run n) half.OfCommand
  back_seconds : MayEnd n (events.Back n) half.OfCommand
  settle_seconds : MayEnd n (events.Settle n) half.OfCommand

pub ends_work : {n : ℕ} {w : EventLine} {h : HalfWrite} → MayEnd n w h → IsWork n w
ends_work step_ends = of_step
ends_work run_ends = of_run
ends_work step_seconds = of_step
ends_work run_seconds = of_run
ends_work back_seconds = of_back
ends_work settle_seconds = of_settle

module _ (xs : List AuditedDevice) (later : List EventLine) (a : AuditedDevice) (has : device_in xs a.number ≡ Some a) where
  abbrev n : ℕ
  n = a.number

  abbrev pub before : EventLine → AuditState
  before w = record { devices = xs; events = w ∷ later; due = Next }

  its_outline : (f : Outline → Bool) → holds (outline_in (outlines (record { devices = xs; events = later; due = Next })) a.number) f ≡ f (outline_of a)
  its_outline f = grind (arith, outlined)

  -- where its outline may begin so
  back_fits : (line : ReportLine) {h : HalfWrite} → a.half ≡ h → may_back (outline_of a) line h ≡ true →
      holds (outline_in (outlines (record { devices = xs; events = later; due = Next })) a.number) (λ b. may_back b line b.half) ≡ true
  back_fits line is so = its_outline (λ b. may_back b line b.half) ∙ ap (may_back (outline_of a) line) is ∙ so

  step_fits : (idle line : ReportLine) {h : HalfWrite} → a.half ≡ h → may_step (outline_of a) idle line h ≡ true →
      holds (outline_in (outlines (record { devices = xs; events = later; due = Next })) a.number) (λ b. may_step b idle line b.half) ≡ true
  step_fits idle line is so = its_outline (λ b. may_step b idle line b.half) ∙ ap (may_step (outline_of a) idle line) is ∙ so

  pub makes : (w : EventLine) → IsWork a.number w → (line : ReportLine) →
      event_made (record { devices = xs; events = w ∷ later; due = Next }) line w ≡ work_made (record { devices = xs; events = w ∷ later; due = Next }) line a
  makes w of_step line = then_some (device_in xs a.number) a (work_made (before w) line) has
  makes w of_run line = then_some (device_in xs a.number) a (work_made (before w) line) has
  makes w of_back line = then_some (device_in xs a.number) a (work_made (before w) line) has
  makes w of_settle line = then_some (device_in xs a.number) a (work_made (before w) line) has

  -- what a line that stands first makes
  pub first_judged : (w : EventLine) → IsWork a.number w → (line : ReportLine) →
      in_event (outlines (record { devices = xs; events = w ∷ later; due = Next })) line w ≡ true →
      judged (record { devices = xs; events = w ∷ later; due = Next }) line
      ≡ or_history (work_made (record { devices = xs; events = w ∷ later; due = Next }) line a)
  first_judged w k line fits = grind (arith, makes)

  module _ (o : OpenEntry) (running : a.history.running ≡ Some o) where
    abbrev end_told : CommandEnd → ReportLine
    end_told e = lines.End (end_line o.path a.number o.ordinal e)

    its_end : (e : CommandEnd) → ((o.path == o.path) && (a.number == a.number) && (o.ordinal == o.ordinal)) ≡ true
    its_end e = grind (arith, and_from, same_number)

    second_end : (e : CommandEnd) → second_of (outline_of a) (end_told e) (open_program a.history.running) ≡ true
    second_end e = ap (λ (r : Option OpenEntry). second_of (outline_of a) (end_told e) (open_program r)) running ∙ its_end e

    pub end_stands : (w : EventLine) (h : HalfWrite) → MayEnd a.number w h → a.half ≡ h → (e : CommandEnd) →
        in_event (outlines (record { devices = xs; events = w ∷ later; due = Next })) (lines.End (end_line o.path a.number o.ordinal e)) w ≡ true
    end_stands w h k is e = grind (arith, its_outline, or_left, its_end, second_end e)

    -- A command that ends

    module _ (w : EventLine) (h : HalfWrite) (k : MayEnd a.number w h) (is : a.half ≡ h) (plainly : IsPlain a.plans a.empty a.history) where
      over_piece : (b : AuditedDevice) (did : Did) (over : Option ReportLine) → last_of did ≡ false →
          end_of xs w later b did over ≡ behind_piece xs w later (worked b did) false
      over_piece b did over last = grind (arith, piece_is, ends_work)

      pub ends_lead : (reads writes : ℕ) (e : CommandEnd) (acts : List Act) → EndsSo a o e acts → (e.sense ≡ Some equipment_sense → ⊥) →
          LeadsTowards (record { devices = xs; events = w ∷ later; due = Next }) (step_lines a o e acts reads writes (over_if e.over (over_told a o how.Full)))
          (behind_piece xs w later (record a { history = ended (all_acted a.history acts) e; half = half.Closed }) false)
      ends_lead reads writes e acts so few =
          let leads = command_leads xs w later a has (works (ends_work k)) o running plainly (end_stands w h k is) (makes w (ends_work k)) reads writes e acts so few in
          (leads.0, leads.1, rw (← (over_piece (acted_to a acts) (Ended e) (over_if e.over (over_told a o how.Full)) refl)) leads.2)

      pub checks_lead : (reads writes : ℕ) (e : CommandEnd) (acts : List Act) → NoLoss acts → (c : ChecksSo a o e acts) → (c.plain.sense ≡ Some equipment_sense → ⊥) →
          LeadsTowards (record { devices = xs; events = w ∷ later; due = Next }) (step_lines a o e acts reads writes (Some (over_told a o how.Checked)))
          (behind_piece xs w later (record a { history = checked (all_acted a.history acts) e; half = half.Closed }) false)
      checks_lead reads writes e acts none c few =
          let leads = check_leads xs w later a has (works (ends_work k)) o running plainly (end_stands w h k is) (makes w (ends_work k)) reads writes e acts none c few in
          (leads.0, leads.1, rw (← (over_piece (acted_to a acts) (CheckEnded e) (Some (over_told a o how.Checked)) refl)) leads.2)

    -- The first part of a write

    half_stands : (w : EventLine) → MayEnd a.number w half.Closed → a.half ≡ half.Closed → (track : ℕ) →
        in_event (outlines (record { devices = xs; events = w ∷ later; due = Next })) (lines.Half o.path a.number track) w ≡ true
    half_stands w k closed track = grind (arith, its_outline, or_right)

    pub halves_lead : (w : EventLine) (k : MayEnd a.number w half.Closed) → a.half ≡ half.Closed → IsPlain a.plans a.empty a.history → (track : ℕ)
        (acts : List Act) → NoLoss acts → AreActs (state_of a) None acts → (reads writes : ℕ) →
        LeadsTowards (record { devices = xs; events = w ∷ later; due = Next })
        (piece_lines (lines.Half o.path a.number track) a acts reads writes)
        (behind_piece xs w later (record a { history = all_acted a.history acts; half = half.OfCommand }) false)
    halves_lead w k closed plainly track acts none are reads writes =
        let leads = work_leads xs w later a has (works (ends_work k)) plainly half.OfCommand Halved (λ b. refl) (λ b. over_halved b b.history.running)
        (lines.Half o.path a.number track) (first_judged w (ends_work k) (lines.Half o.path a.number track)
        (half_stands w k closed track)) acts none are reads writes in (
          leads.0,
          leads.1,
          rw (← (piece_is xs later a.number a has w (ends_work k)
              (record a { history = all_acted a.history acts; half = half.OfCommand }) Halved)) leads.2,
        )

  -- What the background says

  -- of a write that no command waits for, whichever line asks; of other work, BACK and SETTLE alone
  pub data MayTell : EventLine → BackAnswer → HalfWrite → Type 0 where
    seconds_by : {w : EventLine} {answer : BackAnswer} → IsWork a.number w → is_second_line a.number (lines.Back a.number answer) ≡ true →
        MayTell w answer half.OfBackground
    back_tells : {answer : BackAnswer} → is_back_line a.number (lines.Back a.number answer) ≡ true → MayTell (events.Back a.number) answer half.Closed
    settle_tells : {answer : BackAnswer} → is_back_line a.number (lines.Back a.number answer) ≡ true → MayTell (events.Settle a.number) answer half.Closed

  tells_work : {w : EventLine} {answer : BackAnswer} {h : HalfWrite} → MayTell w answer h → IsWork a.number w
  tells_work (seconds_by k so) = k
  tells_work (back_tells so) = of_back
  tells_work (settle_tells so) = of_settle

  second_stands : (w : EventLine) → IsWork a.number w → (answer : BackAnswer) → a.half ≡ half.OfBackground →
      is_second_line a.number (lines.Back a.number answer) ≡ true →
      in_event (outlines (record { devices = xs; events = w ∷ later; due = Next })) (lines.Back a.number answer) w ≡ true
  second_stands w k answer is so = grind (arith, its_outline)

  tells_stand : {w : EventLine} {answer : BackAnswer} {h : HalfWrite} → (k : MayTell w answer h) → a.half ≡ h →
      in_event (outlines (record { devices = xs; events = w ∷ later; due = Next })) (lines.Back a.number answer) w ≡ true
  tells_stand {w = w} {answer = answer} (seconds_by k so) is = second_stands w k answer is so
  tells_stand {answer = answer} (back_tells so) is = back_fits (lines.Back a.number answer) is so
  tells_stand {answer = answer} (settle_tells so) is = back_fits (lines.Back a.number answer) is so

  pub tells_lead : (w : EventLine) (answer : BackAnswer) (h : HalfWrite) (k : MayTell w answer h) → a.half ≡ h → IsPlain a.plans a.empty a.history →
      (acts : List Act) → NoLoss acts → AreActs (state_of a) None acts → (reads writes : ℕ) →
      LeadsTowards (record { devices = xs; events = w ∷ later; due = Next })
      (piece_lines (lines.Back a.number answer) a acts reads writes)
      (behind_piece xs w later (record a { history = all_acted a.history acts; half = back_half a answer }) (is_last answer))
  tells_lead w answer h k is plainly acts none are reads writes =
      let leads = work_leads xs w later a has (works (tells_work k)) plainly (back_half a answer) (Worked (is_last answer)) (λ b. refl) (λ b. over_worked b
      (is_last answer) b.history.running) (lines.Back a.number answer) (first_judged w (tells_work k) (lines.Back a.number answer)
      (tells_stand k is)) acts none are reads writes in (
        leads.0,
        leads.1,
        rw (← (piece_is xs later a.number a has w (tells_work k)
            (record a { history = all_acted a.history acts; half = back_half a answer }) (Worked (is_last answer)))) leads.2,
      )
