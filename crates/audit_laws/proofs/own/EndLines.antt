-- The lines of a command's end, with what it sent and its sense.
use Rattle.std.proofs.Common.{arith, ◌≡◌, ◌==◌, ◌++◌, ℕ, Bool, true, false, List, [], ◌∷◌, Option, Some, None, refl, sym, ap, subst, ◌∙◌, if◌then◌else◌}
use Rattle.std.specs.Prelude.{◌&&◌, Ok, Err}
use Rattle.std.specs.Str.{bytes_eq}
use Rattle.std.proofs.lemmas.Bool.{and_from}
use Rattle.deck_plan.specs.declared.event.EventLine.{EventLine}
use Rattle.ckd_types.specs.declared.channel.Ccw.{Ccw}
use Rattle.ckd_types.specs.declared.channel.CommandEnd.{CommandEnd}
use Rattle.ckd_types.specs.declared.channel.Note.{Note}
use Rattle.ckd_types.specs.declared.channel.Note.TheVariants.{Plain}
use Rattle.ckd_types.specs.declared.status.UnitStatus.{UnitStatus}
use Rattle.ckd_types.specs.declared.sense.Sense.{Sense}
use Rattle.ckd_types.specs.Ccw.{ccw_at}
use Rattle.ckd_types.specs.Sense.{data_check_sense, equipment_sense}
use Rattle.ckd_rules.specs.Ending.{check}
use Rattle.plain_defs.specs.History.{OpenEntry}
use Rattle.report_text.specs.declared.line.EndLine.{EndLine}
use Rattle.report_text.specs.declared.line.ReportLine.{ReportLine}
use Rattle.report_text.specs.declared.line.ReportLine.TheVariants as lines
use Rattle.report_text.specs.Ends.{data_lines, end_line, sense_lines}
use Rattle.report_text.specs.Events.{ended_lines}
use Rattle.deck_audit.specs.declared.state.Did.TheVariants.{CheckEnded, Ended}
use Rattle.deck_audit.specs.declared.state.Due.{Due}
use Rattle.deck_audit.specs.declared.state.Due.TheVariants.{Behind, Next, SenseOf}
use Rattle.deck_audit.specs.declared.state.HalfWrite.TheVariants.{Closed}
use Rattle.deck_audit.specs.Place.{in_event, is_sense, worker_of}
use Rattle.deck_audit.specs.Same.{is_same_end, is_same_note}
use Rattle.deck_audit.specs.Device.{AuditedDevice, check_end, device_in, plain_end, words_of_open}
use Rattle.deck_audit.specs.History.{behind_end, check_made, end_made_by, event_made, has_sense, sense_made, shows_end, work_made}
use Rattle.deck_audit.specs.State.{AuditState, outlines, then_of}
use Rattle.deck_audit.specs.declared.status.AuditWhy.TheVariants.{Place}
use Rattle.deck_audit.specs.Verdict.{judged, or_history}
use Rattle.audit_laws.specs.Standing.{LeadsBy}
use Rattle.audit_laws.specs.Steps.{IsCheckSense}
use Rattle.audit_laws.proofs.own.Saying.{same_bytes, same_number}
use Rattle.audit_laws.proofs.own.Work.{at_work, worker_is}

pub same_end : (e : EndLine) → is_same_end e e ≡ true
same_end e = grind (arith, and_from, same_number)

-- one of these isn't so
in_midst : (a s r n : Bool) → s ≡ false → (((a && s) && r) && n) ≡ false
in_midst a s r n e = grind arith

-- How an end of the plain device is told apart from equipment check and data check: with sense it has the form of such a check, and without
-- it another status
abbrev pub TidyBy : Ccw → CommandEnd → Option Sense → Type 0
TidyBy c e (Some sense) = (e.status ≡ check) × (e.residual ≡ c.count) × (e.note ≡ Plain) × (e.sent ≡ [])
    × (bytes_eq sense.bytes equipment_sense.bytes ≡ false) × (bytes_eq sense.bytes data_check_sense.bytes ≡ false)
TidyBy c e None = (check.0 == e.status.0) ≡ false

abbrev pub IsTidy : Ccw → CommandEnd → Type 0
IsTidy c e = TidyBy c e e.sense

module _ (xs : List AuditedDevice) (w : EventLine) (later : List EventLine) (a : AuditedDevice)
    (has : device_in xs a.number ≡ Some a) (is_work : worker_of w ≡ Some a.number) (o : OpenEntry) (running : a.history.running ≡ Some o) where
  abbrev pub before_work : AuditState
  before_work = record { devices = xs; events = w ∷ later; due = Next }

  abbrev at : Due → AuditState
  at due = at_work xs w later (record a { half = Closed }) due

  abbrev end_told : CommandEnd → ReportLine
  end_told e = lines.End (end_line o.path a.number o.ordinal e)

  module _ (stands : (e : CommandEnd) → in_event (outlines (record { devices = xs; events = w ∷ later; due = Next }))
      (lines.End (end_line o.path a.number o.ordinal e)) w ≡ true)
      (makes : (line : ReportLine) → event_made (record { devices = xs; events = w ∷ later; due = Next }) line w
      ≡ work_made (record { devices = xs; events = w ∷ later; due = Next }) line a)
      (p : CommandEnd) (plain : plain_end a o ≡ Some p) where
    abbrev checked_as : CommandEnd
    checked_as = check_end (words_of_open a o) p.index equipment_sense

    first_is : (e : CommandEnd) → judged before_work (end_told e) ≡ or_history (end_made_by before_work (end_told e) a o (Some p))
    first_is e = grind arith

    -- its form is that of a check
    check_judged : (e : CommandEnd) → end_line o.path a.number o.ordinal checked_as ≡ end_line o.path a.number o.ordinal e →
        judged before_work (end_told e) ≡ Ok (at (SenseOf p))
    check_judged e same = grind (arith, first_is e, same_end (end_line o.path a.number o.ordinal checked_as))

    sense_is : (line : ReportLine) → judged (at (SenseOf p)) line
        ≡ (if is_sense line then or_history (sense_made (at (SenseOf p)) line p (record a { half = Closed })) else Err Place)
    sense_is line = grind (arith, worker_is xs w later a.number is_work a has (record a { half = Closed }) (SenseOf p) refl)

    -- As on the plain device

    data_lead : (l : List ℕ) → p.sent ≡ l → LeadsBy (at (behind_end p l)) (data_lines l ++ []) (at (Behind true (Ended p)))
    data_lead l is = search (arith, same_bytes)

    plain_by : (sense : Option Sense) → p.sense ≡ sense → TidyBy (ccw_at (words_of_open a o) p.index) p sense →
        LeadsBy before_work (end_told p ∷ (data_lines p.sent ++ sense_lines sense)) (at (Behind true (Ended p)))
    plain_by (Some sense) is tidy =
        subst (λ (l : List ℕ). LeadsBy before_work (end_told p ∷ (data_lines l ++ sense_lines (Some sense))) (at (Behind true (Ended p)))) (sym tidy.3) (
          at (SenseOf p),
          check_judged p (ap (λ (s : UnitStatus). record (end_line o.path a.number o.ordinal checked_as) { status = s }) (sym tidy.0)
              ∙ ap (λ (r : ℕ). record (end_line o.path a.number o.ordinal checked_as) { status = p.status; residual = r }) (sym tidy.1)
              ∙ ap (λ (k : Note). record (end_line o.path a.number o.ordinal checked_as) { status = p.status; residual = p.residual; note = k }) (sym tidy.2)),
          (
            at (Behind true (Ended p)),
            sense_is (lines.Sense sense)
                ∙ ap (λ (b : Bool). or_history (if b then Some (at (Behind true (Ended p)))
                else then_of a.history.running (check_made (at (SenseOf p)) (lines.Sense sense) (record a { half = Closed }) p)))
                (ap (has_sense (lines.Sense sense)) is ∙ same_bytes sense.bytes),
            refl,
          ),
        )
    plain_by None is tidy = (
      at (behind_end p p.sent),
      first_is p
          ∙ ap (λ (b : Bool). or_history (if b then Some (at (SenseOf p)) else if shows_end a o (end_told p) p then Some (at (behind_end p p.sent)) else None))
          (in_midst _ (check.0 == p.status.0) (checked_as.residual == p.residual) (is_same_note Plain p.note) tidy)
          ∙ ap (λ (b : Bool). or_history (if b then Some (at (behind_end p p.sent)) else None)) (same_end (end_line o.path a.number o.ordinal p)),
      data_lead p.sent refl,
    )

    pub plain_lead : IsTidy (ccw_at (words_of_open a o) p.index) p →
        LeadsBy before_work (ended_lines o.path a.number o.ordinal p) (at (Behind true (Ended p)))
    plain_lead tidy = plain_by p.sense refl tidy

    -- With equipment check or data check

    not_its_sense : (s : Option Sense) → TidyBy (ccw_at (words_of_open a o) p.index) p s → (sense : Sense) → IsCheckSense sense →
        has_sense (lines.Sense sense) s ≡ false
    not_its_sense s tidy sense is = grind arith

    check_by : (sense : Sense) → IsCheckSense sense →
        check_made (at (SenseOf p)) (lines.Sense sense) (record a { half = Closed }) p o
        ≡ Some (at (Behind true (CheckEnded (check_end (words_of_open a o) p.index sense))))
    check_by sense x2 = grind arith

    pub check_lead : IsTidy (ccw_at (words_of_open a o) p.index) p → (sense : Sense) → IsCheckSense sense →
        LeadsBy before_work (ended_lines o.path a.number o.ordinal (check_end (words_of_open a o) p.index sense))
        (at (Behind true (CheckEnded (check_end (words_of_open a o) p.index sense))))
    check_lead tidy sense is =
        grind (arith, check_judged (check_end (words_of_open a o) p.index sense) refl, sense_is (lines.Sense sense), not_its_sense p.sense tidy sense is, check_by sense is)
