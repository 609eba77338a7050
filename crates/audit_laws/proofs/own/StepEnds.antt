-- The lines of a command that ends in a STEP.
use Rattle.std.proofs.Common.{arith, ◌≡◌, ◌++◌, true, List, [], ◌∷◌, Some, refl}
use Rattle.std.proofs.lemmas.Bool.{or_left, and_from}
use Rattle.ckd_types.specs.declared.channel.CommandEnd.{CommandEnd}
use Rattle.deck_plan.specs.declared.event.EventLine.{EventLine}
use Rattle.deck_plan.specs.declared.event.EventLine.TheVariants.{Back, Step}
use Rattle.plain_defs.specs.History.{OpenEntry}
use Rattle.plain_defs.specs.declared.journal.Act.TheVariants.{Loosen}
use Rattle.report_text.specs.declared.line.ReportLine.{ReportLine}
use Rattle.report_text.specs.declared.line.ReportLine.TheVariants as lines
use Rattle.report_text.specs.Ends.{end_line}
use Rattle.deck_audit.specs.declared.state.Due.TheVariants.{Next}
use Rattle.deck_audit.specs.declared.state.HalfWrite.{HalfWrite}
use Rattle.deck_audit.specs.declared.state.HalfWrite.TheVariants.{Closed, OfBackground, OfCommand}
use Rattle.report_text.specs.declared.answers.BackAnswer.{BackAnswer}
use Rattle.deck_audit.specs.Place.{in_event, may_back}
use Rattle.deck_audit.specs.Device.{AuditedDevice, check_end, device_in, outline_of, words_of_open}
use Rattle.deck_audit.specs.History.{event_made, work_made}
use Rattle.deck_audit.specs.State.{AuditState, outlines}
use Rattle.audit_laws.specs.Steps.{BackLeads, HalfLeads, StepEnds, WholeStepLeads}
use Rattle.audit_laws.proofs.own.CameOut.{firmly, loosely}
use Rattle.audit_laws.proofs.own.Commands.{plain_end_is_tidy}
use Rattle.audit_laws.proofs.own.NextLines.{never_holds}
use Rattle.audit_laws.proofs.own.WorkEnds.{MayTell, back_tells, ends_lead, checks_lead, halves_lead, of_back, seconds_by, step_ends as steps, tells_lead}
use Rattle.audit_laws.proofs.own.EndLines.{check_lead, plain_lead}
use Rattle.audit_laws.proofs.own.Found.{outlined}
use Rattle.audit_laws.proofs.own.Leading.{then_some}
use Rattle.audit_laws.proofs.own.Saying.{same_number}

module _ (xs : List AuditedDevice) (later : List EventLine) (a : AuditedDevice) (has : device_in xs a.number ≡ Some a) (closed : a.half ≡ Closed)
    (o : OpenEntry) (running : a.history.running ≡ Some o) where
  abbrev from : AuditState
  from = record { devices = xs; events = Step a.number ∷ later; due = Next }

  stands : (e : CommandEnd) → in_event (outlines (record { devices = xs; events = Step a.number ∷ later; due = Next }))
      (lines.End (end_line o.path a.number o.ordinal e)) (Step a.number) ≡ true
  stands e = grind (arith, outlined, or_left, and_from, same_number)

  makes : (line : ReportLine) → event_made (record { devices = xs; events = Step a.number ∷ later; due = Next }) line (Step a.number)
      ≡ work_made (record { devices = xs; events = Step a.number ∷ later; due = Next }) line a
  makes line = then_some (device_in xs a.number) a (work_made from line) has

  pub step_ends : StepEnds xs later a o
  step_ends = search (arith, plain_lead, stands, makes, plain_end_is_tidy, check_lead)

  -- all lines of the step
  pub step_leads : WholeStepLeads xs later a o
  step_leads p plain few plainly acts none are = record {
    plainly = λ reads writes legal.
        ends_lead xs later a has o running (Step a.number) Closed steps closed plainly reads writes p acts (firmly acts plain none are legal) few;
    loosened = λ reads writes t may legal.
        ends_lead xs later a has o running (Step a.number) Closed steps closed plainly reads writes p (acts ++ Loosen t ∷ [])
        (loosely acts t plain none are may legal) few;
    checked = λ reads writes sense is. let e = check_end (words_of_open a o) p.index sense in
        checks_lead xs later a has o running (Step a.number) Closed steps closed plainly reads writes e acts none
        (record { plain = p; is_plain = plain; sense = sense; is_check = is; is_so = refl; are = are }) few;
  }

  pub half_leads : HalfLeads xs later a o
  half_leads plainly track acts none are reads writes =
      halves_lead xs later a has o running (Step a.number) steps closed plainly track acts none are reads writes

module _ (xs : List AuditedDevice) (later : List EventLine) (a : AuditedDevice) (has : device_in xs a.number ≡ Some a) where
  tells : (answer : BackAnswer) (h : HalfWrite) → may_back (outline_of a) (lines.Back a.number answer) h ≡ true →
      MayTell xs later a has (Back a.number) answer h
  tells answer Closed fits = back_tells fits
  tells answer OfCommand fits = absurd (grind (arith, never_holds))
  tells answer OfBackground fits = seconds_by of_back fits

  pub back_leads : BackLeads xs later a
  back_leads plainly answer fits acts none are reads writes =
      tells_lead xs later a has (Back a.number) answer a.half (tells answer a.half fits) refl plainly acts none are reads writes
