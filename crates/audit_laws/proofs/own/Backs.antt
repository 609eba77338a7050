-- The lines of the first part of a command's write, and of work in the background.
use Rattle.std.proofs.Common.{[], arith, ◌≡◌, ℕ, Bool, true, List, ◌∷◌, map, Option, Some, None, refl}
use Rattle.std.specs.Prelude.{Ok}
use Rattle.deck_plan.specs.declared.event.EventLine.{EventLine}
use Rattle.plain_defs.specs.declared.journal.Act.{Act}
use Rattle.plain_defs.specs.History.{IsPlain, OpenEntry}
use Rattle.plain_defs.specs.Legal.{AreActs}
use Rattle.device_defs.specs.Device.{all_acted}
use Rattle.report_text.specs.declared.line.ReportLine.{ReportLine}
use Rattle.report_text.specs.declared.event.Happened.TheVariants as told
use Rattle.deck_audit.specs.declared.state.Did.{Did}
use Rattle.deck_audit.specs.declared.state.Did.TheVariants.{Halved, Worked}
use Rattle.deck_audit.specs.declared.state.Due.TheVariants.{Behind, Next}
use Rattle.deck_audit.specs.declared.state.HalfWrite.{HalfWrite}
use Rattle.deck_audit.specs.Place.{worker_of}
use Rattle.deck_audit.specs.Device.{AuditedDevice, device_in, state_of}
use Rattle.deck_audit.specs.History.{is_legal}
use Rattle.deck_audit.specs.State.{over_by}
use Rattle.deck_audit.specs.Verdict.{judged}
use Rattle.audit_laws.specs.Steps.{LeadsTowards, NoLoss, act_line, piece_lines}
use Rattle.audit_laws.proofs.own.Work.{acts_lead, at_work, end_of, piece_leads}

-- A piece of work that ends no command
module _ (xs : List AuditedDevice) (w : EventLine) (later : List EventLine) (a : AuditedDevice) (has : device_in xs a.number ≡ Some a)
    (is_work : worker_of w ≡ Some a.number) (plainly : IsPlain a.plans a.empty a.history) (half : HalfWrite) (did : Did)
    (legal : (b : AuditedDevice) → is_legal did b ≡ true) (no_over : (b : AuditedDevice) → over_by b did b.history.running ≡ None)
    (line : ReportLine) (first : judged (record { devices = xs; events = w ∷ later; due = Next }) line
    ≡ Ok (at_work xs w later (record a { half = half }) (Behind true did)))
    (acts : List Act) (none : NoLoss acts) (are : AreActs (state_of a) None acts) (reads writes : ℕ) where
  abbrev acted : AuditedDevice
  acted = record a { history = all_acted a.history acts; half = half }

  pub work_leads : LeadsTowards (record { devices = xs; events = w ∷ later; due = Next })
      (piece_lines line a acts reads writes) (end_of xs w later acted did None)
  work_leads =
      piece_leads xs w later a.number is_work a has acted refl true did (legal acted) None (no_over acted)
      (λ l is. absurd (let none_is : None ≡ Some l = is in cc)) (told.First line) refl (map (act_line a.number) acts) reads writes
      (acts_lead xs w later a.number is_work a has (record a { half = half }) refl did acts plainly none are (line ∷ [])
      (at_work xs w later (record a { half = half }) (Behind true did), first, refl))

pub over_halved : (b : AuditedDevice) (r : Option OpenEntry) → over_by b Halved r ≡ None
over_halved b r = grind arith

pub over_worked : (b : AuditedDevice) (last : Bool) (r : Option OpenEntry) → over_by b (Worked last) r ≡ None
over_worked b last r = grind arith
