-- How lines lead on: one after another, at an event's first line, and behind a piece of work that is taken as done.
use Rattle.std.proofs.Common.{arith, ◌≡◌, ◌++◌, Bool, true, false, List, [], ◌∷◌, Option, Some, refl, ap, subst, if◌then◌else◌}
use Rattle.std.specs.Prelude.{Result, Ok, Err}
use Rattle.std.proofs.lemmas.Bool.{or_parts}
use Rattle.deck_plan.specs.declared.event.EventLine.{EventLine}
use Rattle.report_text.specs.declared.event.Happened.{Happened}
use Rattle.report_text.specs.declared.line.ReportLine.{ReportLine}
use Rattle.report_text.specs.Events.{first_lines, last_line, line_if}
use Rattle.deck_audit.specs.declared.state.Did.{Did}
use Rattle.deck_audit.specs.declared.state.Due.{Due}
use Rattle.deck_audit.specs.declared.state.Due.TheVariants.{Next, Behind, OverOf}
use Rattle.deck_audit.specs.Place.{holds, in_due, in_event, is_of_work}
use Rattle.deck_audit.specs.History.{due_made, event_made, is_legal}
use Rattle.deck_audit.specs.State.{AuditState, outlines, settled, then_of, worker, worker_number}
use Rattle.device_defs.specs.Marks.{MarksDevice}
use Rattle.deck_audit.specs.declared.status.AuditWhy.{AuditWhy}
use Rattle.deck_audit.specs.declared.status.AuditWhy.TheVariants.{Place}
use Rattle.deck_audit.specs.Verdict.{judged, or_history}
use Rattle.run_report.specs.Events.{event_lines, work_lines}
use Rattle.run_report.proofs.OneDevice.{quiet_loose, quiet_over, of_same}
use Rattle.subsystem_defs.specs.Happening.{EventHappened as Happening}
use Rattle.subsystem_defs.specs.Lines.{Asked}
use Rattle.subsystem_defs.specs.Subsystem.{Subsystem, devices_of}
use Rattle.audit_laws.specs.Standing.{LeadsBy, stand}

pub leads_on : (s t u : AuditState) (xs ys : List ReportLine) → LeadsBy s xs t → LeadsBy t ys u → LeadsBy s (xs ++ ys) u
leads_on s t u [] ys is more = subst (λ (z : AuditState). LeadsBy z ys u) is more
leads_on s t u (x ∷ xs) ys leads more = (leads.0, leads.1, leads_on leads.0 t u xs ys leads.2 more)

pub one_leads : (s t : AuditState) (line : ReportLine) → judged s line ≡ Ok t → LeadsBy s (line ∷ []) t
one_leads s t line is = (t, is, refl)

-- an event's lines, from where the audit stands before it to where it stands behind it
abbrev pub EventLeads : Subsystem → EventLine → Asked → Happening → Type 0
EventLeads s e asked h =
    (later : List EventLine) → LeadsBy (stand s (e ∷ later)) (event_lines asked h.end h.reads h.writes (devices_of s) (devices_of h.behind))
    (stand h.behind later)

-- The first line of an event

module _ (s : Subsystem) (e : EventLine) (later : List EventLine) (line : ReportLine) where
  abbrev from : AuditState
  from = stand s (e ∷ later)

  pub first_judged : (t : AuditState) → in_event (outlines (stand s (e ∷ later))) line e ≡ true → event_made (stand s (e ∷ later)) line e ≡ Some t →
      judged (stand s (e ∷ later)) line ≡ Ok t
  first_judged t fits makes = grind arith

pub then_some : {S T : Type 0} (o : Option S) (x : S) (go : S → Option T) → o ≡ Some x → then_of o go ≡ go x
then_some o x go is = ap (λ (y : Option _). then_of y go) is

-- Behind a piece of work

abbrev pub judged_due : AuditState → ReportLine → Due → Result AuditState AuditWhy
judged_due s line due = if in_due (outlines s) s.events line due then or_history (due_made s line due) else Err Place

pub judged_over : (s : AuditState) (line wanted : ReportLine) → s.due ≡ OverOf wanted → judged s line ≡ judged_due s line s.due
judged_over s line wanted is = grind arith

-- a line that isn't of the work is judged where the work is done, once it is known that it may be
pub waiting_judged : (s : AuditState) (line : ReportLine) (more : Bool) (did : Did) → s.due ≡ Behind more did →
    is_of_work more (worker_number s) line ≡ false → holds (worker s) (is_legal did) ≡ true →
    judged s line ≡ judged_due (settled s did) line (settled s did).due
waiting_judged s line more did is other legal = grind (arith, or_parts)

-- so lines lead from there on as from where it is done
pub waiting_leads : (s t : AuditState) (line : ReportLine) (lines : List ReportLine) (more : Bool) (did : Did) → s.due ≡ Behind more did →
    is_of_work more (worker_number s) line ≡ false → holds (worker s) (is_legal did) ≡ true → (settled s did).due ≡ Next →
    LeadsBy (settled s did) (line ∷ lines) t → LeadsBy s (line ∷ lines) t
waiting_leads s t line lines more did is other legal next leads = search (arith, waiting_judged)

-- Lines of an event that changes no device

pub quiet_lines : (h : Happened) (ds : List MarksDevice) → work_lines h 0 0 ds ds ≡ first_lines h ++ line_if (last_line h)
quiet_lines h ds = grind (arith, of_same, quiet_loose, quiet_over)
