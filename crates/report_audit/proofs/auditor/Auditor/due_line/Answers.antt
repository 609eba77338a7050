use Rattle.std.proofs.Common.{true, ◌≡◌, sym, ap, subst, ◌∙◌}
use Rattle.report_audit.specs.Auditor.{Makes, is_quiet}
use Rattle.report_audit.specs.declared.auditor.Auditor.{Auditor}
use Rattle.deck_audit.specs.declared.state.Due.{Due}
use Rattle.deck_audit.specs.History.{due_made, totals_made}
use Rattle.deck_audit.specs.Place.{in_due}
use Rattle.deck_audit.specs.State.{outlines}
use Rattle.report_audit.proofs.AuditorTasks.{reset_passed, totals_fit}
use Rattle.report_audit.proofs.auditor.Auditor.due_line.Goals as goal

pub returns-in-ResetOf : goal.returns-in-ResetOf
returns-in-ResetOf c = λ s f is may. subst (λ (y : Auditor). Makes true y (due_made s c.args.line.now c.args.due)) (sym c.go_on.ensures)
    (reset_passed c.args.self.now s f c.args.line.now c.args.due is c.in-ResetOf.is)

pub returns-in-Totals : goal.returns-in-Totals
returns-in-Totals c = λ s f is may. (
  totals_made s c.args.line.now c.in-Totals.told,
  ap (λ (d : Due). due_made s c.args.line.now d) c.in-Totals.is,
  c.totals_line.ensures s f (ap is_quiet (sym is ∙ c.in-Totals.is))
      (totals_fit s c.args.line.now c.in-Totals.told (sym is ∙ c.in-Totals.is)
      (subst (λ (d : Due). in_due (outlines s) s.events c.args.line.now d ≡ true) c.in-Totals.is may)),
)
