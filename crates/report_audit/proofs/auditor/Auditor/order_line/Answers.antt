use Rattle.std.proofs.Common.{sym, subst, true, ◌∙◌}
use Rattle.report_audit.specs.Auditor.{Makes}
use Rattle.report_audit.specs.declared.auditor.Auditor.{Auditor}
use Rattle.deck_audit.specs.History.{order_made}
use Rattle.report_audit.proofs.AuditorTasks.{order_other}
use Rattle.report_audit.proofs.auditor.Auditor.order_line.Goals as goal

pub returns-in-Other : goal.returns-in-Other
returns-in-Other c = λ s f quiet. subst (λ (y : Auditor). Makes true y (order_made s c.args.line.now c.args.event)) (sym c.go_on.ensures)
    (order_other c.args.self.now s f quiet c.args.line.now c.args.event (sym c.order_told.ensures ∙ c.in-Other.is))
