use Rattle.std.proofs.Common.{sym, subst, true}
use Rattle.report_audit.specs.Auditor.{Makes}
use Rattle.report_audit.specs.declared.auditor.Auditor.{Auditor}
use Rattle.deck_audit.specs.History.{done_order}
use Rattle.report_audit.proofs.AuditorTasks.{done_other}
use Rattle.report_audit.proofs.auditor.Auditor.done_line.Goals as goal

pub returns-in_default : goal.returns-in_default
returns-in_default c = λ s f quiet. subst (λ (y : Auditor). Makes true y (done_order s c.args.event)) (sym c.go_on.ensures)
    (done_other c.args.self.now s f quiet c.args.event c.in_default.not-Pair c.in_default.not-Unpair)
