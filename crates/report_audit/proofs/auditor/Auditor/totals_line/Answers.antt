use Rattle.std.proofs.Common.{List, length, sym, ap, subst}
use Rattle.report_audit.specs.Auditor.{IsAuditOf}
use Rattle.deck_audit.specs.declared.kept.Kept.{Kept}
use Rattle.deck_audit.specs.declared.state.Due.{Due}
use Rattle.deck_audit.specs.History.{totals_made}
use Rattle.report_audit.proofs.AuditorTasks.{totals_audit}
use Rattle.report_audit.proofs.auditor.Auditor.totals_line.Goals as goal

pub returns : goal.returns
returns c = λ s f quiet fits. subst (λ (x : Due). IsAuditOf (record c.args.self.now { due = x }) (totals_made s c.args.line.now c.args.told))
    (sym c.totals_due.ensures)
    (totals_audit c.args.self.now s f quiet (length c.deref-devices.result.now) (ap (λ (l : List Kept). length l) c.deref-devices.ensures.value)
    c.args.line.now c.args.told fits)
