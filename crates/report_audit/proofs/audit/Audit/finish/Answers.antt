use Rattle.std.proofs.Common.{◌+◌, ap, sym, ◌∙◌}
use Rattle.report_audit.specs.Progress.{Progress, report_end}
use Rattle.report_audit.proofs.Steps.{report_over}
use Rattle.report_audit.proofs.audit.Audit.finish.Goals as goal

pub returns-in-Some-auditor-clause-comes : goal.returns-in-Some-auditor-clause-comes
returns-in-Some-auditor-clause-comes c = λ status comes.
    let p = c.args.self.now in
    report_over p c.in-Some-auditor.auditor c.is_finished.result status
    (ap (λ (v : Progress). v.status) (sym c.self.view_is) ∙ c.in_default.is)
    (ap (λ (v : Progress). v.auditor) (sym c.self.view_is) ∙ c.in-Some-auditor.is) c.is_finished.ensures comes
    ∙ ap (λ (v : Progress). report_end (v.lines + 1) c.is_finished.result) (sym c.self.view_is)
    ∙ sym c.report_end.ensures.value
