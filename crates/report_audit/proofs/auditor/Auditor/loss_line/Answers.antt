use Rattle.report_audit.proofs.auditor.Auditor.loss_line.Goals as goal

pub returns : goal.returns
returns c = λ s f quiet. c.in_ok-good.ensures s f quiet
