use Rattle.report_audit.proofs.auditor.Auditor.lend_line.Goals as goal

pub returns : goal.returns
returns c = λ s f quiet. c.in_ok-good.ensures s f quiet
