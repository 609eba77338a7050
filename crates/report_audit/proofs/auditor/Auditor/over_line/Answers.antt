use Rattle.report_audit.proofs.auditor.Auditor.over_line.Goals as goal

pub returns : goal.returns
returns c = λ s f quiet worker event. c.in_ok-good.ensures s f (quiet, worker, event)
