use Rattle.report_audit.proofs.OutlineLaw.{outlines_are}
use Rattle.report_audit.proofs.auditor.outlines_are_same.Goals as goal

pub returns : goal.returns
returns c z s f = outlines_are z s f
