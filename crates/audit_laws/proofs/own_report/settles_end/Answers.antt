use Rattle.audit_laws.proofs.own.WorkLines.{settles_end}
use Rattle.audit_laws.proofs.own_report.settles_end.Goals as goal

pub returns : goal.returns
returns c = settles_end
