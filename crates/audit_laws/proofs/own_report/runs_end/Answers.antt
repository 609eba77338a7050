use Rattle.audit_laws.proofs.own.WorkLines.{runs_end}
use Rattle.audit_laws.proofs.own_report.runs_end.Goals as goal

pub returns : goal.returns
returns c = runs_end
