use Rattle.audit_laws.proofs.own.StepEnds.{step_ends}
use Rattle.audit_laws.proofs.own_report.step_ends_lead.Goals as goal

pub returns : goal.returns
returns c xs later a has closed o running = step_ends xs later a has closed o running
