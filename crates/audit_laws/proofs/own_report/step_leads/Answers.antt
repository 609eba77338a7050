use Rattle.audit_laws.proofs.own.StepEnds.{step_leads}
use Rattle.audit_laws.proofs.own_report.step_leads.Goals as goal

pub returns : goal.returns
returns c xs later a has closed o running = step_leads xs later a has closed o running
