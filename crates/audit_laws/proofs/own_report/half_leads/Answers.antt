use Rattle.audit_laws.proofs.own.StepEnds.{half_leads}
use Rattle.audit_laws.proofs.own_report.half_leads.Goals as goal

pub returns : goal.returns
returns c xs later a has closed o running = half_leads xs later a has closed o running
