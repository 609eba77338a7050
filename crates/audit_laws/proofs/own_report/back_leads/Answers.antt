use Rattle.audit_laws.proofs.own.StepEnds.{back_leads}
use Rattle.audit_laws.proofs.own_report.back_leads.Goals as goal

pub returns : goal.returns
returns c xs later a has = back_leads xs later a has
