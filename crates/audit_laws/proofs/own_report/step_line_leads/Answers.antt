use Rattle.audit_laws.proofs.own.WorkLines.{step_line_leads}
use Rattle.audit_laws.proofs.own_report.step_line_leads.Goals as goal

pub returns : goal.returns
returns c = step_line_leads
