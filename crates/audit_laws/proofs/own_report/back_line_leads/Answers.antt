use Rattle.audit_laws.proofs.own.WorkLines.{back_line_leads}
use Rattle.audit_laws.proofs.own_report.back_line_leads.Goals as goal

pub returns : goal.returns
returns c = back_line_leads
