use Rattle.audit_laws.proofs.own.WorkLines.{settle_line_leads}
use Rattle.audit_laws.proofs.own_report.settle_line_leads.Goals as goal

pub returns : goal.returns
returns c = settle_line_leads
