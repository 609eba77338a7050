use Rattle.audit_laws.proofs.own.WorkLines.{run_line_leads}
use Rattle.audit_laws.proofs.own_report.run_line_leads.Goals as goal

pub returns : goal.returns
returns c = run_line_leads
