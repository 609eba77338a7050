use Rattle.audit_laws.proofs.own.Runs.{report_leads}
use Rattle.audit_laws.proofs.own_report.report_leads.Goals as goal

pub returns : goal.returns
returns c = report_leads
