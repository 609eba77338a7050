use Rattle.audit_laws.proofs.own.Endings.{ending_leads}
use Rattle.audit_laws.proofs.own_report.ending_leads.Goals as goal

pub returns : goal.returns
returns c = ending_leads
