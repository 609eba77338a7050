use Rattle.audit_laws.proofs.own.StillLines.{still_line_leads}
use Rattle.audit_laws.proofs.own_report.still_line_leads.Goals as goal

pub returns : goal.returns
returns c = still_line_leads
