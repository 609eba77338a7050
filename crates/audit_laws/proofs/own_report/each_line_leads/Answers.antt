use Rattle.audit_laws.proofs.own.OrderedLines.{each_line_leads}
use Rattle.audit_laws.proofs.own_report.each_line_leads.Goals as goal

pub returns : goal.returns
returns c = each_line_leads
