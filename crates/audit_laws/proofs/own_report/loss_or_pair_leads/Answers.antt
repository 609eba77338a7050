use Rattle.audit_laws.proofs.own.OrderedLines.{ordered_line_leads}
use Rattle.audit_laws.proofs.own_report.loss_or_pair_leads.Goals as goal

pub returns : goal.returns
returns c = ordered_line_leads
