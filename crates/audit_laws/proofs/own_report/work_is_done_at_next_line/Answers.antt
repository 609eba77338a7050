use Rattle.audit_laws.proofs.own.Leading.{waiting_leads}
use Rattle.audit_laws.proofs.own_report.work_is_done_at_next_line.Goals as goal

pub returns : goal.returns
returns c = waiting_leads
