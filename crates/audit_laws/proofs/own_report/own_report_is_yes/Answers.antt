use Rattle.audit_laws.proofs.own.Texts.{own_report_is_yes}
use Rattle.audit_laws.proofs.own_report.own_report_is_yes.Goals as goal

pub returns : goal.returns
returns c = own_report_is_yes c.reads_back.ensures.again
