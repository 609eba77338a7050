use Rattle.audit_laws.proofs.own.Forms.{report_has_form}
use Rattle.audit_laws.proofs.own_report.report_has_form.Goals as goal

pub returns : goal.returns
returns c = report_has_form
