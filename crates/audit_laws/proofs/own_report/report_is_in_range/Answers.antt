use Rattle.audit_laws.proofs.own.RangedRuns.{report_is_in_range}
use Rattle.audit_laws.proofs.own_report.report_is_in_range.Goals as goal

pub returns : goal.returns
returns c = report_is_in_range
