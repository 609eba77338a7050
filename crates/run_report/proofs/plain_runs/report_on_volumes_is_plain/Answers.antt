use Rattle.run_report.proofs.shown.PlainReports.{report_is_plain_on}
use Rattle.run_report.proofs.plain_runs.report_on_volumes_is_plain.Goals as goal

pub returns : goal.returns
returns c = report_is_plain_on
