use Rattle.run_report.proofs.Showing.{report_shows}
use Rattle.run_report.proofs.law.events_show_a_history.Goals as goal

pub returns : goal.returns
returns c d s events shown empty = report_shows d s events shown empty
