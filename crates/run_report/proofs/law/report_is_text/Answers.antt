use Rattle.run_report.proofs.ReportText.{report_is}
use Rattle.run_report.specs.Report.{lines_of_run}
use Rattle.run_report.proofs.law.report_is_text.Goals as goal
use Rattle.subsystem_defs.specs.Closing.{ending}

pub returns : goal.returns
returns c run devices frames h = report_is (lines_of_run run) (ending run.behind) devices frames h
