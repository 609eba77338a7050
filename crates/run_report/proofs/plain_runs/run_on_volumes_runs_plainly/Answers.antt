use Rattle.run_report.proofs.shown.ShownRuns.{read_runs_plainly}
use Rattle.run_report.proofs.plain_runs.run_on_volumes_runs_plainly.Goals as goal

pub returns : goal.returns
returns c = read_runs_plainly
