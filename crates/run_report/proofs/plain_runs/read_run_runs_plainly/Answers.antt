use Rattle.run_report.proofs.shown.ShownRuns.{read_runs_plainly}
use Rattle.subsystem_defs.specs.Decks.{empty_firsts}
use Rattle.subsystem_laws.proofs.PlainRuns.{empty_whole}
use Rattle.run_report.proofs.plain_runs.read_run_runs_plainly.Goals as goal

pub returns : goal.returns
returns c = read_runs_plainly empty_firsts empty_whole
