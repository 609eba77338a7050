use Rattle.run_report.proofs.Quiet.{restore_tells, same_tells, start_tells}
use Rattle.run_report.proofs.law.quiet_events_tell_nothing.Goals as goal

pub returns-clause-same : goal.returns-clause-same
returns-clause-same c before behind is = same_tells before behind is

pub returns-clause-starts : goal.returns-clause-starts
returns-clause-starts c d path idle = start_tells d path idle

pub returns-clause-restores : goal.returns-clause-restores
returns-clause-restores c d = restore_tells d
