use Rattle.run_report.proofs.HistoryShown.{acts_show, checked_shows, cut_shows, ended_shows, power_shows, start_shows}
use Rattle.run_report.proofs.law.histories_show.Goals as goal

pub returns-clause-starts : goal.returns-clause-starts
returns-clause-starts c d path ordinal h idle = start_shows d h path ordinal idle

pub returns-clause-acts : goal.returns-clause-acts
returns-clause-acts c d h acts = acts_show d acts h

pub returns-clause-ends : goal.returns-clause-ends
returns-clause-ends c d h o e is = ended_shows d h o e is

pub returns-clause-checks : goal.returns-clause-checks
returns-clause-checks c d h o e is = checked_shows d h o e is

pub returns-clause-cuts : goal.returns-clause-cuts
returns-clause-cuts c d h o more is = cut_shows d h o more is

pub returns-clause-powers : goal.returns-clause-powers
returns-clause-powers c d h o more is = power_shows d h o more is
