use Rattle.run_report.proofs.ActsCome.{acts_before_check, acts_before_end, acts_come, items_of_closed}
use Rattle.run_report.proofs.law.acts_come_to_a_history.Goals as goal

pub returns-clause-come : goal.returns-clause-come
returns-clause-come c h acts = acts_come h acts

pub returns-clause-ends : goal.returns-clause-ends
returns-clause-ends c h acts e = acts_before_end h acts e

pub returns-clause-checks : goal.returns-clause-checks
returns-clause-checks c h acts e = acts_before_check h acts e

pub returns-clause-over : goal.returns-clause-over
returns-clause-over c h o how = items_of_closed h o how
