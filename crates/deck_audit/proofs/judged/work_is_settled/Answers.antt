use Rattle.deck_audit.proofs.JudgedEnds.{settles}
use Rattle.deck_audit.proofs.judged.work_is_settled.Goals as goal

pub returns-clause-over : goal.returns-clause-over
returns-clause-over c k a did i so = (settles k a i did so).over_is

pub returns-clause-kept : goal.returns-clause-kept
returns-clause-kept c k a did i so = (settles k a i did so).kept

pub returns-clause-quiet : goal.returns-clause-quiet
returns-clause-quiet c k a did i so = (settles k a i did so).quiet
