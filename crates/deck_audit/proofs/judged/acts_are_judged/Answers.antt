use Rattle.deck_audit.proofs.JudgedActs.{act_judged, loss_judged}
use Rattle.deck_audit.proofs.judged.acts_are_judged.Goals as goal

pub returns-clause-behind : goal.returns-clause-behind
returns-clause-behind c s k a line did i so = act_judged s k a i line did so

pub returns-clause-lost : goal.returns-clause-lost
returns-clause-lost c s k a line i quiet = loss_judged s k a i quiet line
