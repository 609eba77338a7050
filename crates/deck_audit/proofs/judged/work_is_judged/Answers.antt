use Rattle.deck_audit.proofs.JudgedWork.{work_judged}
use Rattle.deck_audit.proofs.judged.work_is_judged.Goals as goal

pub returns : goal.returns
returns c s k a line i quiet unchanged = work_judged s k a i quiet unchanged line
