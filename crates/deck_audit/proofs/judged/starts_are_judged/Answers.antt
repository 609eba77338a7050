use Rattle.deck_audit.proofs.JudgedStarts.{start_judged}
use Rattle.deck_audit.proofs.judged.starts_are_judged.Goals as goal

pub returns : goal.returns
returns c s k a path line i quiet least most = start_judged s k a path line i quiet least most
