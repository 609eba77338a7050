use Rattle.deck_audit.proofs.JudgedCuts.{cut_judged, power_judged}
use Rattle.deck_audit.proofs.judged.cuts_are_judged.Goals as goal

pub returns-clause-reset : goal.returns-clause-reset
returns-clause-reset c s k a n i quiet small = cut_judged s k a i quiet n small

pub returns-clause-power : goal.returns-clause-power
returns-clause-power c s k a n i quiet small = power_judged s k a i quiet n small
