use Rattle.copy_tool.proofs.MirrorStaged.{mirror_goes_on}
use Rattle.copy_tool.proofs.Staged.{on_ok}
use Rattle.copy_tool.proofs.mirroring.MirrorStageStageInfallible.event.Goals as goal

pub returns-clause-goes_on : goal.returns-clause-goes_on
returns-clause-goes_on c = on_ok c.event.result (mirror_goes_on _ _ c.event.ensures.numbers c.event.ensures.follows.device)

pub returns-clause-did : goal.returns-clause-did
returns-clause-did c = λ w is. c.event.ensures.mirrors w is

pub returns-clause-settled : goal.returns-clause-settled
returns-clause-settled c = λ w is. c.event.ensures.settled w is
