use Rattle.copy_tool.proofs.Staged.{goes_on, on_ok}
use Rattle.copy_tool.proofs.copying.CopyStageStageEarly.behind.Goals as goal

pub returns-clause-goes_on : goal.returns-clause-goes_on
returns-clause-goes_on c = on_ok c.look.result (goes_on _ _ c.look.ensures.numbers)

pub returns-clause-reaches : goal.returns-clause-reaches
returns-clause-reaches c = λ w is. c.look.ensures.reaches w is
