use Rattle.std.proofs.Common.{refl}
use Rattle.copy_tool.proofs.MirrorStaged.{mirror_goes_on}
use Rattle.copy_tool.proofs.mirroring.MirrorStageStageInfallible.behind.Goals as goal

pub returns-clause-goes_on : goal.returns-clause-goes_on
returns-clause-goes_on c = mirror_goes_on _ _ refl refl

pub returns-clause-reaches : goal.returns-clause-reaches
returns-clause-reaches c = λ w is. (w, refl, is)
