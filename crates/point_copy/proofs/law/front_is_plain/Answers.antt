use Rattle.subsystem_defs.specs.Decks.{empty_firsts}
use Rattle.subsystem_laws.proofs.PlainRuns.{empty_whole}
use Rattle.point_copy.proofs.Fronts.{front_is_plain}
use Rattle.point_copy.proofs.law.front_is_plain.Goals as goal

pub returns : goal.returns
returns c = λ deck n d m images served there volume is. front_is_plain empty_firsts empty_whole deck n d m images served there volume is
