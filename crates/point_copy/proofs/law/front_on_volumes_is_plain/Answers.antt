use Rattle.point_copy.proofs.Fronts.{front_is_plain}
use Rattle.point_copy.proofs.law.front_on_volumes_is_plain.Goals as goal

pub returns : goal.returns
returns c = λ firsts whole deck n d m images served there volume is. front_is_plain firsts whole deck n d m images served there volume is
