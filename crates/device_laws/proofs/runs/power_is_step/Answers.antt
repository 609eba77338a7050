use Rattle.device_laws.proofs.WholePower.{power_whole}
use Rattle.device_laws.proofs.WholeTwins.{whole_linked}
use Rattle.device_laws.proofs.runs.power_is_step.Goals as goal

pub returns : goal.returns
returns g c = λ v w d h others t u z e a i r tells. whole_linked others h t (λ ok x. x) (power_whole v w d h i) r tells
