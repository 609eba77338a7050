use Rattle.device_laws.proofs.WholeParts.{background_whole}
use Rattle.device_laws.proofs.WholeTwins.{whole_linked}
use Rattle.device_laws.proofs.runs.background_is_step.Goals as goal

pub returns : goal.returns
returns g c = λ v w d h others t u z e a i none r tells. whole_linked others h t (λ ok x. x) (background_whole v w d h i none) r tells
