use Rattle.device_laws.proofs.WholeParts.{loss_whole}
use Rattle.device_laws.proofs.WholeTwins.{whole_linked}
use Rattle.device_laws.proofs.runs.loss_is_step.Goals as goal

pub returns : goal.returns
returns g c = λ v w d h others t u z e a loss i r tells. whole_linked others h t (λ ok x. x) (loss_whole v w d h loss i) r tells
