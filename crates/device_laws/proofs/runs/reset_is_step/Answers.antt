use Rattle.device_laws.proofs.WholeParts.{reset_whole}
use Rattle.device_laws.proofs.WholeTwins.{whole_linked}
use Rattle.device_laws.proofs.runs.reset_is_step.Goals as goal

pub returns : goal.returns
returns g c = λ v w d h others t u z e a path i r tells.
    whole_linked others h t (λ ok x. x) (reset_whole v w d h path i (λ hw is. (i.opened hw is).suits)) r tells
