use Rattle.device_laws.proofs.counted.Seconds.{second_came}
use Rattle.device_laws.proofs.seen.second_ends_as_kept.Goals as goal

pub returns : goal.returns
returns g c = λ d e o chain h bypass edit u z a half from running at r. second_came _ _ d o chain h bypass edit half from running at r
