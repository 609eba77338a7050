use Rattle.device_laws.proofs.counted.Commands.{command_came}
use Rattle.device_laws.proofs.seen.command_ends_as_seen.Goals as goal

pub returns : goal.returns
returns g c = λ d e o chain u z a running at runs r. command_came _ _ d o chain runs running at r
