use Rattle.device_defs.specs.Contents.{contents}
use Rattle.device_laws.proofs.LossLaws.{command_checks_nothing}
use Rattle.device_laws.proofs.TrackMarks.{device_is_faithful}
use Rattle.device_laws.proofs.losses.calm_command_checks_nothing.Goals as goal

pub returns : goal.returns
returns g c = λ d e u z a good none chains calm un lt r same.
    command_checks_nothing contents device_is_faithful d good none chains calm un lt r same
