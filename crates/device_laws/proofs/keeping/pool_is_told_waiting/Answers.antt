use Rattle.device_defs.specs.Contents.{contents}
use Rattle.device_laws.proofs.KeepLaws.{command_waits, second_waits, background_waits, loss_waits, power_waits, peek_waits}
use Rattle.device_laws.proofs.keeping.pool_is_told_waiting.Goals as goal

pub returns : goal.returns
returns g c = record {
  command = λ d e u z a number r. command_waits contents _ d number r;
  second = λ d e u z a number r. second_waits contents _ d e u z number a r;
  background = λ d e u z a number r. background_waits contents _ d e u z number a r;
  lose = λ d e u z a loss number r. loss_waits contents _ d e u z number loss a r;
  power = λ d e u z a number r. power_waits contents _ d e u z number a r;
  peek = λ d e u z a t number r. peek_waits contents _ d e u z number t a r;
}
