use Rattle.device_laws.proofs.TwinLaws.{command_goes_as_fed}
use Rattle.device_laws.proofs.contents.command_goes_as_fed.Goals as goal

pub returns : goal.returns
returns c = command_goes_as_fed
