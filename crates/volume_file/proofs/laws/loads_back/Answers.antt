use Rattle.volume_file.proofs.Through.{loads_back}
use Rattle.volume_file.proofs.laws.loads_back.Goals as goal

pub returns : goal.returns
returns c = loads_back
