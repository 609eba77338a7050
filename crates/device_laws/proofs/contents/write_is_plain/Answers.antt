use Rattle.device_laws.proofs.TwinLaws.{write_is_plain}
use Rattle.device_laws.proofs.contents.write_is_plain.Goals as goal

pub returns : goal.returns
returns c = write_is_plain
