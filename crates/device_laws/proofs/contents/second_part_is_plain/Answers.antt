use Rattle.device_laws.proofs.TwinLaws.{second_part_is_plain}
use Rattle.device_laws.proofs.contents.second_part_is_plain.Goals as goal

pub returns : goal.returns
returns c = second_part_is_plain
