use Rattle.device_laws.proofs.TwinLaws.{image_is_plain}
use Rattle.device_laws.proofs.contents.image_is_plain.Goals as goal

pub returns : goal.returns
returns c = image_is_plain
