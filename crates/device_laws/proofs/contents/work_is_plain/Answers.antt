use Rattle.device_laws.proofs.TwinLaws.{work_is_plain}
use Rattle.device_laws.proofs.contents.work_is_plain.Goals as goal

pub returns : goal.returns
returns c = work_is_plain
