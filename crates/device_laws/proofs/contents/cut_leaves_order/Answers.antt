use Rattle.device_laws.proofs.TwinLaws.{cut_leaves_order}
use Rattle.device_laws.proofs.contents.cut_leaves_order.Goals as goal

pub returns : goal.returns
returns c = cut_leaves_order
