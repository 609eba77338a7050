use Rattle.device_laws.proofs.TwinLaws.{end_leaves_order}
use Rattle.device_laws.proofs.contents.end_leaves_order.Goals as goal

pub returns : goal.returns
returns c = end_leaves_order
