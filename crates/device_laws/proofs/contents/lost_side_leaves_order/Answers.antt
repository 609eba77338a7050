use Rattle.device_laws.proofs.TwinLaws.{lost_side_leaves_order}
use Rattle.device_laws.proofs.contents.lost_side_leaves_order.Goals as goal

pub returns : goal.returns
returns c = lost_side_leaves_order
