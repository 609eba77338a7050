use Rattle.device_laws.proofs.TwinLaws.{held_side_leaves_order}
use Rattle.device_laws.proofs.contents.held_side_leaves_order.Goals as goal

pub returns : goal.returns
returns c = held_side_leaves_order
