use Rattle.device_laws.proofs.TwinLaws.{lost_store_leaves_order}
use Rattle.device_laws.proofs.contents.lost_store_leaves_order.Goals as goal

pub returns : goal.returns
returns c = lost_store_leaves_order
