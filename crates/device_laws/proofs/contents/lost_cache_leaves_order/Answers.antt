use Rattle.device_laws.proofs.TwinLaws.{lost_cache_leaves_order}
use Rattle.device_laws.proofs.contents.lost_cache_leaves_order.Goals as goal

pub returns : goal.returns
returns c = lost_cache_leaves_order
