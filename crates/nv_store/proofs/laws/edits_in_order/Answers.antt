use Rattle.nv_store.proofs.InOrder.{in_order}
use Rattle.nv_store.proofs.laws.edits_in_order.Goals as goal

pub returns : goal.returns
returns c = in_order
