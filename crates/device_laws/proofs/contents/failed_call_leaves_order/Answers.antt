use Rattle.device_laws.proofs.TwinLaws.{failed_call_leaves_order}
use Rattle.device_laws.proofs.contents.failed_call_leaves_order.Goals as goal

pub returns : goal.returns
returns c = failed_call_leaves_order
