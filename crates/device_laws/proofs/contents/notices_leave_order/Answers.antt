use Rattle.device_laws.proofs.TwinLaws.{notices_leave_order}
use Rattle.device_laws.proofs.contents.notices_leave_order.Goals as goal

pub returns : goal.returns
returns c = notices_leave_order
