use Rattle.device_laws.proofs.NewDevices.{empty_is_contents, in_order_on, marks_on}
use Rattle.device_laws.proofs.contents.device_on_volume_is_in_order.Goals as goal

pub returns : goal.returns
returns c = record { order = in_order_on; marks = marks_on; empty = empty_is_contents }
