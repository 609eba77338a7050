use Rattle.device_laws.proofs.NewDevices.{new_in_order, new_marks}
use Rattle.device_laws.proofs.contents.new_device_is_in_order.Goals as goal

pub returns : goal.returns
returns c = record { order = new_in_order; marks = new_marks }
