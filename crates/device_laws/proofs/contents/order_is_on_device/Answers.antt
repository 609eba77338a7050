use Rattle.device_laws.proofs.OrdersStand.{order_stands}
use Rattle.device_laws.proofs.contents.order_is_on_device.Goals as goal

pub returns : goal.returns
returns c = λ f s w o on e. order_stands f s on w o e
