use Rattle.std.proofs.Common.{◌∙◌, ap}
use Rattle.device_defs.specs.Store.{SideMarks}
use Rattle.device_store.proofs.Orders.{side_is}
use Rattle.device_store.proofs.store.DeviceStore.is_up.Goals as goal

pub returns : goal.returns
returns g c = c.is_up.ensures ∙ ap (λ (m : SideMarks). m.up) (side_is c.args.self.now c.args.side)
