use Rattle.subsystem_core.proofs.Found.{found, is_at}
use Rattle.subsystem_core.proofs.subsystem.Subsystem.device.Goals as goal

pub returns : goal.returns
returns g c =
    let ds = c.args.self.now.devices.items in
    found ds c.args.d c.place.result c.index.result.now c.args.self.now.rising
    (is_at ds c.args.d c.place.result c.index.result.now c.place.ensures.range c.place.ensures.found c.index.ensures)
