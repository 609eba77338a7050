use Rattle.std.proofs.Common.{ap}
use Rattle.device_store.specs.Looks.{StoreOf}
use Rattle.device_core.specs.State.{device_of}
use Rattle.device_core.proofs.Ordering.{part_excused, part_sound, part_stays_plain}
use Rattle.device_core.proofs.device.Device.split.Goals as goal

pub returns-clause-sound : goal.returns-clause-sound
returns-clause-sound g c fault =
    part_sound c.args.self.now _ fault (ap (λ (s : StoreOf). record (device_of c.args.self.now) { store = s }) c.split.ensures.state) c.split.ensures.a c.split.ensures.b

pub returns-clause-plain : goal.returns-clause-plain
returns-clause-plain g c fault =
    part_stays_plain c.args.self.now _ fault (ap (λ (s : StoreOf). record (device_of c.args.self.now) { store = s }) c.split.ensures.state) c.split.ensures.a c.split.ensures.b

pub returns-clause-excused : goal.returns-clause-excused
returns-clause-excused g c fault =
    part_excused c.args.self.now _ fault (ap (λ (s : StoreOf). record (device_of c.args.self.now) { store = s }) c.split.ensures.state) c.split.ensures.a c.split.ensures.b
