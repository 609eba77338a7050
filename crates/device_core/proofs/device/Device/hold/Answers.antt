use Rattle.std.proofs.Common.{ap}
use Rattle.device_store.specs.Looks.{StoreOf}
use Rattle.device_core.specs.State.{device_of}
use Rattle.device_core.proofs.Ordering.{hold_excused, hold_sound, hold_stays_plain}
use Rattle.device_core.proofs.device.Device.hold.Goals as goal

pub returns-clause-sound : goal.returns-clause-sound
returns-clause-sound g c =
    hold_sound c.args.self.now _ (ap (λ (s : StoreOf). record (device_of c.args.self.now) { store = s }) c.hold.ensures.state) c.hold.ensures.leaves.volume

pub returns-clause-plain : goal.returns-clause-plain
returns-clause-plain g c =
    hold_stays_plain c.args.self.now _ (ap (λ (s : StoreOf). record (device_of c.args.self.now) { store = s }) c.hold.ensures.state) c.hold.ensures.leaves.volume

pub returns-clause-excused : goal.returns-clause-excused
returns-clause-excused g c fault =
    hold_excused c.args.self.now _ (ap (λ (s : StoreOf). record (device_of c.args.self.now) { store = s }) c.hold.ensures.state) c.hold.ensures.leaves.volume fault
