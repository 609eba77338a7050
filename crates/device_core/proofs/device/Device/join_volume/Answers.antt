use Rattle.device_core.proofs.Halves.{none_by}
use Rattle.std.proofs.Common.{ap}
use Rattle.device_store.specs.Looks.{StoreOf}
use Rattle.device_core.specs.State.{device_of}
use Rattle.device_core.proofs.Ordering.{join_excused, join_sound, join_stays_plain}
use Rattle.device_core.proofs.device.Device.join_volume.Goals as goal

pub join-requires-clause-here : goal.join-requires-clause-here
join-requires-clause-here g c = none_by c.args.self.now.store.pair.lent c.requires.here

pub returns-clause-sound : goal.returns-clause-sound
returns-clause-sound g c tells single =
    join_sound c.args.self.now _ c.args.volume tells single
    (ap (λ (s : StoreOf). record (device_of c.args.self.now) { store = s }) c.join.ensures.state) c.join.ensures.a c.join.ensures.b

pub returns-clause-plain : goal.returns-clause-plain
returns-clause-plain g c tells single =
    join_stays_plain c.args.self.now _ c.args.volume tells single
    (ap (λ (s : StoreOf). record (device_of c.args.self.now) { store = s }) c.join.ensures.state) c.join.ensures.a c.join.ensures.b

pub returns-clause-excused : goal.returns-clause-excused
returns-clause-excused g c tells single =
    join_excused c.args.self.now _ c.args.volume tells single
    (ap (λ (s : StoreOf). record (device_of c.args.self.now) { store = s }) c.join.ensures.state) c.join.ensures.a c.join.ensures.b
