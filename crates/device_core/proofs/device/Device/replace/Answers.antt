use Rattle.device_core.proofs.Halves.{none_by}
use Rattle.std.proofs.Common.{ap}
use Rattle.device_store.specs.Looks.{StoreOf}
use Rattle.device_core.specs.State.{device_of}
use Rattle.device_core.proofs.Ordering.{replace_excused, replace_sound, replace_stays_plain}
use Rattle.device_core.proofs.device.Device.replace.Goals as goal

pub replace-requires-clause-here : goal.replace-requires-clause-here
replace-requires-clause-here g c = none_by c.args.self.now.store.pair.lent c.requires.here

pub returns-clause-sound : goal.returns-clause-sound
returns-clause-sound g c tells down =
    replace_sound c.args.self.now _ c.args.side c.args.volume tells
    (ap (λ (s : StoreOf). record (device_of c.args.self.now) { store = s }) c.replace.ensures.state)
    c.replace.ensures.volume c.replace.ensures.other c.requires.there down

pub returns-clause-plain : goal.returns-clause-plain
returns-clause-plain g c tells down =
    replace_stays_plain c.args.self.now _ c.args.side c.args.volume tells
    (ap (λ (s : StoreOf). record (device_of c.args.self.now) { store = s }) c.replace.ensures.state)
    c.replace.ensures.volume c.replace.ensures.other c.requires.there down

pub returns-clause-excused : goal.returns-clause-excused
returns-clause-excused g c tells fault =
    replace_excused c.args.self.now _ c.args.side c.args.volume tells
    (ap (λ (s : StoreOf). record (device_of c.args.self.now) { store = s }) c.replace.ensures.state)
    c.replace.ensures.volume c.replace.ensures.other fault
