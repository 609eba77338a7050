use Rattle.std.proofs.Common.{ap}
use Rattle.device_store.specs.Looks.{StoreOf}
use Rattle.device_core.specs.State.{device_of}
use Rattle.device_core.proofs.Ordering.{resume_excused, resume_sound, resume_stays_plain}
use Rattle.device_core.proofs.device.Device.resume.Goals as goal

pub returns-clause-sound : goal.returns-clause-sound
returns-clause-sound g c =
    resume_sound c.args.self.now _ (ap (λ (s : StoreOf). record (device_of c.args.self.now) { store = s }) c.resume.ensures.state) c.resume.ensures.leaves.volume

pub returns-clause-plain : goal.returns-clause-plain
returns-clause-plain g c =
    resume_stays_plain c.args.self.now _ (ap (λ (s : StoreOf). record (device_of c.args.self.now) { store = s }) c.resume.ensures.state) c.resume.ensures.leaves.volume

pub returns-clause-excused : goal.returns-clause-excused
returns-clause-excused g c =
    resume_excused c.args.self.now _ (ap (λ (s : StoreOf). record (device_of c.args.self.now) { store = s }) c.resume.ensures.state) c.resume.ensures.leaves.volume
