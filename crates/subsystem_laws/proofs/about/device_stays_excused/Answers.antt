use Rattle.subsystem_laws.proofs.Excusable.{excused_of}
use Rattle.subsystem_laws.proofs.about.device_stays_excused.Goals as goal

pub returns : goal.returns
returns c = λ first d about never failed cache. excused_of d about never failed cache
