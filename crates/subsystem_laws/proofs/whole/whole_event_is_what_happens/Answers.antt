use Rattle.subsystem_laws.proofs.WholeHappens.{event_so}
use Rattle.subsystem_laws.proofs.whole.whole_event_is_what_happens.Goals as goal

pub returns : goal.returns
returns g c = λ e p q xs ys ms end all chains came. event_so _ p q xs ys ms end all e chains came
