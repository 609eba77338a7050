use Rattle.subsystem_laws.proofs.WholeHappens.{events_so}
use Rattle.subsystem_laws.proofs.whole.whole_events_are_what_happens.Goals as goal

pub returns : goal.returns
returns g c = λ es p q xs ys ms ends all runs. events_so _ es p q xs ys ms ends all runs
