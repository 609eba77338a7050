use Rattle.keeper_laws.proofs.Hears.{event_is_heard, event_came}
use Rattle.keeper_laws.proofs.event_is_heard.Goals as goal

pub returns : goal.returns
returns g c = record {
  heard = λ e p q keeper later xs ys ms end all chains came. event_is_heard _ e p q keeper later xs ys ms end all chains came;
  came = λ e p q keeper later xs ys end came. event_came _ e p q keeper later xs ys end came;
}
