use Rattle.keeper_laws.proofs.Quiet.{untold_event, quiet_look, quiet_replaced, quiet_unpaired}
use Rattle.keeper_laws.proofs.untold_stays_quiet.Goals as goal

pub returns : goal.returns
returns c = record {
  event = λ s e n t m there quiet none. untold_event n t m s there quiet e none;
  look = λ s d q n t m there quiet. quiet_look n t m s there quiet d q;
  replaced = λ s d side volume n t m there quiet. quiet_replaced n t m s there quiet d side volume;
  unpaired = λ s d volume n t m there home quiet. quiet_unpaired n t m s there quiet home d volume;
}
