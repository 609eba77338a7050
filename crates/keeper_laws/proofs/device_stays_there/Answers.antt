use Rattle.keeper_laws.proofs.There.{there_event, there_look, there_replaced, there_unpaired}
use Rattle.keeper_laws.proofs.device_stays_there.Goals as goal

pub returns : goal.returns
returns c = record {
  event = λ s e n m there. there_event n m s there e;
  look = λ s d q n m there. there_look n m s there d q;
  replaced = λ s d side volume n m there. there_replaced n m s there d side volume;
  unpaired = λ s d volume n m there. there_unpaired n m s there d volume;
}
