use Rattle.keeper_laws.proofs.FirmRuns.{firm_event, firm_look, firm_replaced, firm_unpaired}
use Rattle.keeper_laws.proofs.firm_is_told.Goals as goal

pub returns : goal.returns
returns c = record {
  event = λ s e n m there told one. firm_event n m s there told one e;
  look = λ s d q n m there told. firm_look n m s there told d q;
  replaced = λ s d side volume n m there told. firm_replaced n m s there told d side volume;
  unpaired = λ s d volume n m there told home. firm_unpaired n m s there told home d volume;
}
