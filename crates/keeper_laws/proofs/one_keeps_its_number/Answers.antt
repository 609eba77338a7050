use Rattle.keeper_laws.proofs.FirmNumbers.{one_event, one_look}
use Rattle.keeper_laws.proofs.one_keeps_its_number.Goals as goal

pub returns : goal.returns
returns c = record {
  event = λ s e n one. one_event s n e one;
  look = λ s d q n one. one_look s n d q one;
}
