-- firm_is_written
use Rattle.firm_laws.proofs.StillPlain.{plain_there}
use Rattle.firm_laws.proofs.WrittenRuns.{written_event, written_look, written_replaced, written_unpaired}
use Rattle.firm_laws.proofs.firm_is_written.Goals as goal

pub returns : goal.returns
returns c = record {
  event = λ firsts s e n m p there told one. written_event firsts n m s there told (plain_there firsts s p n m there) one e;
  look = λ firsts s d q n m p there told. written_look firsts n m s there told (plain_there firsts s p n m there) d q;
  replaced = λ firsts s d side volume n m p there told.
      written_replaced firsts n m s there told (plain_there firsts s p n m there) d side volume;
  unpaired = λ firsts s d volume n m p there told. written_unpaired firsts n m s there told (plain_there firsts s p n m there) d volume;
}
