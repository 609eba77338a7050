-- firm_is_written_so_far
use Rattle.firm_laws.proofs.WrittenSoFar.{firm_all, written_all}
use Rattle.firm_laws.proofs.firm_is_written_so_far.Goals as goal

pub returns : goal.returns
returns c = record {
  writes = λ firsts s es n m p there told one all. written_all firsts n es s m p there told one all;
  firm = λ s es n m there told one. firm_all n es s m there told one;
}
