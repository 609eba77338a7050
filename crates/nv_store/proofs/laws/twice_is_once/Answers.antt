use Rattle.nv_store.proofs.Again.{applied_again}
use Rattle.nv_store.proofs.laws.twice_is_once.Goals as goal

pub returns : goal.returns
returns c = applied_again
