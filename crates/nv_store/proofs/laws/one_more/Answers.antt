use Rattle.nv_store.proofs.OneMore.{one_more}
use Rattle.nv_store.proofs.laws.one_more.Goals as goal

pub returns : goal.returns
returns c = one_more
