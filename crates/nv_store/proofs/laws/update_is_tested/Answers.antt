use Rattle.nv_store.proofs.Revisions.{update_says}
use Rattle.nv_store.proofs.laws.update_is_tested.Goals as goal

pub returns : goal.returns
returns c = update_says
