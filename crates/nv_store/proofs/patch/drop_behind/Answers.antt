use Rattle.std.proofs.Common.{rules}
use Rattle.std.proofs.lemmas.Fn.{filter_same}
use Rattle.nv_store.proofs.patch.drop_behind.Goals as goal

pub returns : goal.returns
returns c = filter_same _ _ _ (λ r kept f called. search rules) _ _ c.retain.ensures.filtered
