use Rattle.std.proofs.Common.{rules}
use Rattle.std.proofs.lemmas.Fn.{filter_same}
use Rattle.plain_device.proofs.loose.keep_others.Goals as goal

pub returns : goal.returns
returns c = filter_same _ _ _ (λ r kept f called. search rules) _ _ c.retain.ensures.filtered
