use Rattle.std.proofs.Common.{subst}
use Rattle.path_workers.specs.Ordered.{HaveLosses, IsOrdered, Suits}
use Rattle.path_threads.proofs.operator.order_held.Goals as goal

pub returns : goal.returns
returns g c =
    subst (λ d. IsOrdered (λ p. HaveLosses c.args.most p × Suits g.V.Volume.view c.args.what p) d c.order.new.device) c.deref_mut.ensures.value c.order.ensures
