use Rattle.std.proofs.Common.{subst}
use Rattle.path_workers.specs.Ordered.{Suits}
use Rattle.path_workers.proofs.KeptOrders.{ordered_where}
use Rattle.path_workers.proofs.device_orders.order.Goals as goal

pub returns-in-Fail : goal.returns-in-Fail
returns-in-Fail g c = ordered_where (λ p is. is.0) c.fail.ensures

pub returns-in-Suspend : goal.returns-in-Suspend
returns-in-Suspend g c = ordered_where (λ p is. is.0) c.suspend.ensures

pub returns-in-Resume : goal.returns-in-Resume
returns-in-Resume g c = ordered_where (λ p is. is.0) c.resume.ensures

pub returns-in-Replace : goal.returns-in-Replace
returns-in-Replace g c = ordered_where (λ p is. subst (λ o. Suits g.V.Volume.view o p) c.in-Replace.is is.1) c.replace.ensures
