use Rattle.subsystem_laws.proofs.WholeOrders.{replaced_so}
use Rattle.subsystem_laws.proofs.whole.whole_replaced_is_what_happens.Goals as goal

pub returns : goal.returns
returns c = replaced_so
