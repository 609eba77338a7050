use Rattle.std.proofs.Common.{true, false}
use Rattle.subsystem_laws.proofs.turning.Orders.{held_beside, replaced_beside}
use Rattle.subsystem_laws.proofs.turns.orders_leave_it_beside.Goals as goal

pub returns : goal.returns
returns c = record {
  held = λ first d u s. (held_beside d u true s, held_beside d u false s);
  replaced = λ first d u side v l s down paired tells long. replaced_beside d u v l tells long side s down paired;
}
