use Rattle.std.proofs.Common.{true, false}
use Rattle.subsystem_laws.proofs.turning.Orders.{held_stands, replaced_stands}
use Rattle.subsystem_laws.proofs.turns.orders_let_stand.Goals as goal

pub returns : goal.returns
returns c = record {
  held = λ first d u s fault. held_stands d u true (λ e. fault) s;
  resumed = λ first d u s. held_stands d u false (λ e. absurd (cc)) s;
  replaced = λ first d u side v l s fault tells long. replaced_stands d u v l tells long side s fault;
}
