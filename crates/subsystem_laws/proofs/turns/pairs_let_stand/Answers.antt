use Rattle.subsystem_laws.proofs.turning.Orders.{joined_stands, split_stands}
use Rattle.subsystem_laws.proofs.turns.pairs_let_stand.Goals as goal

pub returns : goal.returns
returns c = record {
  joined = λ first d u v l s single tells long. joined_stands d u v l tells long single s;
  parted = λ first d u s fault. split_stands d u fault s;
}
