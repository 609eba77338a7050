use Rattle.subsystem_laws.proofs.looking.Leaves.{look_finds_plain, look_leaves_own}
use Rattle.subsystem_laws.proofs.looks.look_finds_plain.Goals as goal

pub returns : goal.returns
returns c = record {
  plain = λ s n t m there may. look_finds_plain s n t m there may;
  own = λ s n t m there. look_leaves_own s n t m there;
}
