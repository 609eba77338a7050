use Rattle.subsystem_laws.proofs.looking.Leaves.{fault_is, fault_has_failed, lost_is_lost, lost_is_found}
use Rattle.subsystem_laws.proofs.looks.fault_has_failed.Goals as goal

pub returns : goal.returns
returns c = record {
  fault = λ s n t m side there e. fault_is s n t m there side e;
  sound = λ s n t m side there marks off e. fault_has_failed s n t m side there marks off e;
  lost = λ s n t m there e. lost_is_lost s n t m there e;
  found = λ s n t m there lost. lost_is_found s n t m there lost;
}
