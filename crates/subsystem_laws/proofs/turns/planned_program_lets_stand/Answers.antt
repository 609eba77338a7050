use Rattle.subsystem_laws.proofs.turning.Planned.{planned_beside, planned_stands}
use Rattle.subsystem_laws.proofs.turns.planned_program_lets_stand.Goals as goal

pub returns : goal.returns
returns c = record {
  beside = λ first d u path program gives s. planned_beside d u path program gives s;
  stands = λ first d u path program gives s. planned_stands d u path program gives s;
}
