use Rattle.point_copy.proofs.Causes.{lost_for_cause, lost_is_told}
use Rattle.point_copy.proofs.law.lost_is_told.Goals as goal

pub returns : goal.returns
returns c = record { lost = λ s t e. lost_for_cause s t e; told = λ s t due. lost_is_told s t due }
