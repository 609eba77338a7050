use Rattle.line_drive.proofs.Same.{driven_same}
use Rattle.line_drive.proofs.law.driven_is_run.Goals as goal

pub returns : goal.returns
returns g c = λ xs s. driven_same xs s
