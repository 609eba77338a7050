use Rattle.move_laws.proofs.ExactRuns.{run_exactly}
use Rattle.move_laws.proofs.run_moves_exactly.Goals as goal

pub returns : goal.returns
returns c = run_exactly
