use Rattle.move_laws.proofs.FastRuns.{run_ends_fast_writes}
use Rattle.move_laws.proofs.fast_writes_are_not_checked.Goals as goal

pub returns : goal.returns
returns c = run_ends_fast_writes
