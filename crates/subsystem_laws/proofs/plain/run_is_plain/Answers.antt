use Rattle.subsystem_laws.proofs.PlainRuns.{run_plainly}
use Rattle.subsystem_laws.proofs.plain.run_is_plain.Goals as goal

pub returns : goal.returns
returns c = run_plainly
