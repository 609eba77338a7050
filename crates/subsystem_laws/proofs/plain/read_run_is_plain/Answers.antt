use Rattle.subsystem_laws.proofs.PlainRuns.{run_plainly}
use Rattle.subsystem_laws.proofs.ReadDecks.{read_served}
use Rattle.subsystem_laws.proofs.plain.read_run_is_plain.Goals as goal

pub returns : goal.returns
returns c = λ text deck read. run_plainly deck (read_served text deck read)
