use Rattle.subsystem_defs.specs.Decks.{empty_firsts}
use Rattle.subsystem_laws.proofs.Waiting.{run_tells_of_waiting}
use Rattle.subsystem_laws.proofs.waits.repairs_count_waiting.Goals as goal

pub returns : goal.returns
returns c = run_tells_of_waiting empty_firsts
