use Rattle.subsystem_defs.specs.Decks.{empty_firsts}
use Rattle.subsystem_laws.proofs.ReadDecks.{read_served, read_numbered}
use Rattle.subsystem_laws.proofs.Waiting.{run_tells_of_waiting}
use Rattle.subsystem_laws.proofs.waits.read_repairs_count_waiting.Goals as goal

pub returns : goal.returns
returns c = λ text deck read. run_tells_of_waiting empty_firsts deck (read_served text deck read) (read_numbered text deck read)
