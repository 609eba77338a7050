use Rattle.subsystem_defs.specs.Decks.{empty_firsts}
use Rattle.subsystem_laws.proofs.MovedRuns.{run_moves}
use Rattle.subsystem_laws.proofs.transfers.run_moves_by_table.Goals as goal

pub returns : goal.returns
returns c = λ deck. run_moves empty_firsts deck
