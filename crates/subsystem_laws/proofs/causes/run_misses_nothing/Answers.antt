use Rattle.subsystem_defs.specs.Decks.{empty_firsts}
use Rattle.subsystem_laws.proofs.NothingMissed.{run_misses_nothing}
use Rattle.subsystem_laws.proofs.causes.run_misses_nothing.Goals as goal

pub returns : goal.returns
returns c = run_misses_nothing empty_firsts
