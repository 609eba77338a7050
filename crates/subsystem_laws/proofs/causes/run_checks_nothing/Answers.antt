use Rattle.subsystem_defs.specs.Decks.{empty_firsts}
use Rattle.subsystem_laws.proofs.NothingChecked.{run_checks_nothing}
use Rattle.subsystem_laws.proofs.causes.run_checks_nothing.Goals as goal

pub returns : goal.returns
returns c = run_checks_nothing empty_firsts
