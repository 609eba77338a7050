use Rattle.subsystem_defs.specs.Decks.{empty_firsts}
use Rattle.subsystem_laws.proofs.DataChecks.{run_has_no_data_check}
use Rattle.subsystem_laws.proofs.causes.run_has_no_data_check.Goals as goal

pub returns : goal.returns
returns c = run_has_no_data_check empty_firsts
