use Rattle.subsystem_defs.specs.Decks.{empty_firsts}
use Rattle.subsystem_laws.proofs.PlainRuns.{empty_whole}
use Rattle.subsystem_laws.proofs.PromisedRuns.{promised_on}
use Rattle.subsystem_laws.proofs.promised.read_run_is_promised.Goals as goal

pub returns : goal.returns
returns c = promised_on empty_firsts empty_whole
