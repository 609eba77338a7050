use Rattle.subsystem_defs.specs.Decks.{empty_firsts}
use Rattle.path_top.proofs.laws.unfailing_history_checks_nothing.Goals as goal

pub returns : goal.returns
returns c = c.unfailing_history_on_volumes_checks_nothing.ensures empty_firsts
