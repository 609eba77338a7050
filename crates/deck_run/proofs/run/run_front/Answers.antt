use Rattle.subsystem_defs.specs.Decks.{empty_firsts}
use Rattle.deck_run.proofs.Ready.{read_devices}
use Rattle.deck_run.proofs.run.run_front.Goals as goal

pub make_volumes-requires : goal.make_volumes-requires
make_volumes-requires c = read_devices c.requires.read.0 c.args.deck.now c.requires.read.1

pub returns-clause-stands : goal.returns-clause-stands
returns-clause-stands c = λ none. c.in_ok-ran.ensures.stands empty_firsts (c.in_ok-volumes.ensures.holds none)
