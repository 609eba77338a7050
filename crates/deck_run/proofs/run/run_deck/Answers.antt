use Rattle.subsystem_defs.specs.Decks.{empty_firsts}
use Rattle.subsystem_laws.proofs.AllSound.{all_sound}
use Rattle.subsystem_laws.proofs.PlainRuns.{plain_behind}
use Rattle.deck_run.proofs.Ready.{read_devices}
use Rattle.deck_run.proofs.run.run_deck.Goals as goal

pub make_volumes-requires : goal.make_volumes-requires
make_volumes-requires c = read_devices c.requires.0 c.args.deck.now c.requires.1

pub returns-clause-stands : goal.returns-clause-stands
returns-clause-stands c = λ none. c.in_ok-ran.ensures.stands empty_firsts (c.in_ok-volumes.ensures.holds none)

pub returns-clause-lines : goal.returns-clause-lines
returns-clause-lines c = λ none. c.in_ok-ran.ensures.lines empty_firsts (c.in_ok-volumes.ensures.holds none)

pub returns-clause-slots : goal.returns-clause-slots
returns-clause-slots c = λ none. c.in_ok-ran.ensures.slots empty_firsts (c.in_ok-volumes.ensures.holds none)

pub returns-clause-sound : goal.returns-clause-sound
returns-clause-sound c = λ none served.
    all_sound (c.in_ok-ran.ensures.stands empty_firsts (c.in_ok-volumes.ensures.holds none)).mounted (plain_behind c.args.deck.now served)

pub returns-clause-transfers : goal.returns-clause-transfers
returns-clause-transfers c = c.in_ok-ran.ensures.transfers empty_firsts
