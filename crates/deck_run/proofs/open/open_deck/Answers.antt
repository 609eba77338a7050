use Rattle.subsystem_defs.specs.Decks.{empty_firsts}
use Rattle.deck_run.proofs.open.open_deck.Goals as goal

pub returns-clause-stands : goal.returns-clause-stands
returns-clause-stands c = λ none. c.in_ok-made.ensures.stands empty_firsts (c.in_ok-volumes.ensures.holds none)
