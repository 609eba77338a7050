use Rattle.deck_audit.proofs.ReplayedCloses.{check_follows, over_follows}
use Rattle.deck_audit.proofs.follows.over_follows.Goals as goal

pub returns-clause-full : goal.returns-clause-full
returns-clause-full c r a o q w f runs waits entry e plain resets over = over_follows r a o q w f runs waits entry e plain resets over

pub returns-clause-check : goal.returns-clause-check
returns-clause-check c r a o q w f runs waits entry e sense sense_is resets =
    check_follows r a o q w f runs waits entry e sense sense_is resets
