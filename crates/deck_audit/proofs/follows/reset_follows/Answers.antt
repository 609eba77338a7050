use Rattle.deck_audit.proofs.ReplayedResets.{cut_follows, cut_more_follows, reset_follows}
use Rattle.deck_audit.proofs.follows.reset_follows.Goals as goal

pub returns-clause-cut : goal.returns-clause-cut
returns-clause-cut c r a o q f runs waits_not entry resets = cut_follows r a o q f runs waits_not entry resets

pub returns-clause-more : goal.returns-clause-more
returns-clause-more c r a o q w f runs waits entry e plain resets = cut_more_follows r a o q w f runs waits entry e plain resets

pub returns-clause-idle : goal.returns-clause-idle
returns-clause-idle c r a f idle path more used = reset_follows r a f idle path more used
