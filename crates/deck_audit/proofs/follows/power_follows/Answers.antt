use Rattle.deck_audit.proofs.ReplayedResets.{cut_by_power_follows, cut_more_by_power_follows, power_follows}
use Rattle.deck_audit.proofs.follows.power_follows.Goals as goal

pub returns-clause-cut : goal.returns-clause-cut
returns-clause-cut c r a o q f runs waits_not entry resets = cut_by_power_follows r a o q f runs waits_not entry resets

pub returns-clause-more : goal.returns-clause-more
returns-clause-more c r a o q w f runs waits entry e plain resets =
    cut_more_by_power_follows r a o q w f runs waits entry e plain resets

pub returns-clause-idle : goal.returns-clause-idle
returns-clause-idle c r a f idle powered = power_follows r a f idle powered
