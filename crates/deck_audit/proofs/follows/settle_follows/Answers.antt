use Rattle.deck_audit.proofs.ReplayedActs.{settled_goes_on}
use Rattle.deck_audit.proofs.follows.settle_follows.Goals as goal

pub returns : goal.returns
returns c r a o q w f runs waits entry e plain more = settled_goes_on r a o q w f runs waits entry e plain more
