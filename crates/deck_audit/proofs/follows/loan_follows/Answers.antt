use Rattle.deck_audit.proofs.ReplayedResets.{fresh_follows}
use Rattle.deck_audit.proofs.follows.loan_follows.Goals as goal

pub returns : goal.returns
returns c r a f idle = fresh_follows r a f idle
