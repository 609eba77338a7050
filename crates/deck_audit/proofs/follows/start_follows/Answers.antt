use Rattle.deck_audit.proofs.ReplayedStarts.{answer_follows}
use Rattle.deck_audit.proofs.follows.start_follows.Goals as goal

pub returns : goal.returns
returns c r a f counts path least most = answer_follows r a f counts path least most
