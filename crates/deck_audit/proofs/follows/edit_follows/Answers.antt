use Rattle.deck_audit.proofs.ReplayedEnds.{legal_follows, loosens_follows}
use Rattle.deck_audit.proofs.follows.edit_follows.Goals as goal

pub returns-clause-legal : goal.returns-clause-legal
returns-clause-legal c r a o q w f runs waits entry = legal_follows r a o q w f runs waits entry

pub returns-clause-loosens : goal.returns-clause-loosens
returns-clause-loosens c r a o q w f runs waits entry t = loosens_follows r a o q w f runs waits entry t
