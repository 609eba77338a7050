use Rattle.deck_audit.proofs.ReplayedEnds.{end_follows, ended_follows}
use Rattle.deck_audit.proofs.follows.end_follows.Goals as goal

pub returns-clause-end : goal.returns-clause-end
returns-clause-end c r a o q f runs waits_not entry = end_follows r a o q f runs waits_not entry

pub returns-clause-follows : goal.returns-clause-follows
returns-clause-follows c r a o q f runs waits_not entry = ended_follows r a o q f runs waits_not entry
