use Rattle.deck_audit.proofs.StartedPaths.{started_follows, started_keeps}
use Rattle.deck_audit.proofs.keeps.started_is_kept.Goals as goal

pub returns-clause-follows : goal.returns-clause-follows
returns-clause-follows c r a f k waits_not path n least most is = started_follows r a f k waits_not path n least most is

pub returns-clause-keeps : goal.returns-clause-keeps
returns-clause-keeps c r a f k waits_not path n least most is = started_keeps r a f k waits_not path n least most is
