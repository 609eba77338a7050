use Rattle.deck_audit.proofs.KeptPaths.{act_keeps, check_keeps, end_keeps, fresh_keeps, over_keeps}
use Rattle.deck_audit.proofs.keeps.ended_is_kept.Goals as goal

pub returns-clause-act : goal.returns-clause-act
returns-clause-act c r h act k = act_keeps r h k act

pub returns-clause-fresh : goal.returns-clause-fresh
returns-clause-fresh c r h k = fresh_keeps r h k

pub returns-clause-more : goal.returns-clause-more
returns-clause-more c r h o e k open_is more = end_keeps r h o k open_is e more

pub returns-clause-over : goal.returns-clause-over
returns-clause-over c r h o e k open_is over = over_keeps r h o k open_is e over

pub returns-clause-check : goal.returns-clause-check
returns-clause-check c r h o e k open_is = check_keeps r h o k open_is e
