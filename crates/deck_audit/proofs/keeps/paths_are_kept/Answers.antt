use Rattle.deck_audit.proofs.KeptPaths.{counts_kept, next_keeps, settled_keeps, used_kept}
use Rattle.deck_audit.proofs.keeps.paths_are_kept.Goals as goal

pub returns-clause-used : goal.returns-clause-used
returns-clause-used c r a k path least most = used_kept r a k path least most

pub returns-clause-next : goal.returns-clause-next
returns-clause-next c r h k = next_keeps r h k

pub returns-clause-settled : goal.returns-clause-settled
returns-clause-settled c r h k = settled_keeps r h k

pub returns-clause-counts : goal.returns-clause-counts
returns-clause-counts c r a k path least most = counts_kept r a k path least most

pub returns-clause-waits : goal.returns-clause-waits
returns-clause-waits c r h k = k.waits
