use Rattle.deck_audit.proofs.ReplayedResets.{half_is_followed, loan_is_followed, wait_follows}
use Rattle.deck_audit.proofs.follows.half_follows.Goals as goal

pub returns-clause-half : goal.returns-clause-half
returns-clause-half c r a f half = half_is_followed r a f half

pub returns-clause-loan : goal.returns-clause-loan
returns-clause-loan c r a f of = loan_is_followed r a f of

pub returns-clause-waiting : goal.returns-clause-waiting
returns-clause-waiting c r a o f entry path more unlike used = wait_follows r a f o path more entry unlike used
