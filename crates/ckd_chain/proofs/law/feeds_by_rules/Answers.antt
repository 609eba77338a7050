use Rattle.ckd_chain.proofs.Feeding.{chain_fed}
use Rattle.ckd_chain.proofs.law.feeds_by_rules.Goals as goal

pub returns : goal.returns
returns c n tracks answer s none = chain_fed tracks answer n s none
