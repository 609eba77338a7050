use Rattle.audit_laws.proofs.FirstFaults.{yes_good}
use Rattle.audit_laws.proofs.law.yes_tells_of_no_fault.Goals as goal

pub returns : goal.returns
returns c = yes_good
