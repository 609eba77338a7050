use Rattle.audit_laws.proofs.FirstFaults.{no_bad}
use Rattle.audit_laws.proofs.law.no_tells_the_first_fault.Goals as goal

pub returns : goal.returns
returns c = no_bad
