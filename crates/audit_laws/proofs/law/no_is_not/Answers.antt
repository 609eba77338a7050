use Rattle.audit_laws.proofs.Refusals.{refused}
use Rattle.audit_laws.proofs.law.no_is_not.Goals as goal

pub returns : goal.returns
returns c = refused
