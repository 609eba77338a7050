use Rattle.report_audit.proofs.Whole.{told}
use Rattle.report_audit.proofs.top.audit.Goals as goal

pub returns-in-Ok-clause-told : goal.returns-in-Ok-clause-told
returns-in-Ok-clause-told g c = told c.in-Ok.status _ _ _ _ _ c.in-Ok.ensures.answer c.in-Ok.ensures.told c.tell.ensures.told
