use Rattle.audit_laws.proofs.own.OwnTexts.{own_text_is_yes}
use Rattle.audit_laws.proofs.own_report.own_text_is_yes.Goals as goal

pub returns : goal.returns
returns c = own_text_is_yes c.reads_back.ensures.again
