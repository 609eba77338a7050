use Rattle.deck_audit.proofs.StartLaw.{start_plain}
use Rattle.deck_audit.proofs.law.accepted_start_is_plain.Goals as goal

pub returns : goal.returns
returns c a path n least most plain is = start_plain a path n least most plain is
