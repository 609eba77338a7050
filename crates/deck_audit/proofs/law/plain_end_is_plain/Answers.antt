use Rattle.deck_audit.proofs.EndLaw.{end_plain}
use Rattle.deck_audit.proofs.law.plain_end_is_plain.Goals as goal

pub returns : goal.returns
returns c a o e plain runs none_waits legal is = end_plain a o plain runs none_waits e legal is
