use Rattle.std.proofs.Common.{[]}
use Rattle.plain_defs.proofs.JournalLaws.{legal_less}
use Rattle.plain_defs.proofs.law.legal_front.Goals as goal

pub returns : goal.returns
returns c plans state items x later = legal_less plans state [] items x later
