use Rattle.std.proofs.Common.{[]}
use Rattle.plain_defs.proofs.JournalLaws.{legal_more}
use Rattle.plain_defs.proofs.law.legal_with_one_more.Goals as goal

pub returns : goal.returns
returns c plans state items x = legal_more plans state [] items x
