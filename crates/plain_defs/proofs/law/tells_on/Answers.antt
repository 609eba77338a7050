use Rattle.plain_defs.proofs.JournalLaws.{told-append}
use Rattle.plain_defs.proofs.law.tells_on.Goals as goal

pub returns : goal.returns
returns c plans state items later = told-append plans state items later
