use Rattle.plain_defs.proofs.JournalLaws.{replay-append}
use Rattle.plain_defs.proofs.law.replays_on.Goals as goal

pub returns : goal.returns
returns c plans state items later = replay-append plans state items later
