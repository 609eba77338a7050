use Rattle.std.proofs.Common.{[], ◌∷◌}
use Rattle.plain_defs.proofs.JournalLaws.{replay-append}
use Rattle.plain_defs.proofs.law.replays_one_more.Goals as goal

pub returns : goal.returns
returns c plans state items x = replay-append plans state items (x ∷ [])
