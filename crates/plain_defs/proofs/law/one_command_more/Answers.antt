use Rattle.plain_defs.proofs.PartLemmas.{part_more}
use Rattle.plain_defs.proofs.law.one_command_more.Goals as goal

pub returns : goal.returns
returns c state path ccws acts k = part_more path ccws acts state k
