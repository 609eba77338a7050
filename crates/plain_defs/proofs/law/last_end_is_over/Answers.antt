use Rattle.plain_defs.proofs.PartLemmas.{part_over}
use Rattle.plain_defs.proofs.law.last_end_is_over.Goals as goal

pub returns : goal.returns
returns c state path ccws acts k none = part_over path ccws acts state k none
