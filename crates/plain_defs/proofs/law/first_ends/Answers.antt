use Rattle.plain_defs.proofs.PartLemmas.{part_front}
use Rattle.plain_defs.proofs.law.first_ends.Goals as goal

pub returns : goal.returns
returns c state path ccws acts k n le = part_front path ccws acts state k n le
