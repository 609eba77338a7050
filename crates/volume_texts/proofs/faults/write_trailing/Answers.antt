use Rattle.volume_texts.specs.Faults.{trailing_text}
use Rattle.volume_texts.proofs.faults.write_trailing.Goals as goal

pub returns-clause-bytes : goal.returns-clause-bytes
unfolding trailing_text
returns-clause-bytes g c = rw c.from.ensures at c.write_line.ensures.bytes
