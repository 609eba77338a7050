use Rattle.deck_text.specs.Canonical.{head_text}
use Rattle.deck_text.proofs.write_lines.write_head.Goals as goal

pub returns-clause-bytes : goal.returns-clause-bytes
unfolding head_text
returns-clause-bytes g c = rw (c.from.ensures, c.from-2.ensures) at c.write_pieces.ensures.bytes
