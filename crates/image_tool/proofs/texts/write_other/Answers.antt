use Rattle.image_tool.specs.Texts.{other_text}
use Rattle.image_tool.proofs.texts.write_other.Goals as goal

pub returns-clause-bytes : goal.returns-clause-bytes
unfolding other_text
returns-clause-bytes g c =
    rw (c.model_text.ensures, c.from.ensures, c.model_text-2.ensures, c.from-2.ensures) at c.write_line.ensures.bytes
