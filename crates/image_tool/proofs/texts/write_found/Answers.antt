use Rattle.ckd_outside.proofs.Lines.{written_all}
use Rattle.image_tool.proofs.texts.write_found.Goals as goal

pub returns-clause-bytes : goal.returns-clause-bytes
returns-clause-bytes g c = written_all _ _ _ _ _ _ _ c.new-buffer.ensures c.in_ok-put_all.ensures.bytes c.flush.ensures.bytes
