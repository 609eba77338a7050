use Rattle.ckd_outside.proofs.Lines.{written_all}
use Rattle.report_audit.proofs.texts.write_line.Goals as goal

pub returns-clause-bytes : goal.returns-clause-bytes
returns-clause-bytes g c = written_all _ _ _ _ _ _ _ c.new-buffer.ensures c.in_ok-write_pieces.ensures.bytes c.flush.ensures.bytes
