use Rattle.ckd_outside.proofs.Lines.{written_all}
use Rattle.report_text.proofs.spelled.write_text.Goals as goal

pub returns-clause-bytes : goal.returns-clause-bytes
returns-clause-bytes g c = written_all _ _ _ _ _ _ _ c.requires.none c.in_ok-put.ensures.bytes c.flush.ensures.bytes
