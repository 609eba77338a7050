use Rattle.ckd_outside.proofs.Lines.{written_all, written_front}
use Rattle.path_top.proofs.Caused.{caused_then}
use Rattle.path_top.proofs.history.write_history.Goals as goal

pub returns-in_err-put_history-clause-text : goal.returns-in_err-put_history-clause-text
returns-in_err-put_history-clause-text g c = written_front _ _ _ _ _ _ _ c.new-buffer.ensures c.from_residual.ensures.1 c.in_err-put_history.ensures.bytes

pub returns-clause-text : goal.returns-clause-text
returns-clause-text g c = written_all _ _ _ _ _ _ _ c.new-buffer.ensures c.in_ok-put_history.ensures.bytes c.flush.ensures.bytes

pub returns-clause-cause : goal.returns-clause-cause
returns-clause-cause g c = caused_then _ _ _ c.flush.result c.in_ok-put_history.ensures.cause.later c.flush.ensures.cause
