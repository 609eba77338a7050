use Rattle.ckd_outside.proofs.Lines.{puts_stopped, puts_then, stops_longer}
use Rattle.report_text.proofs.report.LineSpellingSpellingDeviceEnd.put.Goals as goal

pub returns-in_err-put-clause-bytes : goal.returns-in_err-put-clause-bytes
returns-in_err-put-clause-bytes g c =
    puts_stopped _ _ _ _ _ _ _ c.from_residual.ensures.1 (stops_longer _ _ _ _ _ _ c.in_err-put.ensures.bytes)

pub returns-clause-bytes : goal.returns-clause-bytes
returns-clause-bytes g c = puts_then _ _ _ _ _ _ _ _ _ c.in_ok-put.ensures.bytes c.put_lost.ensures.bytes
