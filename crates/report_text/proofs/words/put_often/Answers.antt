use Rattle.ckd_outside.proofs.Lines.{moves_then, puts_stopped, puts_then, stops_longer, stops_then}
use Rattle.report_text.proofs.words.put_often.Goals as goal

pub returns-in_err-put_text-clause-bytes : goal.returns-in_err-put_text-clause-bytes
returns-in_err-put_text-clause-bytes g c =
    puts_stopped _ _ _ _ _ _ _ c.from_residual.ensures.1 (stops_longer _ _ _ _ _ _ (stops_longer _ _ _ _ _ _ c.in_err-put_text.ensures.bytes))

pub returns-in_err-put-clause-bytes : goal.returns-in_err-put-clause-bytes
returns-in_err-put-clause-bytes g c =
    puts_stopped _ _ _ _ _ _ _ c.from_residual-in_err-put.ensures.1
    (stops_longer _ _ _ _ _ _ (stops_then _ _ _ _ _ _ _ _ c.in_ok-put_text.ensures.bytes c.in_err-put.ensures.bytes))

pub returns-clause-bytes : goal.returns-clause-bytes
returns-clause-bytes g c =
    puts_then _ _ _ _ _ _ _ _ _ (moves_then _ _ _ _ _ _ _ _ c.in_ok-put_text.ensures.bytes c.in_ok-put.ensures.bytes) c.put_text-2.ensures.bytes
