use Rattle.report_text.specs.Ends.{data_lines, sense_lines}
use Rattle.ckd_outside.proofs.Lines.{puts_stopped}
use Rattle.path_top.proofs.Texts.{lines_longer, lines_then}
use Rattle.path_top.proofs.journal.put_sent_and_sense.Goals as goal

pub returns-in_err-put_sent-clause-bytes : goal.returns-in_err-put_sent-clause-bytes
returns-in_err-put_sent-clause-bytes g c =
    let e = c.args.end.now in
    puts_stopped _ _ _ _ _ _ _ c.from_residual.ensures.1
    (lines_longer _ _ _ _ (data_lines e.sent) (sense_lines e.sense) (rw c.as_slice.ensures at c.in_err-put_sent.ensures.bytes))

pub returns-clause-bytes : goal.returns-clause-bytes
returns-clause-bytes g c =
    let e = c.args.end.now in
    lines_then _ _ _ _ _ _ _ (data_lines e.sent) (sense_lines e.sense) (rw c.as_slice.ensures at c.in_ok-put_sent.ensures.bytes) c.put_sense.ensures.bytes
