use Rattle.std.proofs.Common.{[], ◌∷◌, ◌++◌}
use Rattle.report_text.specs.declared.line.ReportLine.TheVariants as lines
use Rattle.report_text.specs.Ends.{data_lines, end_line, sense_lines}
use Rattle.ckd_outside.proofs.Lines.{puts_stopped}
use Rattle.path_top.proofs.Texts.{lines_longer, lines_then}
use Rattle.path_top.proofs.journal.put_end.Goals as goal

pub returns-in_err-put_line-clause-bytes : goal.returns-in_err-put_line-clause-bytes
returns-in_err-put_line-clause-bytes g c =
    let p = c.args.entry.now in
    let e = c.args.end.now in
    puts_stopped _ _ _ _ _ _ _ c.from_residual.ensures.1
    (lines_longer _ _ _ _ (lines.End (end_line p.path c.args.d p.ordinal e) ∷ []) (data_lines e.sent ++ sense_lines e.sense)
    (rw c.line_of.ensures at c.in_err-put_line.ensures.bytes))

pub returns-clause-bytes : goal.returns-clause-bytes
returns-clause-bytes g c =
    let p = c.args.entry.now in
    let e = c.args.end.now in
    lines_then _ _ _ _ _ _ _ (lines.End (end_line p.path c.args.d p.ordinal e) ∷ []) (data_lines e.sent ++ sense_lines e.sense)
    (rw c.line_of.ensures at c.in_ok-put_line.ensures.bytes) c.put_sent_and_sense.ensures.bytes
