use Rattle.std.proofs.Common.{[], ◌∷◌}
use Rattle.report_text.specs.declared.line.ReportLine.TheVariants as lines
use Rattle.ckd_outside.proofs.Lines.{puts_stopped}
use Rattle.path_top.proofs.Texts.{lines_longer, lines_then}
use Rattle.path_top.proofs.history.put_finish.Goals as goal

pub returns-in_err-put_line-clause-bytes : goal.returns-in_err-put_line-clause-bytes
returns-in_err-put_line-clause-bytes g c =
    puts_stopped _ _ _ _ _ _ _ c.from_residual.ensures.1
    (lines_longer _ _ _ _ (lines.Unused c.args.unused ∷ []) (lines.Finish ∷ []) c.in_err-put_line.ensures.bytes)

pub returns-clause-bytes : goal.returns-clause-bytes
returns-clause-bytes g c =
    lines_then _ _ _ _ _ _ _ (lines.Unused c.args.unused ∷ []) (lines.Finish ∷ []) c.in_ok-put_line.ensures.bytes c.put_line-2.ensures.bytes
