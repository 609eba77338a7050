use Rattle.std.proofs.Common.{[], ◌∷◌, Some, subst}
use Rattle.ckd_outside.specs.Texts.{Puts}
use Rattle.plain_defs.specs.Entry.{ProgramEntry}
use Rattle.report_text.specs.declared.line.ReportLine.TheVariants as lines
use Rattle.report_text.specs.Ends.{lines_text}
use Rattle.report_text.specs.Events.{program_over_lines}
use Rattle.run_report.specs.Beside.{how_over, program_over_line}
use Rattle.path_top.specs.Journals.{end_lines}
use Rattle.ckd_outside.proofs.Lines.{puts_stopped}
use Rattle.path_top.proofs.Texts.{lines_longer, lines_then}
use Rattle.path_top.proofs.journal.put_program.Goals as goal

pub returns-in_err-put_ends-clause-bytes : goal.returns-in_err-put_ends-clause-bytes
returns-in_err-put_ends-clause-bytes g c =
    let p = c.args.entry.now in
    puts_stopped _ _ _ _ _ _ _ c.from_residual.ensures.1
    (lines_longer _ _ _ _ (end_lines c.args.d p 0 c.args.before p.acts p.ends) (program_over_lines (Some (program_over_line c.args.d p)))
    c.in_err-put_ends.ensures.bytes)

pub returns-clause-bytes : goal.returns-clause-bytes
returns-clause-bytes g c =
    let p = c.args.entry.now in
    lines_then _ _ _ _ _ _ _ (end_lines c.args.d p 0 c.args.before p.acts p.ends) (program_over_lines (Some (program_over_line c.args.d p)))
    c.in_ok-put_ends.ensures.bytes
    (subst (λ (q : ProgramEntry). Puts (g.K.Sink.held c.put_ends.new.sink) c.put_ends.new.buffer (g.K.Sink.held c.put_line.new.sink) c.put_line.new.buffer
    c.put_line.result (lines_text (lines.Over q.path c.args.d q.ordinal (how_over q.how) ∷ []))) c.entry.view_is
    (rw c.how_over-how.ensures at c.put_line.ensures.bytes))
