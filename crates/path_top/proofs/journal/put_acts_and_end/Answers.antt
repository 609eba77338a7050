use Rattle.report_text.specs.Events.{ended_lines}
use Rattle.path_top.specs.Journals.{act_lines}
use Rattle.ckd_outside.proofs.Lines.{puts_stopped}
use Rattle.path_top.proofs.Texts.{lines_longer, lines_then}
use Rattle.path_top.proofs.journal.put_acts_and_end.Goals as goal

pub returns-in_err-put_acts-clause-bytes : goal.returns-in_err-put_acts-clause-bytes
returns-in_err-put_acts-clause-bytes g c =
    let p = c.args.entry.now in
    puts_stopped _ _ _ _ _ _ _ c.from_residual.ensures.1
    (lines_longer _ _ _ _ (act_lines c.args.d c.args.before c.args.acts.now) (ended_lines p.path c.args.d p.ordinal c.args.end.now)
    c.in_err-put_acts.ensures.bytes)

pub returns-clause-bytes : goal.returns-clause-bytes
returns-clause-bytes g c =
    let p = c.args.entry.now in
    lines_then _ _ _ _ _ _ _ (act_lines c.args.d c.args.before c.args.acts.now) (ended_lines p.path c.args.d p.ordinal c.args.end.now)
    c.in_ok-put_acts.ensures.bytes c.put_end.ensures.bytes
