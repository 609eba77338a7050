use Rattle.std.proofs.Common.{◌++◌}
use Rattle.path_top.specs.Devices.{told_by}
use Rattle.path_top.specs.Journals.{journal_lines}
use Rattle.path_top.specs.Told.{end_lines, left_lines}
use Rattle.ckd_outside.proofs.Lines.{puts_stopped}
use Rattle.path_top.proofs.Texts.{lines_longer, lines_then}
use Rattle.path_top.proofs.history.put_device.Goals as goal

pub returns-in_err-put_journal-clause-bytes : goal.returns-in_err-put_journal-clause-bytes
returns-in_err-put_journal-clause-bytes g c =
    let x = told_by c.args.device.now in
    puts_stopped _ _ _ _ _ _ _ c.from_residual.ensures.1
    (lines_longer _ _ _ _ (journal_lines x.device x.journal) (left_lines x.device 1 x.left ++ end_lines x.device x.lent x.lost)
    (rw (c.number.ensures, c.journal.ensures) at c.in_err-put_journal.ensures.bytes))

pub returns-clause-bytes : goal.returns-clause-bytes
returns-clause-bytes g c =
    let x = told_by c.args.device.now in
    lines_then _ _ _ _ _ _ _ (journal_lines x.device x.journal) (left_lines x.device 1 x.left ++ end_lines x.device x.lent x.lost)
    (rw (c.number.ensures, c.journal.ensures) at c.in_ok-put_journal.ensures.bytes) c.put_behind_journal.ensures.bytes
