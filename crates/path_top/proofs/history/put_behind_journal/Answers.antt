use Rattle.path_top.specs.Devices.{told_by}
use Rattle.path_top.specs.Told.{end_lines, left_lines}
use Rattle.ckd_outside.proofs.Lines.{puts_stopped}
use Rattle.path_top.proofs.Texts.{lines_longer, lines_then}
use Rattle.path_top.proofs.history.put_behind_journal.Goals as goal

pub returns-in_err-put_all_left-clause-bytes : goal.returns-in_err-put_all_left-clause-bytes
returns-in_err-put_all_left-clause-bytes g c =
    let x = told_by c.args.device.now in
    puts_stopped _ _ _ _ _ _ _ c.from_residual.ensures.1
    (lines_longer _ _ _ _ (left_lines x.device 1 x.left) (end_lines x.device x.lent x.lost) c.in_err-put_all_left.ensures.bytes)

pub returns-clause-bytes : goal.returns-clause-bytes
returns-clause-bytes g c =
    let x = told_by c.args.device.now in
    lines_then _ _ _ _ _ _ _ (left_lines x.device 1 x.left) (end_lines x.device x.lent x.lost) c.in_ok-put_all_left.ensures.bytes c.put_end.ensures.bytes
