use Rattle.std.proofs.Common.{map}
use Rattle.subsystem_defs.specs.Lines.{asked_by}
use Rattle.line_drive.specs.Driven.{driven}
use Rattle.line_drive.proofs.Driving.{lines_may}
use Rattle.point_copy.specs.CopyRun.{copy_course, looks_on}
use Rattle.copy_tool.specs.Standing.{IsCopying}
use Rattle.copy_tool.proofs.Looking.{lines_done, lines_ended}
use Rattle.copy_tool.proofs.deck.copy_all.Goals as goal

pub drive-requires-clause-asked : goal.drive-requires-clause-asked
drive-requires-clause-asked c = lines_may (λ o. Unit {0}) (λ o. tt) (map asked_by c.args.lines.now)

pub returns-in-Err : goal.returns-in-Err
returns-in-Err c = λ w stand.
    lines_ended (looks_on 961) (driven copy_course (map asked_by c.args.lines.now) w) c.in-Err.why (c.in-Err.ensures.reaches w stand)

pub returns : goal.returns
returns c = λ w stand.
    let so = c.in-Ok.ensures.reaches w stand in
    lines_done (IsCopying c.looks.new.copying) (looks_on 961) (driven copy_course (map asked_by c.args.lines.now) w) so.0 c.looks.result so.1
    (c.looks.ensures so.0 so.2)
