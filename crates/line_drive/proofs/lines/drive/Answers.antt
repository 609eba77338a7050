use Rattle.std.proofs.Common.{map}
use Rattle.subsystem_defs.specs.Lines.{asked_by}
use Rattle.deck_run.proofs.Going.{line_open_at}
use Rattle.line_drive.specs.Driven.{driven}
use Rattle.line_drive.proofs.Driving.{goes_self, goes_then, left_begin, line_done, line_ended, line_may_at, line_still, lines_over}
use Rattle.line_drive.proofs.lines.drive.Goals as goal

pub loop-l-init : goal.loop-l-init
loop-l-init g c = record {
  on = goes_self g.S.Stage.numbers g.S.Stage.may c.args.stage.now;
  left = λ w stand. left_begin g.S.Stage.course (g.S.Stage.stands c.args.stage.now) (driven g.S.Stage.course (map asked_by c.args.lines.now)) w stand;
}

pub line-requires-clause-here : goal.line-requires-clause-here
line-requires-clause-here g c =
    rw c.loop-l.invariant.on.same
    (line_open_at (g.S.Stage.numbers c.args.stage.now) c.args.lines.now c.loop-l.l-index c.l-item.result c.loop-l-test.true c.l-item.is c.requires.here)

pub line-requires-clause-asked : goal.line-requires-clause-asked
line-requires-clause-asked g c =
    line_still (g.S.Stage.may c.args.stage.now) (g.S.Stage.may c.loop-l.stage) _ c.loop-l.invariant.on.still
    (line_may_at (g.S.Stage.may c.args.stage.now) c.args.lines.now c.loop-l.l-index c.l-item.result c.loop-l-test.true c.l-item.is c.requires.asked)

pub returns-in-Err-clause-reaches : goal.returns-in-Err-clause-reaches
returns-in-Err-clause-reaches g c = λ w stand.
    line_ended g.S.Stage.course (g.S.Stage.stands c.loop-l.stage) (g.S.Stage.stands c.line.new.stage) c.args.lines.now c.loop-l.l-index c.l-item.result
    (driven g.S.Stage.course (map asked_by c.args.lines.now) w) c.loop-l-test.true c.l-item.is c.in-Err.why (λ v at. c.in-Err.ensures.reaches v at)
    (c.loop-l.invariant.left w stand)

pub loop-l-preserved : goal.loop-l-preserved
loop-l-preserved g c = record {
  on = goes_then g.S.Stage.numbers g.S.Stage.may _ _ _ c.loop-l.invariant.on c.in-Ok.ensures.goes_on;
  left = λ w stand.
      line_done g.S.Stage.course (g.S.Stage.stands c.loop-l.stage) (g.S.Stage.stands c.line.new.stage) c.args.lines.now c.loop-l.l-index c.l-item.result
      (driven g.S.Stage.course (map asked_by c.args.lines.now) w) c.loop-l-test.true c.l-item.is (tt {0}) (λ v at. c.in-Ok.ensures.reaches v at)
      (c.loop-l.invariant.left w stand);
}

pub returns-clause-goes_on : goal.returns-clause-goes_on
returns-clause-goes_on g c = c.loop-l.invariant.on

pub returns-clause-reaches : goal.returns-clause-reaches
returns-clause-reaches g c = λ w stand.
    lines_over g.S.Stage.course (g.S.Stage.stands c.loop-l.stage) c.args.lines.now c.loop-l.l-index
    (driven g.S.Stage.course (map asked_by c.args.lines.now) w) c.loop-l-test.false (c.loop-l.invariant.left w stand)
