use Rattle.std.proofs.Common.{◌-◌}
use Rattle.line_drive.specs.Driven.{steps_on}
use Rattle.line_drive.specs.Staging.{GoesOn}
use Rattle.line_drive.proofs.Driving.{Left}
use Rattle.line_drive.proofs.lines.steps.Given as goal

abbrev pub invariant-loop-turn : goal.invariant-loop-turn
invariant-loop-turn g l = record {
  on : GoesOn g.S.Stage.numbers g.S.Stage.may l.fn.stage l.stage;
  left : (w : g.S.Stage.Way) → g.S.Stage.stands l.fn.stage w →
      Left (g.S.Stage.stands l.stage) (steps_on g.S.Stage.course (8193 - l._turn) l.d) (steps_on g.S.Stage.course 8193 l.d w);
}
