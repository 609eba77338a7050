use Rattle.std.proofs.Common.{drop, map}
use Rattle.subsystem_defs.specs.Lines.{asked_by}
use Rattle.line_drive.specs.Driven.{driven}
use Rattle.line_drive.specs.Staging.{GoesOn}
use Rattle.line_drive.proofs.Driving.{Left}
use Rattle.line_drive.proofs.lines.drive.Given as goal

abbrev pub invariant-loop-l : goal.invariant-loop-l
invariant-loop-l g l = record {
  on : GoesOn g.S.Stage.numbers g.S.Stage.may l.fn.stage l.stage;
  left : (w : g.S.Stage.Way) → g.S.Stage.stands l.fn.stage w →
      Left (g.S.Stage.stands l.stage) (driven g.S.Stage.course (map asked_by (drop l.l-index l.lines))) (driven g.S.Stage.course (map asked_by l.lines) w);
}
