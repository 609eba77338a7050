use Rattle.std.proofs.Common.{◌∙◌, sym}
use Rattle.line_drive.specs.Driven.{steps_on}
use Rattle.line_drive.proofs.Driving.{goes_self, goes_then, left_begin, step_done, step_ended, steps_over, steps_spent}
use Rattle.line_drive.proofs.lines.steps.Goals as goal

pub loop-turn-init : goal.loop-turn-init
loop-turn-init g c = record {
  on = goes_self g.S.Stage.numbers g.S.Stage.may c.args.stage.now;
  left = λ w stand. left_begin g.S.Stage.course (g.S.Stage.stands c.args.stage.now) (steps_on g.S.Stage.course 8193 c.args.d) w stand;
}

pub is_busy_at-requires : goal.is_busy_at-requires
is_busy_at-requires g c = rw c.loop-turn.invariant.on.same c.requires.here

pub returns-then-not-is_busy_at-clause-goes_on : goal.returns-then-not-is_busy_at-clause-goes_on
returns-then-not-is_busy_at-clause-goes_on g c = c.loop-turn.invariant.on

pub returns-then-not-is_busy_at-clause-reaches : goal.returns-then-not-is_busy_at-clause-reaches
returns-then-not-is_busy_at-clause-reaches g c = λ w stand.
    let s = g.S.Stage.stands c.loop-turn.stage in
    steps_over g.S.Stage.course s s c.args.d c.loop-turn._turn (steps_on g.S.Stage.course 8193 c.args.d w)
    (λ v at. sym c.if-not-is_busy_at.true ∙ c.is_busy_at.ensures v at) (c.loop-turn.invariant.left w stand)

pub event-requires-clause-here : goal.event-requires-clause-here
event-requires-clause-here g c = rw c.loop-turn.invariant.on.same c.requires.here

pub event-requires-clause-asked : goal.event-requires-clause-asked
event-requires-clause-asked g c = c.loop-turn.invariant.on.still _ c.requires.asked

pub returns-in-Err-clause-reaches : goal.returns-in-Err-clause-reaches
returns-in-Err-clause-reaches g c = λ w stand.
    step_ended g.S.Stage.course (g.S.Stage.stands c.loop-turn.stage) (g.S.Stage.stands c.event.new.stage) c.args.d c.loop-turn._turn
    (steps_on g.S.Stage.course 8193 c.args.d w) c.in-Err.why c.loop-turn-test.true (λ v at. sym c.if-not-is_busy_at.false ∙ c.is_busy_at.ensures v at)
    (λ v at. c.in-Err.ensures.reaches v at) (c.loop-turn.invariant.left w stand)

pub loop-turn-preserved : goal.loop-turn-preserved
loop-turn-preserved g c = record {
  on = goes_then g.S.Stage.numbers g.S.Stage.may _ _ _ c.loop-turn.invariant.on c.in-Ok.ensures.goes_on;
  left = λ w stand.
      step_done g.S.Stage.course (g.S.Stage.stands c.loop-turn.stage) (g.S.Stage.stands c.event.new.stage) c.args.d c.loop-turn._turn
      (steps_on g.S.Stage.course 8193 c.args.d w) (tt {0}) c.loop-turn-test.true (λ v at. sym c.if-not-is_busy_at.false ∙ c.is_busy_at.ensures v at)
      (λ v at. c.in-Ok.ensures.reaches v at) (c.loop-turn.invariant.left w stand);
}

pub returns-clause-goes_on : goal.returns-clause-goes_on
returns-clause-goes_on g c = c.loop-turn.invariant.on

pub returns-clause-reaches : goal.returns-clause-reaches
returns-clause-reaches g c = λ w stand.
    let s = g.S.Stage.stands c.loop-turn.stage in
    steps_spent g.S.Stage.course s s c.args.d c.loop-turn._turn (steps_on g.S.Stage.course 8193 c.args.d w) c.loop-turn-test.false
    (c.loop-turn.invariant.left w stand)
