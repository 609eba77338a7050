use Rattle.std.proofs.Common.{◌∙◌, sym}
use Rattle.line_drive.specs.Driven.{backs_on}
use Rattle.line_drive.proofs.Driving.{back_done, back_ended, back_over, backs_spent, goes_self, goes_then, left_begin}
use Rattle.line_drive.proofs.lines.settle.Goals as goal

pub loop-turn-init : goal.loop-turn-init
loop-turn-init g c = record {
  on = goes_self g.S.Stage.numbers g.S.Stage.may c.args.stage.now;
  left = λ w stand. left_begin g.S.Stage.course (g.S.Stage.stands c.args.stage.now) (backs_on g.S.Stage.course 2946 c.args.d) w stand;
}

pub once-requires-clause-here : goal.once-requires-clause-here
once-requires-clause-here g c = rw c.loop-turn.invariant.on.same c.requires.here

pub once-requires-clause-asked : goal.once-requires-clause-asked
once-requires-clause-asked g c = c.loop-turn.invariant.on.still _ c.requires.asked

pub returns-in-Err-clause-reaches : goal.returns-in-Err-clause-reaches
returns-in-Err-clause-reaches g c = λ w stand.
    back_ended g.S.Stage.course (g.S.Stage.stands c.loop-turn.stage) (g.S.Stage.stands c.once.new.stage) c.args.d c.loop-turn._turn
    (backs_on g.S.Stage.course 2946 c.args.d w) c.in-Err.why c.loop-turn-test.true (λ v at. c.in-Err.ensures.reaches v at)
    (c.loop-turn.invariant.left w stand)

pub returns-then-settled-clause-goes_on : goal.returns-then-settled-clause-goes_on
returns-then-settled-clause-goes_on g c =
    goes_then g.S.Stage.numbers g.S.Stage.may _ _ _ c.loop-turn.invariant.on c.in-Ok.ensures.goes_on

pub returns-then-settled-clause-reaches : goal.returns-then-settled-clause-reaches
returns-then-settled-clause-reaches g c = λ w stand.
    back_over g.S.Stage.course (g.S.Stage.stands c.loop-turn.stage) (g.S.Stage.stands c.once.new.stage) c.args.d c.loop-turn._turn
    (backs_on g.S.Stage.course 2946 c.args.d w) c.in-Ok.settled c.loop-turn-test.true
    (λ v at. sym c.if-settled.true ∙ c.in-Ok.ensures.settled v at)
    (λ v at. c.in-Ok.ensures.reaches v at) (c.loop-turn.invariant.left w stand)

pub loop-turn-preserved : goal.loop-turn-preserved
loop-turn-preserved g c = record {
  on = goes_then g.S.Stage.numbers g.S.Stage.may _ _ _ c.loop-turn.invariant.on c.in-Ok.ensures.goes_on;
  left = λ w stand.
      back_done g.S.Stage.course (g.S.Stage.stands c.loop-turn.stage) (g.S.Stage.stands c.once.new.stage) c.args.d c.loop-turn._turn
      (backs_on g.S.Stage.course 2946 c.args.d w) c.in-Ok.settled c.loop-turn-test.true
      (λ v at. sym c.if-settled.false ∙ c.in-Ok.ensures.settled v at)
      (λ v at. c.in-Ok.ensures.reaches v at) (c.loop-turn.invariant.left w stand);
}

pub returns-clause-goes_on : goal.returns-clause-goes_on
returns-clause-goes_on g c = c.loop-turn.invariant.on

pub returns-clause-reaches : goal.returns-clause-reaches
returns-clause-reaches g c = λ w stand.
    let s = g.S.Stage.stands c.loop-turn.stage in
    backs_spent g.S.Stage.course s s c.args.d c.loop-turn._turn (backs_on g.S.Stage.course 2946 c.args.d w) c.loop-turn-test.false
    (c.loop-turn.invariant.left w stand)
