use Rattle.point_copy.specs.CopyRun.{looks_on}
use Rattle.copy_tool.proofs.Looking.{look_done, look_ended, looks_begin, looks_spent}
use Rattle.copy_tool.proofs.copying.looks.Goals as goal

pub loop-turn-init : goal.loop-turn-init
loop-turn-init c = λ w stand. looks_begin c.args.copying.now w stand

pub returns-in-Err : goal.returns-in-Err
returns-in-Err c = λ w stand.
    look_ended c.loop-turn.copying c.look.new.copying c.loop-turn._turn (looks_on 961 w) c.in-Err.why c.loop-turn-test.true
    (λ v at. c.in-Err.ensures.reaches v at) (c.loop-turn.invariant w stand)

pub loop-turn-preserved : goal.loop-turn-preserved
loop-turn-preserved c = λ w stand.
    look_done c.loop-turn.copying c.look.new.copying c.loop-turn._turn (looks_on 961 w) (tt {0}) c.loop-turn-test.true
    (λ v at. c.in-Ok.ensures.reaches v at) (c.loop-turn.invariant w stand)

pub returns : goal.returns
returns c = λ w stand.
    looks_spent c.loop-turn.copying c.loop-turn.copying c.loop-turn._turn (looks_on 961 w) c.loop-turn-test.false (c.loop-turn.invariant w stand)
