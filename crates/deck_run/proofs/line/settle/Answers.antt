use Rattle.std.proofs.Common.{◌∙◌, ◌++◌, refl, sym}
use Rattle.subsystem_defs.specs.Lines.{backs, last_behind}
use Rattle.deck_run.specs.Recording.{all_lines}
use Rattle.deck_run.proofs.Going.{over_goes}
use Rattle.deck_run.proofs.Settling.{backs_begin, back_done, back_over, backs_spent}
use Rattle.deck_run.proofs.line.settle.Goals as goal

pub loop-turn-init : goal.loop-turn-init
loop-turn-init g c = record {
  numbers = refl;
  own = c.requires.own;
  left = λ run all. backs_begin c.args.sub.now c.args.report.now c.args.d run all;
}

pub work-requires-clause-here : goal.work-requires-clause-here
work-requires-clause-here g c = rw c.loop-turn.invariant.numbers c.requires.here

pub work-requires-clause-own : goal.work-requires-clause-own
work-requires-clause-own g c = c.loop-turn.invariant.own

pub returns-in-Err-clause-numbers : goal.returns-in-Err-clause-numbers
returns-in-Err-clause-numbers g c = c.in-Err.ensures.numbers ∙ c.loop-turn.invariant.numbers

pub returns-then-settled-clause-numbers : goal.returns-then-settled-clause-numbers
returns-then-settled-clause-numbers g c = c.in-Ok.ensures.numbers ∙ c.loop-turn.invariant.numbers

pub returns-then-settled-clause-goes : goal.returns-then-settled-clause-goes
returns-then-settled-clause-goes g c = over_goes _ _ _ _ _ (λ run all.
    back_over c.loop-turn.sub c.work.new.sub c.loop-turn.report c.work.new.report c.args.d c.loop-turn._turn (last_behind run (backs 2946 c.args.d run))
    (c.args.report.now ++ all_lines (backs 2946 c.args.d run)) c.loop-turn-test.true
    (λ r stands. sym c.if-settled.true ∙ c.in-Ok.ensures.settled r stands) c.in-Ok.ensures.recorded (c.loop-turn.invariant.left run all))

pub loop-turn-preserved : goal.loop-turn-preserved
loop-turn-preserved g c = record {
  numbers = c.in-Ok.ensures.numbers ∙ c.loop-turn.invariant.numbers;
  own = c.in-Ok.ensures.own;
  left = λ run all.
      back_done c.loop-turn.sub c.work.new.sub c.loop-turn.report c.work.new.report c.args.d c.loop-turn._turn (last_behind run (backs 2946 c.args.d run))
      (c.args.report.now ++ all_lines (backs 2946 c.args.d run)) c.loop-turn-test.true
      (λ r stands. sym c.if-settled.false ∙ c.in-Ok.ensures.settled r stands) c.in-Ok.ensures.recorded (c.loop-turn.invariant.left run all);
}

pub returns-clause-numbers : goal.returns-clause-numbers
returns-clause-numbers g c = c.loop-turn.invariant.numbers

pub returns-clause-own : goal.returns-clause-own
returns-clause-own g c = c.loop-turn.invariant.own

pub returns-clause-goes : goal.returns-clause-goes
returns-clause-goes g c = over_goes _ _ _ _ _ (λ run all.
    backs_spent c.loop-turn.sub c.loop-turn.report c.args.d c.loop-turn._turn (last_behind run (backs 2946 c.args.d run))
    (c.args.report.now ++ all_lines (backs 2946 c.args.d run)) c.loop-turn-test.false (c.loop-turn.invariant.left run all))
