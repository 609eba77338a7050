use Rattle.std.proofs.Common.{◌∙◌, ◌++◌, ◌-◌, refl, sym}
use Rattle.subsystem_defs.specs.Lines.{last_behind, steps}
use Rattle.deck_run.specs.Recording.{all_lines}
use Rattle.deck_run.proofs.Going.{over_goes, steps_begin, step_done, steps_over, steps_spent}
use Rattle.deck_run.proofs.line.steps.Goals as goal

pub loop-turn-init : goal.loop-turn-init
loop-turn-init g c = record {
  numbers = refl;
  own = c.requires.own;
  left = λ run all. steps_begin c.args.sub.now c.args.report.now c.args.d run all;
}

pub is_busy-requires : goal.is_busy-requires
is_busy-requires g c = rw c.loop-turn.invariant.numbers c.requires.here

pub returns-then-not-is_busy-clause-numbers : goal.returns-then-not-is_busy-clause-numbers
returns-then-not-is_busy-clause-numbers g c = c.loop-turn.invariant.numbers

pub returns-then-not-is_busy-clause-own : goal.returns-then-not-is_busy-clause-own
returns-then-not-is_busy-clause-own g c = c.loop-turn.invariant.own

pub returns-then-not-is_busy-clause-goes : goal.returns-then-not-is_busy-clause-goes
returns-then-not-is_busy-clause-goes g c = over_goes _ _ _ _ _ (λ run all.
    steps_over c.loop-turn.sub c.loop-turn.report c.args.d (8193 - c.loop-turn._turn) (last_behind run (steps 8193 c.args.d run))
    (c.args.report.now ++ all_lines (steps 8193 c.args.d run)) (λ r stands. sym c.if-not-is_busy.true ∙ c.is_busy.ensures r stands)
    (c.loop-turn.invariant.left run all))

pub step-requires-clause-here : goal.step-requires-clause-here
step-requires-clause-here g c = rw c.loop-turn.invariant.numbers c.requires.here

pub step-requires-clause-own : goal.step-requires-clause-own
step-requires-clause-own g c = c.loop-turn.invariant.own

pub returns-in-Err-clause-numbers : goal.returns-in-Err-clause-numbers
returns-in-Err-clause-numbers g c = c.in-Err.ensures.numbers ∙ c.loop-turn.invariant.numbers

pub loop-turn-preserved : goal.loop-turn-preserved
loop-turn-preserved g c = record {
  numbers = c.in-Ok.ensures.numbers ∙ c.loop-turn.invariant.numbers;
  own = c.in-Ok.ensures.own;
  left = λ run all.
      step_done c.loop-turn.sub c.step.new.sub c.loop-turn.report c.step.new.report c.args.d c.loop-turn._turn (last_behind run (steps 8193 c.args.d run))
      (c.args.report.now ++ all_lines (steps 8193 c.args.d run)) c.loop-turn-test.true
      (λ r stands. sym c.if-not-is_busy.false ∙ c.is_busy.ensures r stands) c.in-Ok.ensures.recorded (c.loop-turn.invariant.left run all);
}

pub returns-clause-numbers : goal.returns-clause-numbers
returns-clause-numbers g c = c.loop-turn.invariant.numbers

pub returns-clause-own : goal.returns-clause-own
returns-clause-own g c = c.loop-turn.invariant.own

pub returns-clause-goes : goal.returns-clause-goes
returns-clause-goes g c = over_goes _ _ _ _ _ (λ run all.
    steps_spent c.loop-turn.sub c.loop-turn.report c.args.d c.loop-turn._turn (last_behind run (steps 8193 c.args.d run))
    (c.args.report.now ++ all_lines (steps 8193 c.args.d run)) c.loop-turn-test.false (c.loop-turn.invariant.left run all))
