use Rattle.std.proofs.Common.{◌∙◌, ◌++◌, map, refl}
use Rattle.subsystem_core.specs.Devices.{numbers_of}
use Rattle.subsystem_defs.specs.Lines.{asked_by, last_behind, run_lines}
use Rattle.deck_run.specs.Recording.{all_lines}
use Rattle.deck_run.proofs.Going.{line_open_at, line_done, lines_over, over_goes}
use Rattle.deck_run.proofs.run.do_lines.Goals as goal

pub loop-line-init : goal.loop-line-init
loop-line-init g c = record {
  numbers = refl;
  own = c.requires.own;
  left = λ run all. record { now = run; stands = all; rest = refl; lines = refl };
}

pub do_line-requires-clause-here : goal.do_line-requires-clause-here
do_line-requires-clause-here g c =
    rw c.loop-line.invariant.numbers
    (line_open_at (numbers_of c.args.sub.now.devices.items) c.args.lines.now c.loop-line.line-index c.line-item.result c.loop-line-test.true c.line-item.is
    c.requires.here)

pub do_line-requires-clause-own : goal.do_line-requires-clause-own
do_line-requires-clause-own g c = c.loop-line.invariant.own

pub returns-in-Err-clause-numbers : goal.returns-in-Err-clause-numbers
returns-in-Err-clause-numbers g c = c.in-Err.ensures.numbers ∙ c.loop-line.invariant.numbers

pub loop-line-preserved : goal.loop-line-preserved
loop-line-preserved g c = record {
  numbers = c.in-Ok.ensures.numbers ∙ c.loop-line.invariant.numbers;
  own = c.in-Ok.ensures.own;
  left = λ run all.
      line_done c.loop-line.sub c.do_line.new.sub c.loop-line.report c.do_line.new.report c.args.lines.now c.loop-line.line-index c.line-item.result
      (last_behind run (run_lines (map asked_by c.args.lines.now) run)) (c.args.report.now ++ all_lines (run_lines (map asked_by c.args.lines.now) run))
      c.loop-line-test.true c.line-item.is c.in-Ok.ensures.goes (c.loop-line.invariant.left run all);
}

pub returns-clause-numbers : goal.returns-clause-numbers
returns-clause-numbers g c = c.loop-line.invariant.numbers

pub returns-clause-own : goal.returns-clause-own
returns-clause-own g c = c.loop-line.invariant.own

pub returns-clause-goes : goal.returns-clause-goes
returns-clause-goes g c = over_goes _ _ _ _ _ (λ run all.
    lines_over c.loop-line.sub c.loop-line.report c.args.lines.now c.loop-line.line-index (last_behind run (run_lines (map asked_by c.args.lines.now) run))
    (c.args.report.now ++ all_lines (run_lines (map asked_by c.args.lines.now) run)) c.loop-line-test.false (c.loop-line.invariant.left run all))
