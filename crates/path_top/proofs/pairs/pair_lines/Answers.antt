use Rattle.std.proofs.Common.{◌∙◌, subst}
use Rattle.deck_run.specs.Standing.{StandsAs}
use Rattle.deck_run.proofs.Going.{line_open_at}
use Rattle.path_top.proofs.Paired.{one_line_on, all_lines_on}
use Rattle.path_top.proofs.pairs.pair_lines.Goals as goal

pub pair_line-requires-clause-here : goal.pair_line-requires-clause-here
pair_line-requires-clause-here g c =
    rw c.loop-line.invariant.numbers
    (line_open_at _ c.args.lines.now c.loop-line.line-index c.line-item.result c.loop-line-test.true c.line-item.is c.requires.here)

pub loop-line-preserved : goal.loop-line-preserved
loop-line-preserved g c = record {
  numbers = c.in_ok-pair_line.ensures.numbers ∙ c.loop-line.invariant.numbers;
  own = c.in_ok-pair_line.ensures.own;
  unused = λ all. c.in_ok-pair_line.ensures.unused (c.loop-line.invariant.unused all);
  stands = λ run all. subst (StandsAs c.pair_line.new.sub)
      (one_line_on run c.args.lines.now c.loop-line.line-index c.line-item.result c.loop-line-test.true c.line-item.is)
      (c.in_ok-pair_line.ensures.stands _ (c.loop-line.invariant.stands run all));
}

pub returns-clause-stands : goal.returns-clause-stands
returns-clause-stands g c = λ run all.
    subst (StandsAs c.loop-line.sub) (all_lines_on run c.args.lines.now c.loop-line.line-index c.loop-line-test.false) (c.loop-line.invariant.stands run all)
