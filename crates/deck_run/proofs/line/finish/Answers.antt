use Rattle.std.proofs.Common.{◌∙◌, sym}
use Rattle.deck_run.proofs.Going.{busy_stands, busy_tells, idle_stands, idle_tells}
use Rattle.deck_run.proofs.line.finish.Goals as goal

pub returns-then-not-is_busy-clause-goes : goal.returns-then-not-is_busy-clause-goes
returns-then-not-is_busy-clause-goes g c = record {
  stands = λ run all.
      idle_stands c.args.sub.now run c.args.d (sym c.if-not-is_busy.true ∙ c.is_busy.ensures run all) all;
  lines = λ run all.
      idle_tells c.args.sub.now run c.args.d c.args.report.now c.push.new.self (sym c.if-not-is_busy.true ∙ c.is_busy.ensures run all) all
      c.in_ok-push.ensures.did;
}

pub returns-clause-goes : goal.returns-clause-goes
returns-clause-goes g c = record {
  stands = λ run all.
      busy_stands c.steps.new.sub run c.args.d (sym c.if-not-is_busy.false ∙ c.is_busy.ensures run all) (c.in_ok-steps.ensures.goes.stands run all);
  lines = λ run all.
      busy_tells c.steps.new.sub run c.args.d c.args.report.now c.steps.new.report (sym c.if-not-is_busy.false ∙ c.is_busy.ensures run all)
      (c.in_ok-steps.ensures.goes.lines run all);
}
