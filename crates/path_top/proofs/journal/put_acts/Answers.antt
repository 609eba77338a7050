use Rattle.std.proofs.Common.{[], ◌∷◌, arith, refl}
use Rattle.std.proofs.lemmas.List.{at_drop_all}
use Rattle.ckd_outside.proofs.Lines.{puts_stopped}
use Rattle.path_top.specs.Journals.{act_lines}
use Rattle.path_top.proofs.Steps.{acts_on}
use Rattle.path_top.proofs.Texts.{lines_done, lines_more, lines_stopped}
use Rattle.path_top.proofs.journal.put_acts.Goals as goal

pub returns-in_err-put_line-clause-bytes : goal.returns-in_err-put_line-clause-bytes
returns-in_err-put_line-clause-bytes g c =
    puts_stopped _ _ _ _ _ _ _ c.from_residual.ensures.1
    (lines_stopped _ _ _ _ _ _ _ _ (c.act_line.result ∷ []) _ c.loop-acted.invariant.0
    (acts_on c.args.d c.args.acts.now c.loop-acted.acted-index c.acted-item.result c.loop-acted.loose _ c.act_line.result c.loop-acted-test.true
    c.acted-item.is c.act_line.ensures refl)
    c.in_err-put_line.ensures.bytes)

pub loop-acted-preserved : goal.loop-acted-preserved
loop-acted-preserved g c = (
  lines_more _ _ _ _ _ _ _ _ (c.act_line.result ∷ []) _ c.loop-acted.invariant.0
      (acts_on c.args.d c.args.acts.now c.loop-acted.acted-index c.acted-item.result c.loop-acted.loose _ c.act_line.result c.loop-acted-test.true
      c.acted-item.is c.act_line.ensures c.loose_behind-loose.ensures)
      c.in_ok-put_line.ensures.bytes,
  omega (arith, c.loop-acted.invariant.1, c.in_ok-put_line.ensures.cause.later),
)

pub returns-clause-bytes : goal.returns-clause-bytes
returns-clause-bytes g c =
    lines_done _ _ _ _ _ _ c.loop-acted.invariant.0
    (at_drop_all (act_lines c.args.d c.loop-acted.loose) c.args.acts.now c.loop-acted.acted-index c.loop-acted-test.false)
