use Rattle.std.proofs.Common.{arith, refl}
use Rattle.std.proofs.lemmas.List.{at_drop_all}
use Rattle.ckd_outside.proofs.Lines.{puts_stopped}
use Rattle.path_top.specs.Journals.{lines_of_items}
use Rattle.path_top.proofs.Steps.{items_on}
use Rattle.path_top.proofs.Texts.{lines_done, lines_more, lines_stopped}
use Rattle.path_top.proofs.journal.put_journal.Goals as goal

pub returns-in_err-put_item-clause-bytes : goal.returns-in_err-put_item-clause-bytes
returns-in_err-put_item-clause-bytes g c =
    puts_stopped _ _ _ _ _ _ _ c.from_residual.ensures.1
    (lines_stopped _ _ _ _ _ _ _ _ _ _ c.loop-item.invariant.0
    (items_on c.args.d c.args.items.now c.loop-item.item-index c.item-item.result c.loop-item.loose _ c.loop-item-test.true c.item-item.is refl)
    c.in_err-put_item.ensures.bytes)

pub loop-item-preserved : goal.loop-item-preserved
loop-item-preserved g c = (
  lines_more _ _ _ _ _ _ _ _ _ _ c.loop-item.invariant.0
      (items_on c.args.d c.args.items.now c.loop-item.item-index c.item-item.result c.loop-item.loose _ c.loop-item-test.true c.item-item.is
      c.loose_behind_item-loose.ensures)
      c.in_ok-put_item.ensures.bytes,
  omega (arith, c.loop-item.invariant.1, c.in_ok-put_item.ensures.cause.later),
)

pub returns-clause-bytes : goal.returns-clause-bytes
returns-clause-bytes g c =
    lines_done _ _ _ _ _ _ c.loop-item.invariant.0
    (at_drop_all (lines_of_items c.args.d c.loop-item.loose) c.args.items.now c.loop-item.item-index c.loop-item-test.false)
