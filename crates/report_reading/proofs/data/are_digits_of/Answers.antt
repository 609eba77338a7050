use Rattle.std.proofs.Common.{◌*◌, ◌∙◌, arith}
use Rattle.std.proofs.lemmas.List.{take_rest}
use Rattle.report_reading.proofs.DataPieces.{next_block}
use Rattle.report_reading.proofs.data.are_digits_of.Goals as goal

pub blocks-2-preserved : goal.blocks-2-preserved
blocks-2-preserved c = (
  omega (arith, c.blocks-2-test.true),
  c.blocks-2.invariant.1 ∙ next_block c.args.text.now c.args.bytes.now c.blocks-2.i c.begins_with_block.result
      (rw (take_rest c.args.text.now (2 * c.blocks-2.i), take_rest c.args.bytes.now c.blocks-2.i) at c.begins_with_block.ensures)
      c.if-not-begins_with_block.false,
)
