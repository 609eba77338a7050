use Rattle.std.proofs.Common.{◌*◌, arith}
use Rattle.ckd_outside.proofs.Blocks.{block_put}
use Rattle.ckd_outside.proofs.digits.write_block.Goals as goal

pub returns-clause-text : goal.returns-clause-text
returns-clause-text c =
    block_put c.args.out.now c.digits_of.result.0 c.digits_of.result.1 _ (2 * c.args.i) c.digits_of.ensures.long.0 c.digits_of.ensures.long.1
    (omega (arith, c.requires.long, c.requires.block)) c.digits_of.ensures.text
