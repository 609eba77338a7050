use Rattle.report_reading.proofs.DataPieces.{block_differs, block_goes_on}
use Rattle.report_reading.proofs.data.begins_with_block.Goals as goal

pub returns-then-text-front-eq0 : goal.returns-then-text-front-eq0
returns-then-text-front-eq0 c = block_goes_on c.args.text.now c.args.bytes.now c.digits_of.result.0 c.digits_of.result.1
    c.digits_of.ensures.long.0 c.digits_of.ensures.long.1 c.digits_of.ensures.text c.requires.text c.if-text-front-eq0.true

pub returns-else-text-front-eq0 : goal.returns-else-text-front-eq0
returns-else-text-front-eq0 c = block_differs c.args.text.now c.args.bytes.now c.digits_of.result.0 c.digits_of.result.1
    c.digits_of.ensures.long.0 c.digits_of.ensures.long.1 c.digits_of.ensures.text c.requires.text c.if-text-front-eq0.false
