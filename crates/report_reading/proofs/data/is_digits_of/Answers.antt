use Rattle.report_reading.proofs.DataPieces.{length_differs}
use Rattle.report_reading.proofs.data.is_digits_of.Goals as goal

pub returns : goal.returns
returns c = length_differs c.args.text.now c.args.bytes.now c.if-text-bytes.false
