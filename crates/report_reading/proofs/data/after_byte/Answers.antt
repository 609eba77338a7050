use Rattle.std.proofs.Common.{◌∷◌, []}
use Rattle.report_reading.proofs.DataPieces.{after_is}
use Rattle.report_reading.proofs.data.after_byte.Goals as goal

pub returns : goal.returns
returns c =
    rw (c.digit_of-high.ensures, c.digit_of-low.ensures) at (after_is _ _ c.args.text.now (_ ∷ _ ∷ []) c.strip_prefix.ensures.cases)
