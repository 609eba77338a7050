use Rattle.ckd_outside.proofs.Blocks.{in_turn}
use Rattle.report_reading.proofs.data.digits_of.Goals as goal

pub returns-clause-text : goal.returns-clause-text
returns-clause-text c = rw (c.first_digits-first.ensures, c.second_digits-second.ensures) (in_turn c.args.bytes c.fits-bytes.0)
