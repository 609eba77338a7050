use Rattle.ckd_outside.proofs.Blocks.{upper_looked_up, upper_ok}
use Rattle.report_reading.proofs.data.first_digits.Goals as goal

pub swizzle : goal.swizzle
swizzle c = upper_ok c.args.bytes c.fits-bytes

pub returns : goal.returns
returns c = upper_looked_up c.args.bytes c.fits-bytes
