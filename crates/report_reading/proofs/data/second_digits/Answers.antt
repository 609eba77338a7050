use Rattle.ckd_outside.proofs.Blocks.{lower_looked_up, lower_ok}
use Rattle.report_reading.proofs.data.second_digits.Goals as goal

pub swizzle : goal.swizzle
swizzle c = lower_ok c.args.bytes c.fits-bytes

pub returns : goal.returns
returns c = lower_looked_up c.args.bytes c.fits-bytes
