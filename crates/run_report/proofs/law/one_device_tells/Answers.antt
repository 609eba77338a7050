use Rattle.run_report.proofs.OneDevice.{tells_alone}
use Rattle.run_report.proofs.law.one_device_tells.Goals as goal

pub returns : goal.returns
returns c s n x = tells_alone s n x
