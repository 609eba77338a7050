use Rattle.plain_device.proofs.Wholes.{whole_empty}
use Rattle.plain_device.proofs.law.is_whole_at_first.Goals as goal

pub returns : goal.returns
returns c g cylinders most = whole_empty g cylinders most
