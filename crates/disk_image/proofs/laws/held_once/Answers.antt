use Rattle.disk_image.proofs.Once.{held_once}
use Rattle.disk_image.proofs.laws.held_once.Goals as goal

pub returns : goal.returns
returns c = held_once
