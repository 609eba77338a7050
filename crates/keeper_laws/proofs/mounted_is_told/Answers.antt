use Rattle.keeper_laws.proofs.FirmMounts.{mounted_is_told}
use Rattle.keeper_laws.proofs.mounted_is_told.Goals as goal

pub returns : goal.returns
returns c = λ p xs ms n m all there. mounted_is_told p xs ms n m all there
