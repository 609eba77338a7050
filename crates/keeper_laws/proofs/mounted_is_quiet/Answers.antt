use Rattle.keeper_laws.proofs.Mounts.{mounted_is_quiet}
use Rattle.keeper_laws.proofs.mounted_is_quiet.Goals as goal

pub returns : goal.returns
returns c = λ p xs ms n t m all there lt firm free. mounted_is_quiet p xs ms n t m all there lt firm free
