use Rattle.keeper_laws.proofs.Quiet.{told_event}
use Rattle.keeper_laws.proofs.told_is_plain.Goals as goal

pub returns : goal.returns
returns c = λ s e n t m i there quiet is. told_event n t m s there quiet e i is
