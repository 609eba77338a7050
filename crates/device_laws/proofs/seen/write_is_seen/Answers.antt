use Rattle.device_laws.proofs.counted.Walks.{write_wrote}
use Rattle.device_laws.proofs.seen.write_is_seen.Goals as goal

pub returns : goal.returns
returns g c = λ s e usage first t old edit u z took r. write_wrote _ _ s usage first t old edit r
