use Rattle.device_laws.proofs.WholeTwins.{whole_linked}
use Rattle.subsystem_laws.proofs.looking.Talks.{by_background}
use Rattle.subsystem_laws.proofs.looking.TwinPeek.{peek_whole}
use Rattle.subsystem_laws.proofs.looks.look_is_step.Goals as goal

pub returns : goal.returns
returns g c = λ v w d h others n t u z e a i lt may r tells.
    whole_linked others h t (λ ok x. x) (peek_whole v w d h n lt (by_background d.store.half n may) i) r tells
