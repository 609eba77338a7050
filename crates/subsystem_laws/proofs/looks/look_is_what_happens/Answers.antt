use Rattle.subsystem_laws.proofs.looking.Talks.{look_so}
use Rattle.subsystem_laws.proofs.looks.look_is_what_happens.Goals as goal

pub returns : goal.returns
returns g c = λ p q xs ys ms n t m f all there may lt came. look_so _ p q xs ys ms n t m f all there may lt came
