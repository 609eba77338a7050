use Rattle.subsystem_laws.proofs.looking.Hears.{look_is_heard}
use Rattle.subsystem_laws.proofs.looks.look_is_heard.Goals as goal

pub returns : goal.returns
returns g c = λ keeper later p q xs ys ms n t m f all there may lt came. look_is_heard _ keeper later p q xs ys ms n t m f all there may lt came
