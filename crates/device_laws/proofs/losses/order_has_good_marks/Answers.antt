use Rattle.device_laws.proofs.LossLaws.{order_marks}
use Rattle.device_laws.proofs.losses.order_has_good_marks.Goals as goal

pub returns : goal.returns
returns c = λ v w s h i. order_marks v w s h i
