use Rattle.point_copy.proofs.Images.{copies_are_old}
use Rattle.point_copy.proofs.law.copies_are_old.Goals as goal

pub returns : goal.returns
returns c = λ run d n lines old z keeps tracks few e. copies_are_old run d n lines old z keeps tracks few e
