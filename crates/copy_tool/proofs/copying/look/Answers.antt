use Rattle.copy_tool.proofs.Looking.{look_so}
use Rattle.point_copy.specs.Copying.{next_given}
use Rattle.copy_tool.proofs.copying.look.Goals as goal

pub returns-in-Ok-clause-reaches : goal.returns-in-Ok-clause-reaches
returns-in-Ok-clause-reaches c = λ w is.
    look_so c.args.copying.now _ w is c.in-Ok.given c.take.result (c.in-Ok.ensures.given w.state is.old is.copy)
    (c.take.ensures (next_given w.state).behind)
