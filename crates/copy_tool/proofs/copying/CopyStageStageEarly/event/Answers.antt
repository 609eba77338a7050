use Rattle.std.proofs.Common.{refl}
use Rattle.line_drive.specs.Driven.{Comes}
use Rattle.copy_tool.proofs.Staged.{did_so, goes_on, on_map, on_ok}
use Rattle.copy_tool.proofs.copying.CopyStageStageEarly.event.Goals as goal

pub returns-clause-goes_on : goal.returns-clause-goes_on
returns-clause-goes_on c = on_ok c.event.result (goes_on _ _ c.event.ensures.numbers)

pub returns-clause-did : goal.returns-clause-did
returns-clause-did c = λ w is. on_map c.event.result (did_so c.args.self.now _ (Comes c.args.e) w is refl) (c.event.ensures.copies w.state is.old is.copy)

pub returns-clause-settled : goal.returns-clause-settled
returns-clause-settled c = λ w is. c.event.ensures.settled w.state is.old is.copy
