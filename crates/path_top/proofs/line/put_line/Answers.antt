use Rattle.path_top.proofs.Texts.{puts_one}
use Rattle.path_top.proofs.line.put_line.Goals as goal

pub returns-clause-bytes : goal.returns-clause-bytes
returns-clause-bytes g c = puts_one _ _ _ _ _ c.args.line.now c.put.ensures.bytes
