use Rattle.std.proofs.Common.{arith}
use Rattle.volume_file.proofs.Fields.{number_spelled}
use Rattle.volume_file.proofs.track.length_in.Goals as goal

pub returns-clause-spelled : goal.returns-clause-spelled
returns-clause-spelled c = number_spelled c.args.field.now _ (λ i. omega (arith, c.type_inv.field i)) (omega arith) c.read_u32-size.ensures
