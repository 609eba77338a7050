use Rattle.std.proofs.Common.{arith}
use Rattle.track_table.specs.Bits.{is_marked}
use Rattle.track_table.proofs.Counts.{few_marked}
use Rattle.track_table.proofs.counted.CountedBits.count.Goals as goal

pub returns-clause-range : goal.returns-clause-range
returns-clause-range c =
    let few = few_marked 65535 (is_marked c.self.inside.bits) in
    omega (arith, few, c.self.invariant.0)
