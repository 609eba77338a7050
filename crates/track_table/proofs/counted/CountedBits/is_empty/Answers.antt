use Rattle.std.proofs.Common.{◌∙◌, sym, arith}
use Rattle.std.proofs.lemmas.Bool.{eqb-true}
use Rattle.track_table.proofs.Counts.{none_marked}
use Rattle.track_table.proofs.counted.CountedBits.is_empty.Goals as goal

pub returns : goal.returns
returns c = λ is t.
    rw (← c.self.view_is) (none_marked c.self.inside.bits (omega (arith, c.self.invariant.1)) (sym c.self.invariant.0 ∙ eqb-true c.self.inside.count 0 is) t)
