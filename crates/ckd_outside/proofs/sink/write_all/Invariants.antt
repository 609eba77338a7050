use Rattle.std.proofs.Common.{◌≤◌, length}
use Rattle.ckd_outside.proofs.Written.{Wrote}
use Rattle.ckd_outside.proofs.sink.write_all.Given as goal

abbrev pub invariant-loop-rest : goal.invariant-loop-rest
invariant-loop-rest g l =
    Wrote (g.K.Sink.held l.fn.sink) (g.K.Sink.held l.sink) l.text l.rest
    × (g.K.Sink.faults l.fn.sink ≤ g.K.Sink.faults l.sink)

abbrev pub decreases-loop-rest : goal.decreases-loop-rest
decreases-loop-rest g l = length l.rest
