use Rattle.std.proofs.Common.{◌≤◌, length}
use Rattle.ckd_outside.proofs.Lines.{Put}
use Rattle.ckd_outside.proofs.pieces.write_text.Given as goal

abbrev pub invariant-loop-rest : goal.invariant-loop-rest
invariant-loop-rest g l =
    Put (g.K.Sink.held l.fn.sink) l.fn.buffer (g.K.Sink.held l.sink) l.buffer l.text l.rest
    × (g.K.Sink.faults l.fn.sink ≤ g.K.Sink.faults l.sink)

abbrev pub decreases-loop-rest : goal.decreases-loop-rest
decreases-loop-rest g l = length l.rest
