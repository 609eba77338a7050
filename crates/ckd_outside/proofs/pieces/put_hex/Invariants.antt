use Rattle.std.proofs.Common.{◌≤◌, length}
use Rattle.hex.specs.Hex.{encode_upper}
use Rattle.ckd_outside.proofs.Lines.{Put}
use Rattle.ckd_outside.proofs.pieces.put_hex.Given as goal

abbrev pub invariant-loop-rest : goal.invariant-loop-rest
invariant-loop-rest g l =
    Put (g.K.Sink.held l.fn.sink) l.fn.buffer (g.K.Sink.held l.sink) l.buffer (encode_upper l.bytes) (encode_upper l.rest)
    × (g.K.Sink.faults l.fn.sink ≤ g.K.Sink.faults l.sink)

abbrev pub decreases-loop-rest : goal.decreases-loop-rest
decreases-loop-rest g l = length l.rest
