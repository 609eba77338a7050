use Rattle.std.proofs.Common.{◌≤◌, drop}
use Rattle.std.specs.List.{flat_map}
use Rattle.ckd_outside.proofs.Lines.{Put}
use Rattle.ckd_outside.proofs.spelling.put_all.Given as goal

abbrev pub invariant-loop-it : goal.invariant-loop-it
invariant-loop-it g l =
    Put (g.K.Sink.held l.fn.sink) l.fn.buffer (g.K.Sink.held l.sink) l.buffer (flat_map g.S.Spelling.text l.list)
    (flat_map g.S.Spelling.text (drop l.it-index l.list))
    × (g.K.Sink.faults l.fn.sink ≤ g.K.Sink.faults l.sink)
