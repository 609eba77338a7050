use Rattle.std.proofs.Common.{◌≤◌, drop}
use Rattle.path_top.specs.Journals.{act_lines}
use Rattle.path_top.proofs.Texts.{PutLines}
use Rattle.path_top.proofs.journal.put_acts.Given as goal

abbrev pub invariant-loop-acted : goal.invariant-loop-acted
invariant-loop-acted g l =
    PutLines (g.K.Sink.held l.fn.sink) l.fn.buffer (g.K.Sink.held l.sink) l.buffer (act_lines l.d l.fn.before l.acts)
    (act_lines l.d l.loose (drop l.acted-index l.acts))
    × (g.K.Sink.faults l.fn.sink ≤ g.K.Sink.faults l.sink)
