use Rattle.std.proofs.Common.{◌≤◌, drop}
use Rattle.path_top.specs.Journals.{end_lines}
use Rattle.path_top.proofs.Texts.{PutLines}
use Rattle.path_top.proofs.journal.put_ends.Given as goal

abbrev pub invariant-loop-k : goal.invariant-loop-k
invariant-loop-k g l =
    PutLines (g.K.Sink.held l.fn.sink) l.fn.buffer (g.K.Sink.held l.sink) l.buffer (end_lines l.d l.entry 0 l.fn.before l.entry.acts l.entry.ends)
    (end_lines l.d l.entry l.k l.loose l.left (drop l.k l.ends))
    × (g.K.Sink.faults l.fn.sink ≤ g.K.Sink.faults l.sink)
