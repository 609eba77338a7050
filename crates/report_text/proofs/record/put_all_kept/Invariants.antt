use Rattle.std.proofs.Common.{◌≤◌, drop}
use Rattle.ckd_outside.proofs.Lines.{Put}
use Rattle.report_text.specs.Ends.{lines_text}
use Rattle.report_text.specs.Record.{IsSpent, kept_lines}
use Rattle.report_text.proofs.record.put_all_kept.Given as goal

abbrev pub invariant-loop-kept : goal.invariant-loop-kept
invariant-loop-kept g l =
    Put (g.K.Sink.held l.fn.sink) l.fn.buffer (g.K.Sink.held l.sink) l.buffer (lines_text (kept_lines l.list l.bytes l.others))
    (lines_text (kept_lines (drop l.kept-index l.list) l.bytes_left l.others_left))
    × (g.K.Sink.faults l.fn.sink ≤ g.K.Sink.faults l.sink)
    × IsSpent (drop l.kept-index l.list) l.bytes_left l.others_left
