use Rattle.std.proofs.Common.{◌≤◌, drop}
use Rattle.ckd_outside.proofs.Lines.{Put}
use Rattle.report_text.specs.Report.{lost_text}
use Rattle.report_text.proofs.report.put_lost.Given as goal

abbrev pub invariant-loop-i : goal.invariant-loop-i
invariant-loop-i g l =
    Put (g.K.Sink.held l.fn.sink) l.fn.buffer (g.K.Sink.held l.sink) l.buffer (lost_text l.device l.tracks)
    (lost_text l.device (drop l.i l.tracks))
    × (g.K.Sink.faults l.fn.sink ≤ g.K.Sink.faults l.sink)
