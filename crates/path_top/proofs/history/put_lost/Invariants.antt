use Rattle.std.proofs.Common.{◌≤◌, map}
use Rattle.loss_model.specs.Lost.{lost_tracks}
use Rattle.report_text.specs.declared.line.ReportLine.TheVariants as lines
use Rattle.track_table.specs.Marked.{marked_left}
use Rattle.path_top.proofs.Texts.{PutLines}
use Rattle.path_top.proofs.history.put_lost.Given as goal

abbrev pub invariant-loop-t : goal.invariant-loop-t
invariant-loop-t g l =
    PutLines (g.K.Sink.held l.fn.sink) l.fn.buffer (g.K.Sink.held l.sink) l.buffer (map (lines.Lost l.d) (lost_tracks l.lost))
    (map (lines.Lost l.d) (marked_left l.t-iterator))
    × (g.K.Sink.faults l.fn.sink ≤ g.K.Sink.faults l.sink)
