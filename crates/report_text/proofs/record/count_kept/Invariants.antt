use Rattle.std.proofs.Common.{drop}
use Rattle.report_text.specs.Record.{IsSpent, kept_lines}
use Rattle.report_text.proofs.Counted.{Counted}
use Rattle.report_text.proofs.record.count_kept.Given as goal

abbrev pub invariant-loop-kept : goal.invariant-loop-kept
invariant-loop-kept l =
    Counted l.counts (kept_lines (drop l.kept-index l.list) l.bytes_left l.others_left) (kept_lines l.list l.bytes l.others) l.kept-index
    × IsSpent (drop l.kept-index l.list) l.bytes_left l.others_left
