use Rattle.std.proofs.Common.{◌≤◌, drop}
use Rattle.path_top.specs.Journals.{journal_lines, lines_of_items}
use Rattle.path_top.proofs.Texts.{PutLines}
use Rattle.path_top.proofs.journal.put_journal.Given as goal

abbrev pub invariant-loop-item : goal.invariant-loop-item
invariant-loop-item g l =
    PutLines (g.K.Sink.held l.fn.sink) l.fn.buffer (g.K.Sink.held l.sink) l.buffer (journal_lines l.d l.items)
    (lines_of_items l.d l.loose (drop l.item-index l.items))
    × (g.K.Sink.faults l.fn.sink ≤ g.K.Sink.faults l.sink)
