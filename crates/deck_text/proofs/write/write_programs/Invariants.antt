use Rattle.std.proofs.Common.{◌≤◌, drop}
use Rattle.std.specs.List.{flat_map}
use Rattle.ckd_outside.proofs.Lines.{Put}
use Rattle.deck_text.specs.Canonical.{planned_text}
use Rattle.deck_text.proofs.write.write_programs.Given as goal

-- the programs so far are put, and the others are left
abbrev pub invariant-loop-i : goal.invariant-loop-i
invariant-loop-i g l =
    Put (g.K.Sink.held l.fn.sink) l.fn.buffer (g.K.Sink.held l.sink) l.buffer (flat_map planned_text l.deck.programs)
    (flat_map planned_text (drop l.i l.deck.programs))
    × (g.K.Sink.faults l.fn.sink ≤ g.K.Sink.faults l.sink)
