use Rattle.std.proofs.Common.{◌≤◌, ◌+◌, ◌++◌, ℕ, List, length}
use Rattle.report_audit.specs.Progress.{GoesOn}
use Rattle.report_audit.proofs.pieces.PieceAudit.take_piece.Given as goal

abbrev pub decreases-loop-left : goal.decreases-loop-left
decreases-loop-left l = length l.left

-- what is left comes to what the piece came to
abbrev pub invariant-loop-left : goal.invariant-loop-left
invariant-loop-left l =
    ((rest : List ℕ) → GoesOn l.fn.self.audit (l.fn.self.line ++ (l.piece ++ rest)) l.self.audit (l.self.line ++ (l.left ++ rest)))
    × (l.self.audit.lines + length l.left ≤ l.fn.self.audit.lines + length l.piece)
