use Rattle.std.proofs.Common.{◌≡◌, ◌≤◌, ◌-◌, length}
use Rattle.report_audit.proofs.Whole.{IsRead}
use Rattle.report_audit.proofs.reading.read_audit.Given as goal

abbrev pub invariant-loop-size : goal.invariant-loop-size
invariant-loop-size g l =
    IsRead (g.S.Source.left l.fn.source) (g.S.Source.left l.source) l.audit l.size
    × (l.audit.audit.lines ≤ l.size)
    × (l.size ≤ 268435457)
    × (length l.buffer ≡ 65536)
    × (g.S.Faulty.faults l.source ≡ g.S.Faulty.faults l.fn.source)

abbrev pub decreases-loop-size : goal.decreases-loop-size
decreases-loop-size g l = 268435457 - l.size
