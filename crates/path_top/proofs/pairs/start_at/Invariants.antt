use Rattle.std.proofs.Common.{◌≡◌, ◌+◌, drop, length}
use Rattle.path_top.specs.Pairs.{before_start}
use Rattle.path_top.proofs.pairs.start_at.Given as goal

-- those so far stand before it, and the others that do are still to be counted
abbrev pub invariant-loop-line : goal.invariant-loop-line
invariant-loop-line l = (l.n ≡ l.line-index) × (l.n + length (before_start (drop l.line-index l.lines)) ≡ length (before_start l.lines))
