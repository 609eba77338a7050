use Rattle.std.proofs.Common.{◌≡◌, ◌+◌, drop}
use Rattle.path_top.specs.Journals.{count_before}
use Rattle.path_top.proofs.journal.count_before.Given as goal

-- those so far came before, and the others that do are still to be counted
abbrev pub invariant-loop-acted : goal.invariant-loop-acted
invariant-loop-acted l = (l.n ≡ l.acted-index) × (l.n + count_before l.k (drop l.acted-index l.acts) ≡ count_before l.k l.acts)
