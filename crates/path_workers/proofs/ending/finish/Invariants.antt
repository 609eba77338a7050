use Rattle.path_workers.specs.Keeping.{StaysKept}
use Rattle.path_workers.proofs.ending.finish.Given as goal

-- what was kept is kept
abbrev pub invariant-loop : goal.invariant-loop
invariant-loop g l = (goal.iterator-loop g).can_next l.iterator' × (goal.iterator-loop g).is_finite l.iterator' × StaysKept l.fn.device l.device
