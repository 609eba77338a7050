use Rattle.std.proofs.Common.{◌≡◌, ◌++◌, ◌+◌, drop}
use Rattle.deck_plan.specs.Plans.{plan_of}
use Rattle.page_text.specs.DeckRows.{numbered_programs, path_programs}
use Rattle.page_text.proofs.deck_rows.put_path.Given as goal

-- what is left, behind what was put, is the whole
abbrev pub invariant-loop-i : goal.invariant-loop-i
invariant-loop-i l =
    l.page ++ numbered_programs l.device l.path (l.i + 1) (drop l.i (plan_of l.plans l.path)) ≡ l.fn.page ++ path_programs l.device l.plans l.path
