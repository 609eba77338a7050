use Rattle.std.proofs.Common.{◌≡◌, take}
use Rattle.deck_plan.proofs.plan.copy_programs.Given as goal

-- the programs so far are copied
abbrev pub invariant-loop-program : goal.invariant-loop-program
invariant-loop-program l = l.copied.items ≡ take l.program-index l.programs
