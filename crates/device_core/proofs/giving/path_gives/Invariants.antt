use Rattle.std.proofs.Common.{◌≡◌, ◌<◌, [], ℕ, length}
use Rattle.std.specs.Prelude.{slice_index_or}
use Rattle.deck_plan.specs.Plans.{plan_of}
use Rattle.plain_defs.specs.Whole.{GivesAll}
use Rattle.device_core.proofs.giving.path_gives.Given as goal

abbrev pub invariant-loop-i : goal.invariant-loop-i
invariant-loop-i l = ((k : ℕ) → k < l.i → GivesAll (slice_index_or (plan_of l.plans l.path) k [])) × (l.i-end ≡ length (plan_of l.plans l.path))
