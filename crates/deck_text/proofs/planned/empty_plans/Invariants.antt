use Rattle.std.proofs.Common.{◌≡◌, ℕ, length, get_or}
use Rattle.deck_plan.specs.Plans.{no_plans}
use Rattle.deck_text.proofs.planned.empty_plans.Given as goal

-- the plans so far are empty
abbrev pub invariant-loop-device : goal.invariant-loop-device
invariant-loop-device l = (length l.plans.items ≡ l._device) × ((d : ℕ) → get_or l.plans.items d no_plans ≡ no_plans)
