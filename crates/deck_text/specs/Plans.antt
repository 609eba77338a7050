-- The programs of a deck by device and path.
use Rattle.std.specs.Prelude.{◌≡◌, ◌<◌, ℕ, ◌==◌, List, [], ◌∷◌, length, slice_index_or, if◌then◌else◌}
use Rattle.deck_plan.specs.Plans.{PlansByPath, no_plans, with_program}
use Rattle.deck_text.specs.declared.line.PlannedProgram.{PlannedProgram}

-- a program comes to the plans of a device
abbrev pub plan_added : ℕ → PlansByPath → PlannedProgram → PlansByPath
plan_added d plans p = if p.device == d then with_program plans p.path p.program else plans

-- these programs come to the plans of a device, in their order
abbrev pub planned_all : ℕ → PlansByPath → List PlannedProgram → PlansByPath
planned_all d plans [] = plans
planned_all d plans (p ∷ ps) = planned_all d (plan_added d plans p) ps

-- the plans of a device
abbrev pub plans_of : List PlannedProgram → ℕ → PlansByPath
plans_of programs d = planned_all d no_plans programs

-- each of sixteen devices has its plans
pub record HasPlans (programs : List PlannedProgram) (plans : List PlansByPath) : Type 0 where
  pub devices : length plans ≡ 16
  pub each : (d : ℕ) → d < 16 → slice_index_or plans d no_plans ≡ plans_of programs d
