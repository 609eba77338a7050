-- Where the programs of a deck stand: each among those of its path of its device.
use Rattle.std.specs.Prelude.{◌<◌, ℕ, List, [], length, map, slice_index_or}
use Rattle.ckd_types.specs.declared.channel.Ccw.{Ccw}
use Rattle.deck_plan.specs.Plans.{PlansByPath, no_plans, plan_of}
use Rattle.deck_text.specs.declared.line.PlannedProgram.{PlannedProgram}
use Rattle.deck_text.specs.declared.planned.ProgramPlace.{ProgramPlace}
use Rattle.deck_text.specs.Plans.{HasPlans}

abbrev pub planned_as : ℕ → ℕ → List Ccw → PlannedProgram
planned_as path device program = record { path = path; device = device; program = program }

-- the programs of a place's path of its device
abbrev pub plan_at : List PlansByPath → ProgramPlace → List (List Ccw)
plan_at plans place = plan_of (slice_index_or plans place.device no_plans) place.path

abbrev pub planned_at : List PlansByPath → ProgramPlace → PlannedProgram
planned_at plans place = planned_as place.path place.device (slice_index_or (plan_at plans place) place.index [])

abbrev pub first_place : ProgramPlace
first_place = record { path = 0; device = 0; index = 0 }

-- each place has a program, and each device has those of the deck that are its own
pub record IsPlanned (places : List ProgramPlace) (plans : List PlansByPath) : Type 0 where
  pub there : (k : ℕ) → k < length places → (slice_index_or places k first_place).index < length (plan_at plans (slice_index_or places k first_place))
  pub plans_of_all : HasPlans (map (planned_at plans) places) plans
