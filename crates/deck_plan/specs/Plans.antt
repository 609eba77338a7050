-- The programs of the four paths of a device.
use Rattle.std.specs.Prelude.{ℕ, ◌-◌, List, [], ◌∷◌, ◌++◌, slice_index_or, slice_set}
use Rattle.ckd_types.specs.declared.channel.Ccw.{Ccw}

-- the programs of path 1, of path 2, of path 3 and of path 4, each path's in their order
abbrev pub PlansByPath : Type 0
PlansByPath = List (List (List Ccw))

abbrev pub no_plans : PlansByPath
no_plans = [] ∷ [] ∷ [] ∷ [] ∷ []

-- the programs of one path
abbrev pub plan_of : PlansByPath → ℕ → List (List Ccw)
plan_of plans path = slice_index_or plans (path - 1) []

-- one path has a program more, and the others have what they had
abbrev pub with_program : PlansByPath → ℕ → List Ccw → PlansByPath
with_program plans path program = slice_set plans (path - 1) (plan_of plans path ++ program ∷ [])
