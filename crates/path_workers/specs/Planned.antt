-- How many calls of a volume may still fail, where it tells which do: those of its plan that are still to come.
use Rattle.std.specs.Prelude.{ℕ, ◌+◌, ◌-◌, ◌^◌, ◌&&◌, Bool, List, Option, Some, None, nat_lt, option_map, if◌then◌else◌}
use Rattle.std.specs.List.{list_all}
use Rattle.ckd_outside.specs.Memory.{to_come}
use Rattle.device_outside.specs.Outside.{Outside}
use Rattle.device_outside.specs.Volume.{Plan, VolumeView}

-- each of these numbers is one that a single call has, as calls are counted
abbrev pub come_once : List ℕ → Bool
come_once numbers = list_all (λ (n : ℕ). nat_lt n (2 ^ 64 - 1)) numbers

-- by a plan of such numbers, after so many reads and writes; and else as the volume tells it
abbrev pub still_failing : Option Plan → ℕ → ℕ → Option ℕ → Option ℕ
still_failing None reads writes told = told
still_failing (Some p) reads writes told =
    if come_once p.reads && come_once p.writes then Some (to_come reads p.reads + to_come writes p.writes) else told

module _ {R : Type 0} where
  abbrev pub as_planned : VolumeView R → VolumeView R
  as_planned v = record v { allowance = still_failing v.plan v.reads v.writes v.allowance }

  -- of both sides
  abbrev pub told_planned : {K : Type 0} → Outside R K → Outside R K
  told_planned u = record u { a = option_map as_planned u.a; b = option_map as_planned u.b }
