-- When a fault may be answered.
use Rattle.std.specs.Prelude.{ℕ, ◌+◌, ◌-◌, ◌^◌, ◌<◌, ◌≤◌, min, ⊤, Option, None, Some, Result, OnErr}

-- the count rose in a call, or stands at its type's end as the call returns
abbrev pub Rose : ℕ → ℕ → Type 0
Rose before now = min (before + 1) (2 ^ 64 - 1) ≤ now

-- a count of faults never falls, and a call fails only where it rose
pub record HasCause {T E : Type 0} (before now : ℕ) (result : Result T E) : Type 0 where
  pub later : before ≤ now
  pub failed : OnErr result (Rose before now)

-- an allowance that is told is not raised
abbrev pub IsKept : Option ℕ → Option ℕ → Type 0
IsKept None now = ⊤
IsKept (Some before) None = ⊥
IsKept (Some before) (Some now) = now ≤ before

-- an allowance that is told is lowered
abbrev pub IsLowered : Option ℕ → Option ℕ → Type 0
IsLowered None now = ⊤
IsLowered (Some before) None = ⊥
IsLowered (Some before) (Some now) = now < before

-- no call raises the allowance, and a call that fails lowers it
pub record Spends {T E : Type 0} (before now : Option ℕ) (result : Result T E) : Type 0 where
  pub kept : IsKept before now
  pub failed : OnErr result (IsLowered before now)
