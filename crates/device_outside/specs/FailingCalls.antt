-- The calls of one kind, of which some fail.
use Rattle.std.specs.Prelude.{◌≡◌, ◌<◌, ℕ, false, List}
use Rattle.device_outside.specs.Lists.{is_in}

-- how many there were, and the numbers of those that fail
pub record CallCount : Type 0 where
  pub made : ℕ
  pub failing : List ℕ

-- no call behind those that were made and before the next one fails
abbrev pub IsQuiet : ℕ → ℕ → List ℕ → Type 0
IsQuiet made next failing = (m : ℕ) → made < m → m < next → is_in m failing ≡ false
