-- Of the tracks below one, the least that passes a test, and how many pass it.
use Rattle.std.specs.Prelude.{ℕ, zero, suc, ◌+◌, Bool, Option, Some, None, if◌then◌else◌}

abbrev pub or_else : Option ℕ → Option ℕ → Option ℕ
or_else (Some t) later = Some t
or_else None later = later

unfoldable pub least : ℕ → (ℕ → Bool) → Option ℕ
least zero passes = None
least (suc n) passes = or_else (least n passes) (if passes n then Some n else None)

unfoldable pub count_below : ℕ → (ℕ → Bool) → ℕ
count_below zero passes = 0
count_below (suc n) passes = count_below n passes + (if passes n then 1 else 0)
