-- The numbers that are drawn from a seed.
use Rattle.std.specs.Prelude.{ℕ, ◌+◌, ◌*◌, ◌/◌, ◌%◌, ◌^◌}

-- the number behind x
unfoldable pub next_number : ℕ → ℕ
next_number x = (x * 6364136223846793005 + 1442695040888963407) % 2 ^ 64

-- one of m choices, by what stands above a number's low 33 bits
unfoldable pub choice_of : ℕ → ℕ → ℕ
choice_of m x = x / 2 ^ 33 % m
