-- Counts of volume calls, which stop at the greatest of 64 bits.
use Rattle.std.specs.Prelude.{ℕ, zero, suc}
use Rattle.device_outside.specs.Volume.{counted}

-- a count behind so many more calls
abbrev pub more_calls : ℕ → ℕ → ℕ
more_calls zero n = n
more_calls (suc k) n = counted (more_calls k n)
