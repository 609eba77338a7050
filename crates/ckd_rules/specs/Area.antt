-- The bytes that a word gives an area.
use Rattle.std.specs.Prelude.{ℕ, ◌-◌, List, ◌++◌, take, drop, replicate, length}
use Rattle.ckd_types.specs.declared.channel.Ccw.{Ccw}

-- the first n bytes, with zeros for those that are missing
abbrev pub padded : ℕ → List ℕ → List ℕ
padded n bytes = take n bytes ++ replicate (n - length bytes) 0

-- the bytes that are given and that the count reaches
abbrev pub given_taken : Ccw → List ℕ
given_taken c = take c.count c.given

-- n bytes from a place on: those that are missing, and those that the count does not reach, are zeros
abbrev pub given_at : ℕ → ℕ → Ccw → List ℕ
given_at from n c = padded n (drop from (given_taken c))
