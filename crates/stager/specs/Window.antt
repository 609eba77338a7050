-- The part of a ring that holds a queue.
use Rattle.std.specs.Prelude.{ℕ, List, ◌++◌, take, drop}

-- the n slots from k on, around the end
abbrev pub window : ℕ → ℕ → List ℕ → List ℕ
window k n slots = take n (drop k slots ++ take k slots)
