-- What stands in a line.
use Rattle.std.specs.Prelude.{◌≢◌, ◌<◌, ℕ, List, length, slice_index}

-- no line feed
abbrev pub IsOneLine : List ℕ → Type 0
IsOneLine line = (k : ℕ) → k < length line → slice_index line k ≢ 10
