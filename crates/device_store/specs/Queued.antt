-- Tracks that wait to be staged.
use Rattle.std.specs.Prelude.{ℕ, Bool, List, nat_lt}
use Rattle.std.specs.List.{list_all}

-- each of them is one of the first n
abbrev pub are_below : ℕ → List ℕ → Bool
are_below n queue = list_all (λ t. nat_lt t n) queue
